-- Which stack each task has: all basic tasks the first, each extended task one of its own.
use Rattle.std.proofs.Common.{◌≡◌, ◌≢◌, ℕ, zero, suc, ◌+◌, ◌-◌, ◌<◌, ◌≤◌, ◌==◌, ⊎_elim, ◌⊎◌, inl, inr, true, false, cond, List, length, refl, ap, subst, arith}
use Rattle.std.proofs.lemmas.Bool.{cases_Bool, cases_lt, cond-true, cond-false, eqb-true, eqb-false}
use Rattle.sloth_base.specs.declared.config.TaskDecl.{TaskDecl}
use Rattle.mem_map.specs.StackParts.{is_extended, own_before, first_own, stack_number}
use Rattle.mem_map.proofs.StackCount.{stack_count}

module _ (tasks : List TaskDecl) where
  abbrev n : ℕ
  n = length tasks

  -- one more where the task is extended
  counted : (t : ℕ) → is_extended tasks t ≡ true → own_before tasks (suc t) ≡ own_before tasks t + 1
  counted t e = ap (λ b. own_before tasks t + cond b 1 0) e

  -- none more where it is basic
  pub skipped : (t : ℕ) → is_extended tasks t ≡ false → own_before tasks (suc t) ≡ own_before tasks t
  skipped t e = let z : own_before tasks (suc t) ≡ own_before tasks t + 0 = ap (λ b. own_before tasks t + cond b 1 0) e in omega (arith, z)

  by_one : (t : ℕ) → (own_before tasks t ≤ own_before tasks (suc t)) × (own_before tasks (suc t) ≤ own_before tasks t + 1)
  by_one t = ⊎_elim
      (λ yes. let e = counted t yes in (omega (arith, e), omega (arith, e)))
      (λ no. let e = skipped t no in (omega (arith, e), omega (arith, e)))
      (cases_Bool (is_extended tasks t))

  -- between two tasks there are at most as many as lie between
  abbrev Between : (t u more : ℕ) → Type 0
  Between t u more = (own_before tasks t ≤ own_before tasks u) × (own_before tasks u ≤ own_before tasks t + more)

  grows : (more t u : ℕ) → u ≡ t + more → Between t u more
  grows zero t u e =
      let same : t ≡ u = omega (arith, e) in
      subst (λ x. Between t x 0) same (omega arith, omega arith)
  grows (suc more) t u e =
      let r = grows more t (t + more) refl in
      let s = by_one (t + more) in
      let same : suc (t + more) ≡ u = omega (arith, e) in
      subst (λ x. Between t x (suc more)) same (omega (arith, r.0, s.0), omega (arith, r.1, s.1))

  -- a later task has no fewer before it
  pub no_less : (t u : ℕ) → t ≤ u → Between t u (u - t)
  no_less t u l = grows (u - t) t u (omega (arith, l))

  -- another stack for each extended task
  pub rises : (t u : ℕ) → t < u → is_extended tasks t ≡ true → own_before tasks t < own_before tasks u
  rises t u l e = let c = counted t e in let r = (no_less (suc t) u (omega (arith, l))).0 in omega (arith, c, r)

  at_most : (t : ℕ) → own_before tasks t ≤ t
  at_most t = let r = (no_less 0 t (omega arith)).1 in omega (arith, r)

  all_or_less : ((own_before tasks n ≡ n) × (first_own tasks ≡ 0)) ⊎ ((own_before tasks n < n) × (first_own tasks ≡ 1))
  all_or_less =
      let l = at_most n in
      ⊎_elim
      (λ yes. inl (eqb-true (own_before tasks n) n yes, cond-true (own_before tasks n == n) 0 1 yes))
      (λ no. let ne = eqb-false (own_before tasks n) n no in inr (omega (arith, l, ne), cond-false (own_before tasks n == n) 0 1 no))
      (cases_Bool (own_before tasks n == n))

  -- there are no more stacks than tasks
  pub few_stacks : stack_count tasks ≤ n
  few_stacks = ⊎_elim (λ a. let e = a.1 in let f = a.0 in omega (arith, e, f)) (λ a. let e = a.1 in let f = a.0 in omega (arith, e, f)) all_or_less

  -- a basic task makes that there is a shared stack
  pub shares : (t : ℕ) → t < n → is_extended tasks t ≡ false → first_own tasks ≡ 1
  shares t l basic = ⊎_elim
      (λ a.
      let all = a.0 in
      let s = skipped t basic in
      let m = at_most t in
      let r = (no_less (suc t) n (omega (arith, l))).1 in
      absurd (omega (arith, all, s, m, r, l)))
      (λ a. a.1)
      all_or_less

  -- the stack of an extended task is behind those of all before it
  pub number_own : (t : ℕ) → is_extended tasks t ≡ true → stack_number tasks t ≡ first_own tasks + own_before tasks t
  number_own t e = cond-true (is_extended tasks t) (first_own tasks + own_before tasks t) 0 e

  -- a basic task has the first
  pub number_shared : (t : ℕ) → is_extended tasks t ≡ false → stack_number tasks t ≡ 0
  number_shared t e = cond-false (is_extended tasks t) (first_own tasks + own_before tasks t) 0 e

  -- each task's number is that of a stack
  pub number_below : (t : ℕ) → t < n → stack_number tasks t < stack_count tasks
  number_below t l = ⊎_elim
      (λ yes. let e = number_own t yes in let r = rises t n l yes in omega (arith, e, r))
      (λ no. let e = number_shared t no in let s = shares t l no in omega (arith, e, s))
      (cases_Bool (is_extended tasks t))

  -- no other task has an extended task's stack
  pub differ : (t u : ℕ) → t < n → u < n → t ≢ u → is_extended tasks t ≡ true → stack_number tasks t ≢ stack_number tasks u
  differ t u lt lu ne e same = ⊎_elim
      (λ yes.
      let x = number_own t e in
      let y = number_own u yes in
      ⊎_elim
      (λ l. let r = rises t u l e in omega (arith, x, y, r, same))
      (λ l. let r = rises u t (omega (arith, l, ne)) yes in omega (arith, x, y, r, same))
      (cases_lt t u))
      (λ no.
      let x = number_own t e in
      let y = number_shared u no in
      let s = shares u lu no in
      omega (arith, x, y, s, same))
      (cases_Bool (is_extended tasks u))

  -- each of an extended task's stacks is found
  own_found : (end k : ℕ) → k < own_before tasks end → (t : ℕ) × (t < end) × (is_extended tasks t ≡ true) × (own_before tasks t ≡ k)
  own_found zero k l = absurd (omega (arith, l))
  own_found (suc end) k l = ⊎_elim
      (λ before. let r = own_found end k before in (r.0, (let m = r.1 in omega (arith, m)), r.2, r.3))
      (λ past.
      ⊎_elim
      (λ yes. let c = counted end yes in (end, omega arith, yes, omega (arith, c, l, past)))
      (λ no. let s = skipped end no in absurd (omega (arith, s, l, past)))
      (cases_Bool (is_extended tasks end)))
      (cases_lt k (own_before tasks end))

  basic_found : (end : ℕ) → own_before tasks end < end → (t : ℕ) × (t < end) × (is_extended tasks t ≡ false)
  basic_found zero l = absurd (omega (arith, l))
  basic_found (suc end) l = ⊎_elim
      (λ yes. let c = counted end yes in let r = basic_found end (omega (arith, c, l)) in (r.0, (let m = r.1 in omega (arith, m)), r.2))
      (λ no. (end, omega arith, no))
      (cases_Bool (is_extended tasks end))

  -- a shared stack is that of some basic task
  pub has_basic : 0 < first_own tasks → (t : ℕ) × (t < n) × (is_extended tasks t ≡ false)
  has_basic some = ⊎_elim (λ a. let e = a.1 in absurd (omega (arith, e, some))) (λ a. basic_found n a.0) all_or_less

  -- each stack is one of a task
  pub found : (k : ℕ) → k < stack_count tasks → (t : ℕ) × (t < n) × (stack_number tasks t ≡ k)
  found k l = ⊎_elim
      (λ first.
      ⊎_elim
      (λ a. let e = a.1 in absurd (omega (arith, e, first)))
      (λ a. let r = basic_found n a.0 in let e = a.1 in let z = number_shared r.0 r.2 in (r.0, r.1, omega (arith, z, e, first)))
      all_or_less)
      (λ behind.
      let r = own_found n (k - first_own tasks) (omega (arith, l, behind)) in
      let e = number_own r.0 r.2 in
      let f = r.3 in
      (r.0, r.1, omega (arith, e, f, behind)))
      (cases_lt k (first_own tasks))
