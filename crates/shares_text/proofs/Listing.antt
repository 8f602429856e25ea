-- Users from the highest down, one by one.
use Rattle.std.proofs.Common.{◌≡◌, ℕ, zero, suc, ◌+◌, ◌<◌, ◌≤◌, ◌⊎◌, inl, inr, Bool, true, false, cond, List, [], ◌∷◌, ◌++◌, length, map, get_or, Option, Some, None, refl, sym, ap, ◌∙◌, subst, arith}
use Rattle.std.specs.Prelude.{ltb}
use Rattle.std.proofs.lemmas.Bool.{true≢false, cases_eq, and_parts, ltb-true, ltb-false}
use Rattle.std.proofs.lemmas.List.{append_assoc, append-nil, get_or_default}
use Rattle.sloth_base.specs.declared.config.TaskDecl.{TaskDecl}
use Rattle.sloth_base.specs.Named.{undeclared_task}
use Rattle.call_graph.specs.Bits.{is_member}
use Rattle.osek_scheduler.specs.Priority.{greatest}
use Rattle.shares_text.specs.declared.keepers.Keeper.{Keeper}
use Rattle.shares_text.specs.declared.contexts.Use.{Use}
use Rattle.shares_text.specs.Computed.{priority_in, is_user_under, higher_of, IsNextUser, IsKeeperBy, AreKeepersBy}

-- a number above all priorities below this one
abbrev pub below : List TaskDecl → Option ℕ → ℕ
below tasks None = suc (greatest (map (λ d. d.priority) tasks))
below tasks (Some priority) = priority

-- no task has a higher one
at_most : (tasks : List TaskDecl) (t : ℕ) → priority_in tasks t ≤ greatest (map (λ d. d.priority) tasks)
at_most [] t = omega arith
at_most (d ∷ tasks) zero = omega arith
at_most (d ∷ tasks) (suc t) = let le = at_most tasks t in omega (arith, le)

module _ (tasks : List TaskDecl) (users : ℕ) (above : Option ℕ) where
  -- one task more, which is a user below
  pub next_more : (n : ℕ) (best : Option ℕ) → IsNextUser tasks users above n best → is_user_under tasks users above n ≡ true
      → IsNextUser tasks users above (n + 1) (higher_of tasks best n)
  next_more n None h e = (omega arith, e, λ u lt k. by u lt k (cases_eq u n))
    where
      by : (u : ℕ) → u < n + 1 → is_user_under tasks users above u ≡ true → (u ≡ n) ⊎ (u ≡ n → ⊥) → priority_in tasks u ≤ priority_in tasks n
      by u lt k (inl s) = let same = ap (priority_in tasks) s in omega (arith, same)
      by u lt k (inr m) = absurd (true≢false (sym k ∙ h u (omega (arith, lt, m))))
  next_more n (Some t) h e = at (ltb (priority_in tasks t) (priority_in tasks n)) refl
    where
      at : (b : Bool) → ltb (priority_in tasks t) (priority_in tasks n) ≡ b → IsNextUser tasks users above (n + 1) (cond (ltb (priority_in tasks t) (priority_in tasks n)) (Some n) (Some t))
      at true f = subst (λ b. IsNextUser tasks users above (n + 1) (cond b (Some n) (Some t))) (sym f) (omega arith, e, λ u lt k. by u lt k (cases_eq u n))
        where
          by : (u : ℕ) → u < n + 1 → is_user_under tasks users above u ≡ true → (u ≡ n) ⊎ (u ≡ n → ⊥) → priority_in tasks u ≤ priority_in tasks n
          by u lt k (inl s) = let same = ap (priority_in tasks) s in omega (arith, same)
          by u lt k (inr m) = let le = h.2 u (omega (arith, lt, m)) k in let less = ltb-true (priority_in tasks t) (priority_in tasks n) f in omega (arith, le, less)
      at false f =
          subst (λ b. IsNextUser tasks users above (n + 1) (cond b (Some n) (Some t))) (sym f)
          ((let lt = h.0 in omega (arith, lt)), h.1, λ u lt k. by u lt k (cases_eq u n))
        where
          by : (u : ℕ) → u < n + 1 → is_user_under tasks users above u ≡ true → (u ≡ n) ⊎ (u ≡ n → ⊥) → priority_in tasks u ≤ priority_in tasks t
          by u lt k (inl s) =
              let same = ap (priority_in tasks) s in
              let le = ltb-false (priority_in tasks t) (priority_in tasks n) f in
              omega (arith, same, le)
          by u lt k (inr m) = h.2 u (omega (arith, lt, m)) k

  -- one that is none
  pub next_same : (n : ℕ) (best : Option ℕ) → IsNextUser tasks users above n best → is_user_under tasks users above n ≡ false → IsNextUser tasks users above (n + 1) best
  next_same n None h e = λ u lt. by u lt (cases_eq u n)
    where
      by : (u : ℕ) → u < n + 1 → (u ≡ n) ⊎ (u ≡ n → ⊥) → is_user_under tasks users above u ≡ false
      by u lt (inl s) = ap (is_user_under tasks users above) s ∙ e
      by u lt (inr m) = h u (omega (arith, lt, m))
  next_same n (Some t) h e = ((let lt = h.0 in omega (arith, lt)), h.1, λ u lt k. by u lt k (cases_eq u n))
    where
      by : (u : ℕ) → u < n + 1 → is_user_under tasks users above u ≡ true → (u ≡ n) ⊎ (u ≡ n → ⊥) → priority_in tasks u ≤ priority_in tasks t
      by u lt k (inl s) = absurd (true≢false (sym k ∙ (ap (is_user_under tasks users above) s ∙ e)))
      by u lt k (inr m) = h.2 u (omega (arith, lt, m)) k

module _ (tasks : List TaskDecl) (ceilings : List ℕ) (users : ℕ) (uses : List Use) where
  -- these stand in front of all that may follow
  abbrev pub Fronts : Option ℕ → List Keeper → Type 0
  Fronts above list = (rest : List Keeper) → AreKeepersBy tasks ceilings users uses above rest → AreKeepersBy tasks ceilings users uses None (list ++ rest)

  task_is : (t : ℕ) (above : Option ℕ) (k : Keeper) → IsKeeperBy tasks ceilings uses t above k → k.task ≡ t
  task_is t None k h = ap (λ (x : Keeper). x.task) h
  task_is t (Some p) k h = h.0

  -- one more of them
  pub fronts_more : (above : Option ℕ) (list : List Keeper) (k : Keeper) (t : ℕ) → Fronts above list → IsNextUser tasks users above (length tasks) (Some t)
      → IsKeeperBy tasks ceilings uses t above k → Fronts (Some (priority_in tasks t)) (list ++ k ∷ [])
  fronts_more above list k t h next is rest are =
      let same = task_is t above k is in
      let P : ℕ → Type 0 = λ x. IsNextUser tasks users above (length tasks) (Some x) × IsKeeperBy tasks ceilings uses x above k
      × AreKeepersBy tasks ceilings users uses (Some (priority_in tasks x)) rest in
      subst (AreKeepersBy tasks ceilings users uses None) (sym (append_assoc list (k ∷ []) rest)) (h (k ∷ rest) (subst P (sym same) (next, is, are)))

  pub fronts_all : (above : Option ℕ) (list : List Keeper) → Fronts above list → IsNextUser tasks users above (length tasks) None
      → AreKeepersBy tasks ceilings users uses None list
  fronts_all above list h none = subst (AreKeepersBy tasks ceilings users uses None) (append-nil list) (h [] none)

-- the next one is below the last
pub smaller : (tasks : List TaskDecl) (users : ℕ) (above : Option ℕ) (n t : ℕ) → IsNextUser tasks users above n (Some t) → priority_in tasks t < below tasks above
smaller tasks users None n t h = let le = at_most tasks t in omega (arith, le)
smaller tasks users (Some p) n t h = ltb-true (priority_in tasks t) p (and_parts (ltb (priority_in tasks t) p) (is_member users t) h.1).0

-- the priority as it is read
pub priority_read : (tasks : List TaskDecl) (t : ℕ) (d : TaskDecl) → t < length tasks → (get_or tasks t d).priority ≡ priority_in tasks t
priority_read tasks t d lt = ap (λ (x : TaskDecl). x.priority) (get_or_default tasks t d undeclared_task lt)
