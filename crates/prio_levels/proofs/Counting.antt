-- A level is at least 1, and grows with the priority.
use Rattle.std.proofs.Common.{◌≡◌, ℕ, ◌<◌, ◌≤◌, Bool, true, false, cond, List, [], ◌∷◌, length, get_or, suc, zero, refl, ap, arith}
use Rattle.std.specs.Prelude.{count_by, nat_le}
use Rattle.std.proofs.lemmas.List.Sums.{sum_by-cons}
use Rattle.std.proofs.lemmas.Bool.{le-leb, leb-true, lt-leb}
use Rattle.sloth_base.specs.declared.config.TaskDecl.{TaskDecl}
use Rattle.sloth_base.specs.PriorityLevels.{level_among}

module _ {X : Type 0} (p q : X → Bool) (weaker : (x : X) → p x ≡ true → q x ≡ true) where
  pub ones : (x : X) → cond (p x) 1 0 ≤ cond (q x) 1 0
  ones x = by (p x) refl
    where
      by : (b : Bool) → p x ≡ b → cond (p x) 1 0 ≤ cond (q x) 1 0
      by true e = rw (e, weaker x e) (omega arith)
      by false e = rw e (omega arith)

  pub count_by-le : (xs : List X) → count_by p xs ≤ count_by q xs
  count_by-le [] = omega arith
  count_by-le (x ∷ xs) =
      let a = sum_by-cons (λ y. cond (p y) 1 0) x xs in
      let b = sum_by-cons (λ y. cond (q y) 1 0) x xs in
      let h = count_by-le xs in
      let o = ones x in
      omega (arith, a, b, h, o)

  -- an element that only the second test lets through
  pub count_by-lt : (xs : List X) (k : ℕ) (d : X) → k < length xs → p (get_or xs k d) ≡ false → q (get_or xs k d) ≡ true → count_by p xs < count_by q xs
  count_by-lt [] k d h f t = absurd (omega arith)
  count_by-lt (x ∷ xs) zero d h f t =
      let a = sum_by-cons (λ y. cond (p y) 1 0) x xs in
      let b = sum_by-cons (λ y. cond (q y) 1 0) x xs in
      let l = count_by-le xs in
      let m : cond {A = ℕ} (p x) 1 0 ≡ 0 = ap (λ (v : Bool). cond {A = ℕ} v 1 0) f in
      let n : cond {A = ℕ} (q x) 1 0 ≡ 1 = ap (λ (v : Bool). cond {A = ℕ} v 1 0) t in
      omega (arith, a, b, l, m, n)
  count_by-lt (x ∷ xs) (suc k) d h f t =
      let a = sum_by-cons (λ y. cond (p y) 1 0) x xs in
      let b = sum_by-cons (λ y. cond (q y) 1 0) x xs in
      let l = count_by-lt xs k d (omega arith) f t in
      let o = ones x in
      omega (arith, a, b, l, o)

module _ (tasks : List TaskDecl) (t : ℕ) (d : TaskDecl) (within : t < length tasks) where
  pub level-lt : (priority : ℕ) → priority < (get_or tasks t d).priority → level_among tasks priority < level_among tasks (get_or tasks t d).priority
  level-lt priority h =
      count_by-lt (λ s. nat_le s.priority priority) (λ s. nat_le s.priority (get_or tasks t d).priority)
      (λ s e. le-leb s.priority (get_or tasks t d).priority (let l = leb-true s.priority priority e in omega (arith, l, h)))
      tasks t d within (lt-leb (get_or tasks t d).priority priority h) (le-leb (get_or tasks t d).priority (get_or tasks t d).priority (omega arith))

  pub level-positive : 0 < level_among tasks (get_or tasks t d).priority
  level-positive =
      let l = count_by-lt (λ s. false) (λ s. nat_le s.priority (get_or tasks t d).priority) (λ s e. cc)
      tasks t d within refl (le-leb (get_or tasks t d).priority (get_or tasks t d).priority (omega arith)) in omega (arith, l)
