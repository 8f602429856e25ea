-- One thing is told of greatest sums.
use Rattle.std.proofs.Common.{◌≡◌, ◌∙◌, ◌⊎◌, inl, inr, ℕ, ◌+◌, ◌<◌, ◌≤◌, List, refl, ap, arith}
use Rattle.osek_blocking.specs.Walks.{Position}
use Rattle.bound_rules.specs.declared.bound.BodyWeights.{BodyWeights}
use Rattle.walk_sums.specs.declared.sections.Sum.{Sum}
use Rattle.walk_sums.specs.declared.sections.Sum.TheVariants as sum
use Rattle.walk_sums.specs.declared.sections.RoundSums.{RoundSums}
use Rattle.walk_sums.specs.Told.{NoneIsAbove, SomeReaches, IsToldSum, AreToldBoth, are_limited, are_endless}
use Rattle.walk_sums.proofs.OneTold.{one_told}

pub same_both : (a b : RoundSums) → a.first ≡ b.first → a.later ≡ b.later → a ≡ b
same_both a b f l = ap (λ s. record { first = s; later = a.later }) f ∙ ap (λ s. record { first = b.first; later = s }) l

module _ (weights : List BodyWeights) where
  module _ (Part : List Position → Type 0) where
    below : (n m : ℕ) → (n ≡ 0) ⊎ SomeReaches Part weights n → NoneIsAbove Part weights m → n ≤ m
    below n m (inl zero) none = omega (arith, zero)
    below n m (inr some) none =
        let most = none some.0 some.1 in
        let least = some.2 in
        omega (arith, most, least)

    clash : (n m : ℕ) → SomeReaches Part weights n → NoneIsAbove Part weights m → m < n → ⊥
    clash n m some none lt = let le = below n m (inr some) none in omega (arith, le, lt)

    -- a told sum that is not endless has a limit
    limited : (s : Sum) → (s ≡ sum.Endless → ⊥) → IsToldSum Part weights s → (m : ℕ) × NoneIsAbove Part weights m
    limited (sum.Counts n) finite h = (n, h.0.none_above)
    limited sum.Huge finite h = (h.most, h.none_above)
    limited sum.Endless finite h = absurd (finite refl)

  module _ (First Later : List Position → Type 0) where
    -- where both have a limit, not all numbers are reached
    both_clash : (told : RoundSums) → (told.first ≡ sum.Endless → ⊥) → (told.later ≡ sum.Endless → ⊥) → IsToldSum First weights told.first → IsToldSum Later weights told.later
        → ((n : ℕ) → SomeReaches First weights n ⊎ SomeReaches Later weights n) → ⊥
    both_clash told nf nl f l all =
        let p = limited First told.first nf f in
        let q = limited Later told.later nl l in
        by p.0 q.0 p.1 q.1 (all (p.0 + q.0 + 1))
      where
        by : (m k : ℕ) → NoneIsAbove First weights m → NoneIsAbove Later weights k → SomeReaches First weights (m + k + 1) ⊎ SomeReaches Later weights (m + k + 1) → ⊥
        by m k p q (inl some) = clash First (m + k + 1) m some p (omega arith)
        by m k p q (inr some) = clash Later (m + k + 1) k some q (omega arith)

    pub same_rounds : (one other : RoundSums) → AreToldBoth First Later weights one → AreToldBoth First Later weights other → one ≡ other
    same_rounds one other (are_limited a nf nl f l) (are_limited b mf ml g k) =
        same_both a b (one_told First weights a.first b.first f g) (one_told Later weights a.later b.later l k)
    same_rounds one other (are_limited a nf nl f l) (are_endless all) = absurd (both_clash a nf nl f l all)
    same_rounds one other (are_endless all) (are_limited b mf ml g k) = absurd (both_clash b mf ml g k all)
    same_rounds one other (are_endless all) (are_endless any) = refl
