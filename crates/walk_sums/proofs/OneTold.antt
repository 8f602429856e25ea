-- One thing is told of a greatest sum.
use Rattle.std.proofs.Common.{◌≡◌, ℕ, suc, ◌<◌, ◌≤◌, ◌⊎◌, List, refl, ap, arith, ⊎_elim}
use Rattle.sloth_base.specs.Limits.{count_limit}
use Rattle.osek_blocking.specs.Walks.{Position}
use Rattle.bound_rules.specs.declared.bound.BodyWeights.{BodyWeights}
use Rattle.walk_sums.specs.declared.sections.Sum.{Sum}
use Rattle.walk_sums.specs.declared.sections.Sum.TheVariants as sum
use Rattle.walk_sums.specs.Weights.{sum_of}
use Rattle.walk_sums.specs.Told.{SomeReaches, IsGreatestSum, ReachesLimit, IsToldSum}

module _ (Part : List Position → Type 0) (weights : List BodyWeights) where
  no_more : (n m : ℕ) → IsGreatestSum Part weights n → IsGreatestSum Part weights m → n ≤ m
  no_more n m a b = ⊎_elim (λ none. omega (arith, none)) (λ s. let le = b.none_above s.0 s.1 in let reach = s.2 in omega (arith, le, reach)) a.attained

  one_sum : (n m : ℕ) → IsGreatestSum Part weights n → IsGreatestSum Part weights m → n ≡ m
  one_sum n m a b = let le = no_more n m a b in let more = no_more m n b a in omega (arith, le, more)

  told_or_huge : (n : ℕ) → IsGreatestSum Part weights n → n < count_limit → ReachesLimit Part weights count_limit → ⊥
  told_or_huge n a lt r =
      let s = r.some_reaches in
      let le = a.none_above s.0 s.1 in
      let reach = s.2 in
      absurd (let wrong : ⊥ = omega (arith, lt, le, reach) in wrong)

  limited_or_none : (most : ℕ) → ((positions : List Position) → Part positions → sum_of weights positions ≤ most) → ((n : ℕ) → SomeReaches Part weights n) → ⊥
  limited_or_none most none e =
      let s = e (suc most) in
      let le = none s.0 s.1 in
      let reach = s.2 in
      absurd (let wrong : ⊥ = omega (arith, le, reach) in wrong)

  pub one_told : (one other : Sum) → IsToldSum Part weights one → IsToldSum Part weights other → one ≡ other
  one_told (sum.Counts n) (sum.Counts m) a b = ap sum.Counts (one_sum n m a.0 b.0)
  one_told (sum.Counts n) sum.Huge a b = absurd (told_or_huge n a.0 a.1 b)
  one_told (sum.Counts n) sum.Endless a b = absurd (limited_or_none n a.0.none_above b)
  one_told sum.Huge (sum.Counts m) a b = absurd (told_or_huge m b.0 b.1 a)
  one_told sum.Huge sum.Huge a b = refl
  one_told sum.Huge sum.Endless a b = absurd (limited_or_none a.most a.none_above b)
  one_told sum.Endless (sum.Counts m) a b = absurd (limited_or_none m b.0.none_above a)
  one_told sum.Endless sum.Huge a b = absurd (limited_or_none b.most b.none_above a)
  one_told sum.Endless sum.Endless a b = refl
