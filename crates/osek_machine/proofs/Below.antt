-- Tests of all numbers below one.
use Rattle.std.proofs.Common.{◌≡◌, ◌∙◌, ℕ, zero, suc, ◌<◌, ◌⊎◌, inl, inr, Bool, false, sym, ap, arith}
use Rattle.std.specs.Prelude.{◌&&◌}
use Rattle.std.proofs.Math.Bool.{and-false}
use Rattle.std.proofs.lemmas.Bool.{cases_eq}
use Rattle.osek_scheduler.specs.Next.{all_below}

-- a number that fails the test
pub not_all : (n i : ℕ) (test : ℕ → Bool) → i < n → test i ≡ false → all_below n test ≡ false
not_all zero i test h f = absurd (omega (arith, h))
not_all (suc n) i test h f = by (cases_eq i n) (λ less. not_all n i test less f)
  where
    by : (i ≡ n) ⊎ (i ≡ n → ⊥) → (i < n → all_below n test ≡ false) → all_below (suc n) test ≡ false
    by (inl e) rest = ap (λ b. b && all_below n test) (ap test (sym e) ∙ f)
    by (inr ne) rest = ap (λ b. test n && b) (rest (omega (arith, h, ne))) ∙ and-false (test n)
