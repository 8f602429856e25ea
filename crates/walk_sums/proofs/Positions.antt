-- Stacks that are one position.
use Rattle.std.proofs.Common.{◌≡◌, ℕ, suc, ◌<◌, List, [], ◌∷◌, length, get_or, refl, ap, ◌∙◌, arith}
use Rattle.osek_blocking.specs.Walks.{Position}
use Rattle.walk_sums.specs.declared.standing.Standing.{Standing}
use Rattle.walk_sums.specs.Positions.{place_of, position_on, position_of}

same_on : (outer : Position) (a b : List Standing) (d : Standing) → length a ≡ length b
    → ((k : ℕ) → k < length a → (get_or a k d).point ≡ (get_or b k d).point) → position_on outer a ≡ position_on outer b
same_on outer [] [] d e same = refl
same_on outer [] (y ∷ ys) d e same = absurd (omega (arith, e))
same_on outer (x ∷ xs) [] d e same = absurd (omega (arith, e))
same_on outer (x ∷ xs) (y ∷ ys) d e same =
    ap (λ p. position_on (place_of p ∷ outer) xs) (same 0 (omega arith))
    ∙ same_on (place_of y.point ∷ outer) xs ys d (omega (arith, e)) (λ k lt. same (suc k) (omega (arith, lt)))

-- stacks of the same points have one position
pub same_position : (a b : List Standing) (d : Standing) → length a ≡ length b
    → ((k : ℕ) → k < length a → (get_or a k d).point ≡ (get_or b k d).point) → position_of a ≡ position_of b
same_position a b d e same = same_on [] a b d e same
