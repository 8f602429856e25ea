-- Draws one behind the other, and texts.
use Rattle.std.proofs.Common.{◌≡◌, ◌∙◌, ℕ, ◌+◌, ◌-◌, ◌≤◌, List, ◌++◌, append_assoc, add-one, arith, refl, ap}
use Rattle.app_gen.specs.Draws.{next_draw, draw}

pub draw_next : (seed k : ℕ) → draw seed (k + 1) ≡ next_draw (draw seed k)
unfolding draw
draw_next seed k = rw add-one refl

-- what was appended before, and what is appended behind it
pub behind : (old mid new a b : List ℕ) → mid ≡ old ++ a → new ≡ mid ++ b → new ≡ old ++ (a ++ b)
behind old mid new a b p q = q ∙ ap (λ x. x ++ b) p ∙ append_assoc old a b

-- a draw behind the one before it
pub draw_behind : (seed k : ℕ) → 1 ≤ k → draw seed k ≡ next_draw (draw seed (k - 1))
draw_behind seed k h =
    let e : k ≡ (k - 1) + 1 = omega arith in ap (draw seed) e ∙ draw_next seed (k - 1)
