-- What the shape of the ways tells.
use Rattle.std.proofs.Common.{◌≡◌, ℕ, true, false, List}
use Rattle.std.proofs.lemmas.Bool.{false≢true, true≢false}
use Rattle.walk_sums.specs.declared.graph.Ways.{Ways}
use Rattle.walk_sums.specs.Loops.{HasWeighingLoop}
use Rattle.walk_sums.specs.declared.paths.Shape.{Shape}
use Rattle.walk_sums.specs.declared.paths.Shape.TheVariants as shapes
use Rattle.walk_sums.specs.Shapes.{IsShape, HasOrder, is_endless}
use Rattle.walk_sums.proofs.Ordered.{no_loop}

pub has_order : (ways : List Ways) (steps : List ℕ) (s : Shape) → IsShape ways steps s → HasOrder ways s
has_order ways steps (shapes.Ordered order) is = is
has_order ways steps shapes.Looped is = tt
has_order ways steps shapes.Endless is = tt

pub loop_is : (ways : List Ways) (steps : List ℕ) (s : Shape) → IsShape ways steps s → is_endless s ≡ true → HasWeighingLoop ways steps
loop_is ways steps (shapes.Ordered order) is e = absurd (false≢true e)
loop_is ways steps shapes.Looped is e = absurd (false≢true e)
loop_is ways steps shapes.Endless is e = is

pub loop_none : (ways : List Ways) (steps : List ℕ) (s : Shape) → IsShape ways steps s → is_endless s ≡ false → ¬ (HasWeighingLoop ways steps)
loop_none ways steps (shapes.Ordered order) is e = no_loop ways order is steps
loop_none ways steps shapes.Looped is e = is
loop_none ways steps shapes.Endless is e = absurd (true≢false e)
