use Rattle.std.proofs.Common.{◌≡◌, ◌&&◌, get_or, false}
use Rattle.sloth_base.specs.Named.{item_of}
use Rattle.call_graph.specs.Reached.{any_below}
use Rattle.walk_sums.specs.KnownBodies.{is_return}
use Rattle.walk_sums.proofs.bodies.has_return.Given as goal

abbrev pub invariant-loop-number : goal.invariant-loop-number
invariant-loop-number l = l.returns ≡ any_below l.number (λ i. get_or l.reached i false && is_return (item_of l.func i).op)
