use Rattle.std.proofs.Common.{◌≡◌}
use Rattle.sloth_base.specs.Named.{item_of}
use Rattle.call_graph.specs.Reached.{any_below}
use Rattle.walk_sums.specs.Computed.{called_summary}
use Rattle.walk_sums.proofs.levels.Caller.calls_endless.Given as goal

abbrev pub invariant-loop-number : goal.invariant-loop-number
invariant-loop-number l = l.endless ≡ any_below l.number (λ i. (called_summary l.self.known i (item_of l.self.known.func i).op).is_endless)
