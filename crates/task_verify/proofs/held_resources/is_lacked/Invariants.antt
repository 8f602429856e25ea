use Rattle.std.proofs.Common.{◌≡◌, ◌&&◌}
use Rattle.call_graph.specs.Bits.{is_member}
use Rattle.call_graph.specs.Reached.{any_below}
use Rattle.task_verify.specs.Uses.{lacks}
use Rattle.task_verify.proofs.held_resources.is_lacked.Given as goal

abbrev pub invariant-loop-number : goal.invariant-loop-number
invariant-loop-number l = l.lacked ≡ any_below l.number (λ t. is_member l.users t && lacks l.config t l.mask)
