use Rattle.std.proofs.Common.{◌≡◌, ◌&&◌, not}
use Rattle.sloth_base.specs.Named.{declaration}
use Rattle.code_rules.specs.Code.{is_in}
use Rattle.call_graph.specs.Bits.{is_member}
use Rattle.call_graph.specs.Reached.{any_below}
use Rattle.task_verify.proofs.held_resources.is_unlisted.Given as goal

abbrev pub invariant-loop-number : goal.invariant-loop-number
invariant-loop-number l = l.unlisted ≡ any_below l.number (λ t. is_member l.users t && not (is_in l.resource (declaration l.config t).resources))
