use Rattle.std.proofs.Common.{◌≡◌}
use Rattle.debug_view.specs.Contexts.{chain_context}
use Rattle.debug_view.proofs.registers.chain_context.Given as goal

abbrev pub decreases-loop-left : goal.decreases-loop-left
decreases-loop-left l = l.left

-- the rest of the chain leads where all of it leads
abbrev pub invariant-loop-left : goal.invariant-loop-left
invariant-loop-left l = (chain_context l.bus l.left l.address l.task ≡ chain_context l.fn.bus l.links l.first l.task) × (l.bus ≡ l.fn.bus)
