use Rattle.core_commands.proofs.OwnOutput.{IsApartSoFar}
use Rattle.core_commands.proofs.top.is_among.Given as goal

abbrev pub invariant-loop-input : goal.invariant-loop-input
invariant-loop-input g l = IsApartSoFar (g.F.Store.seen l.fn.files) (g.F.Store.seen l.files) l.name l.inputs l.input-index
