use Rattle.std.proofs.Common.{take, Some}
use Rattle.response_reasons.specs.LoopCode.{IsLeastLine}
use Rattle.response_reasons.proofs.Tables.{AreLinesOf}
use Rattle.response_reasons.proofs.loops.Loops.own_lines.Given as goal

abbrev pub invariant-loop-number : goal.invariant-loop-number
invariant-loop-number l = AreLinesOf l.self.walks.app (IsLeastLine l.self (Some l.priority)) (take l.number-index l.self.walks.order) l.lines.items
