use Rattle.std.proofs.Common.{take, None}
use Rattle.response_reasons.specs.LoopCode.{IsLeastLine}
use Rattle.response_reasons.proofs.Tables.{AreLinesOf}
use Rattle.response_reasons.proofs.loops.Loops.whole_lines.Given as goal

abbrev pub invariant-loop-number : goal.invariant-loop-number
invariant-loop-number l = AreLinesOf l.self.walks.app (IsLeastLine l.self None) (take l.number-index l.self.walks.order) l.lines.items
