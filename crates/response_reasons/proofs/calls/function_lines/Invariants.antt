use Rattle.std.proofs.Common.{take}
use Rattle.response_reasons.specs.Calls.{IsCallLine}
use Rattle.response_reasons.proofs.Tables.{AreLinesOf}
use Rattle.response_reasons.proofs.calls.function_lines.Given as goal

abbrev pub invariant-loop-number : goal.invariant-loop-number
invariant-loop-number l = AreLinesOf l.walks.app (IsCallLine l.walks.app l.counted) (take l.number-index l.walks.order) l.lines.items
