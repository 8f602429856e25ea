use Rattle.std.proofs.Common.{◌≡◌, take, count_by}
use Rattle.asm_scopes.specs.Statements.{is_item}
use Rattle.asm_parse.proofs.body_faults.count_items.Given as goal

abbrev pub invariant-loop-line : goal.invariant-loop-line
invariant-loop-line l = l.items ≡ count_by is_item (take l.line-index l.lines)
