use Rattle.std.proofs.Common.{◌≡◌, ◌+◌, take, count_by}
use Rattle.sloth_base.proofs.Kept.{Loop}
use Rattle.asm_scopes.specs.Statements.{is_label, is_item}
use Rattle.asm_parse.specs.NameFaults.{LineNameFault}
use Rattle.asm_parse.proofs.body_faults.line_faults.Given as goal

abbrev pub invariant-loop-n : goal.invariant-loop-n
invariant-loop-n l = record {
  finds : Loop (LineNameFault l.scope l.labels l.fn.items l.at) l.lines l.n l.least;
  labels : l.count ≡ count_by is_label (take l.n l.lines);
  items : l.items ≡ l.fn.items + count_by is_item (take l.n l.lines);
}
