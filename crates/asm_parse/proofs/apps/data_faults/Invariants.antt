use Rattle.std.proofs.Common.{◌≡◌, ◌≤◌, ◌*◌, take, count_by}
use Rattle.std.specs.List.{sum_by}
use Rattle.sloth_base.specs.Limits.{operand_limit}
use Rattle.sloth_base.proofs.Kept.{Loop}
use Rattle.asm_scopes.specs.Statements.{is_data}
use Rattle.asm_parse.specs.NameFaults.{bytes_of, DataFault}
use Rattle.asm_parse.proofs.apps.data_faults.Given as goal

abbrev pub invariant-loop-n : goal.invariant-loop-n
invariant-loop-n l = record {
  finds : Loop DataFault l.lines l.n l.least;
  counted : l.count ≡ count_by is_data (take l.n l.lines);
  summed : l.bytes ≡ sum_by bytes_of (take l.n l.lines);
  few : l.bytes ≤ operand_limit * l.n;
}
