use Rattle.std.proofs.Common.{◌≡◌, ◌≤◌, ◌*◌, take, count_by}
use Rattle.std.specs.List.{sum_by}
use Rattle.sloth_base.specs.Limits.{operand_limit}
use Rattle.sloth_base.specs.declared.refusal.Part.TheVariants.{Src}
use Rattle.sloth_base.specs.Search.{Somewhere}
use Rattle.asm_scopes.specs.Statements.{is_data}
use Rattle.asm_parse.specs.NameFaults.{bytes_of}
use Rattle.stage_faults.specs.ToldNames.{ToldData}
use Rattle.stage_faults.specs.Told.{Adds}
use Rattle.stage_faults.proofs.notes.symbol_notes.Given as goal

abbrev pub invariant-loop-n : goal.invariant-loop-n
invariant-loop-n l = record {
  told : Adds Src (Somewhere ToldData (take l.n l.lines)) l.initial.notes.items l.notes.items;
  counted : l.count ≡ count_by is_data (take l.n l.lines);
  summed : l.bytes ≡ sum_by bytes_of (take l.n l.lines);
  few : l.bytes ≤ operand_limit * l.n;
}
