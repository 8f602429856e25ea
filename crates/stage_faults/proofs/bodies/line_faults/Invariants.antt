use Rattle.std.proofs.Common.{◌≡◌, ◌+◌, take, count_by}
use Rattle.sloth_base.specs.declared.refusal.Part.TheVariants.{Src}
use Rattle.sloth_base.specs.Search.{Somewhere}
use Rattle.asm_scopes.specs.Statements.{is_label, is_item}
use Rattle.stage_faults.specs.ToldNames.{ToldLineName}
use Rattle.stage_faults.specs.Told.{Adds}
use Rattle.stage_faults.proofs.bodies.line_faults.Given as goal

abbrev pub invariant-loop-n : goal.invariant-loop-n
invariant-loop-n l = record {
  told : Adds Src (Somewhere (ToldLineName l.scope l.labels l.fn.items l.number) (take l.n l.lines)) l.initial.notes.items l.notes.items;
  labels : l.count ≡ count_by is_label (take l.n l.lines);
  items : l.items ≡ l.fn.items + count_by is_item (take l.n l.lines);
}
