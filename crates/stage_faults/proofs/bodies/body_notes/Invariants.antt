use Rattle.std.proofs.Common.{◌≡◌, ◌≤◌, ◌*◌, take}
use Rattle.std.specs.List.{sum_by}
use Rattle.sloth_base.specs.declared.refusal.Part.TheVariants.{Src}
use Rattle.sloth_base.specs.Search.{Somewhere}
use Rattle.asm_parse.specs.NameFaults.{items_in}
use Rattle.stage_faults.specs.ToldNames.{ToldBody}
use Rattle.stage_faults.specs.Told.{Adds}
use Rattle.stage_faults.proofs.bodies.body_notes.Given as goal

abbrev pub invariant-loop-n : goal.invariant-loop-n
invariant-loop-n l = record {
  told : Adds Src (Somewhere (ToldBody l.scope) (take l.n l.bodies)) l.initial.notes.items l.notes.items;
  items : l.items ≡ sum_by items_in (take l.n l.bodies);
  few : l.items ≤ 4294967295 * l.n;
}
