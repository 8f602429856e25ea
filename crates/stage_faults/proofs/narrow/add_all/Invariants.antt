use Rattle.std.proofs.Common.{◌≡◌, take, false}
use Rattle.std.specs.List.{fold}
use Rattle.sloth_base.specs.declared.refusal.Part.TheVariants.{Src}
use Rattle.sloth_base.specs.Search.{Somewhere}
use Rattle.asm_lines.specs.Faults.{after_line}
use Rattle.stage_faults.specs.Told.{Adds}
use Rattle.stage_faults.specs.ToldLines.{any_misplaced, ToldAt}
use Rattle.stage_faults.proofs.narrow.add_all.Given as goal

abbrev pub invariant-loop-n : goal.invariant-loop-n
invariant-loop-n l = record {
  told : Adds Src (Somewhere ToldAt (take l.n l.lines)) l.initial.notes.items l.notes.items;
  inside : l.inside ≡ fold after_line false (take l.n l.lines);
  earlier : l.earlier ≡ any_misplaced false (take l.n l.lines);
}
