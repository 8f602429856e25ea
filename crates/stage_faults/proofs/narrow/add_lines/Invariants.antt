use Rattle.std.proofs.Common.{map, take}
use Rattle.sloth_base.specs.declared.refusal.Part.TheVariants.{Src}
use Rattle.sloth_base.specs.Search.{Somewhere}
use Rattle.text_pieces.specs.Names.{referent}
use Rattle.stage_faults.specs.Told.{Adds}
use Rattle.stage_faults.specs.ToldNarrow.{NarrowFault}
use Rattle.stage_faults.proofs.narrow.add_lines.Given as goal

abbrev pub invariant-loop-n : goal.invariant-loop-n
invariant-loop-n l = Adds Src (Somewhere NarrowFault (take l.n (map referent l.lines))) l.initial.notes.items l.notes.items
