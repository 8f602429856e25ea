use Rattle.std.proofs.Common.{◌≡◌, ◌++◌, drop}
use Rattle.stage_faults.specs.Told.{told_from}
use Rattle.stage_faults.proofs.notes.distinct.Given as goal

abbrev pub invariant-loop-note : goal.invariant-loop-note
invariant-loop-note l = l.list.items ++ told_from l.place (drop l.note-index l.notes) ≡ told_from 0 l.notes
