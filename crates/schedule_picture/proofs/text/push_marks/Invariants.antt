use Rattle.std.proofs.Common.{◌≡◌, ◌++◌, drop}
use Rattle.schedule_picture.specs.Picture.{mark_lines}
use Rattle.schedule_picture.proofs.text.push_marks.Given as goal

abbrev pub invariant-loop-mark : goal.invariant-loop-mark
invariant-loop-mark l =
    l.text.items ++ mark_lines l.image l.levels l.scale (drop l.mark-index l.marks) ≡ l.fn.text.items ++ mark_lines l.image l.levels l.scale l.marks
