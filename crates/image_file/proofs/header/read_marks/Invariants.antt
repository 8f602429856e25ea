use Rattle.std.proofs.Common.{◌≡◌, length}
use Rattle.image_file.specs.Reading.{MarksStand}
use Rattle.image_file.proofs.header.read_marks.Given as goal

abbrev pub invariant-loop-i : goal.invariant-loop-i
invariant-loop-i l = MarksStand l.bytes l.at l.services l.funcs l.size l.marks.items × (length l.marks.items ≡ l.i)
