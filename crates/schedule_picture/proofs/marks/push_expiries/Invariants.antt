use Rattle.std.proofs.Common.{◌≡◌, ◌++◌}
use Rattle.schedule_picture.specs.Marks.{expiries}
use Rattle.schedule_picture.proofs.marks.push_expiries.Given as goal

abbrev pub invariant-loop-alarm : goal.invariant-loop-alarm
invariant-loop-alarm l = l.marks.items ≡ l.fn.marks.items ++ expiries l.at l.counter l.before l.now l.alarm
