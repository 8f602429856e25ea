use Rattle.std.proofs.Common.{◌≡◌, ◌≤◌}
use Rattle.schedule_picture.specs.Picture.{tasks_above}
use Rattle.schedule_picture.proofs.text.tasks_above.Given as goal

abbrev pub invariant-loop-other : goal.invariant-loop-other
invariant-loop-other l = (l.above ≡ tasks_above l.levels l.task l.other) × (l.above ≤ l.other)
