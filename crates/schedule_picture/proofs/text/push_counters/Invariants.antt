use Rattle.std.proofs.Common.{◌≡◌, ◌++◌}
use Rattle.schedule_picture.specs.Drawn.{drawing_of}
use Rattle.schedule_picture.specs.Picture.{counter_lanes}
use Rattle.schedule_picture.proofs.text.push_counters.Given as goal

abbrev pub invariant-loop-counter : goal.invariant-loop-counter
invariant-loop-counter l = l.text.items ≡ l.fn.text.items ++ counter_lanes (drawing_of l.drawn) l.counter
