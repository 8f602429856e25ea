use Rattle.std.proofs.Common.{◌≡◌, ◌++◌, drop}
use Rattle.bounds_text.specs.TaskBound.{point_words}
use Rattle.bounds_text.proofs.task_bound.push_points.Given as goal

abbrev pub invariant-loop-point : goal.invariant-loop-point
invariant-loop-point l = l.text.items ++ point_words l.app (drop l.point-index l.points) ≡ l.initial.text.items ++ point_words l.app l.points
