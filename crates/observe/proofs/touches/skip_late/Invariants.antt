use Rattle.std.proofs.Common.{◌≡◌, length, filter}
use Rattle.observe.specs.Touches.{was_touched}
use Rattle.observe.proofs.touches.skip_late.Given as goal

abbrev pub invariant-loop-arrival : goal.invariant-loop-arrival
invariant-loop-arrival l = filter (was_touched l.touched) l.rest ≡ filter (was_touched l.touched) l.arrivals

abbrev pub decreases-loop-arrival : goal.decreases-loop-arrival
decreases-loop-arrival l = length l.rest
