use Rattle.std.proofs.Common.{◌≡◌, length, filter}
use Rattle.std.specs.Prelude.{not}
use Rattle.observe.specs.Touches.{was_touched}
use Rattle.observe.proofs.touches.skip_early.Given as goal

abbrev pub invariant-loop-arrival : goal.invariant-loop-arrival
invariant-loop-arrival l = filter (λ arrival. not (was_touched l.touched arrival)) l.rest ≡ filter (λ arrival. not (was_touched l.touched arrival)) l.arrivals

abbrev pub decreases-loop-arrival : goal.decreases-loop-arrival
decreases-loop-arrival l = length l.rest
