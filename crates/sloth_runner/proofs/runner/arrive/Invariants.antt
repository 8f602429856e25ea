use Rattle.std.proofs.Common.{◌≡◌, drop, map}
use Rattle.sloth_base.specs.Arrive.{state_arrive}
use Rattle.sloth_runner.specs.Moments.{sloth_state}
use Rattle.sloth_runner.proofs.runner.arrive.Given as goal

abbrev pub invariant-loop-arrival : goal.invariant-loop-arrival
invariant-loop-arrival l =
    (state_arrive (map (λ a. a.line) (drop l.arrival-index l.arrivals)) (sloth_state l.machine) ≡ state_arrive (map (λ a. a.line) l.arrivals) (sloth_state l.fn.machine))
    × (l.machine.count ≡ l.fn.machine.count)
