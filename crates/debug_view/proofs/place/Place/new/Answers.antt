use Rattle.rv32_machine.specs.State.{state}
use Rattle.debug_view.proofs.Standing.{begins}
use Rattle.debug_view.proofs.place.Place.new.Goals as goal

pub invariant_of-result : goal.invariant_of-result
invariant_of-result c =
    let machine = c.in_ok-machine.machine in
    begins c.args.image.now c.args.arrivals.now (state (λ bus. bus) machine) machine.count c.requires.format c.requires.arrivals
    c.in_ok-machine.ensures.state c.in_ok-machine.ensures.count
