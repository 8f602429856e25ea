use Rattle.std.proofs.Common.{◌<◌, arith, subst}
use Rattle.rv32_machine.specs.State.{state}
use Rattle.rv32_machine.specs.Advance.{step_of}
use Rattle.debug_view.specs.ShownRun.{run_of}
use Rattle.debug_view.specs.Standing.{Standing}
use Rattle.debug_view.specs.States.{end_at}
use Rattle.debug_view.proofs.Standing.{inside_run}
use Rattle.debug_view.proofs.place.PlaceMachine.stop.Goals as goal

pub unreachable-requires : goal.unreachable-requires
unreachable-requires c =
    let i = c.self.inside in
    let moved = state (λ bus. bus) c.step_front.new.self in
    let inside : i.machine.count < end_at i.image.now i.arrivals.now =
    inside_run i.image.now i.arrivals.now i.coming.now (state (λ bus. bus) i.machine) moved i.machine.count i.began i.open_count (step_of c.in-Ok.field-0 moved)
    c.self.invariant c.if-self-ge-COUNT_LIMIT.false c.in-Ok.ensures.ok in
    let P : Standing → Type 0 = λ place. place.count < (run_of place.image place.arrivals).end in
    let before : c.args.self.now.count < (run_of c.args.self.now.image c.args.self.now.arrivals).end = subst P c.self.view_is inside in
    let ends = c.requires in
    omega (arith, before, ends)
