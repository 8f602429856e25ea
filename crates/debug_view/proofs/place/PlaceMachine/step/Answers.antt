use Rattle.std.proofs.Common.{◌≡◌, ◌<◌, ◌+◌, ◌∙◌, ℕ, Option, Some, None, if◌then◌else◌, sym, ap, subst}
use Rattle.std.specs.Prelude.{map}
use Rattle.std.specs.Option.{unwrap_or}
use Rattle.sloth_base.specs.Arrive.{state_arrive}
use Rattle.observe.specs.Progress.{arrivals_due, arrivals_behind}
use Rattle.rv32_instr.specs.Memory.{Memory, memory_of}
use Rattle.rv32_machine.specs.State.{state}
use Rattle.rv32_machine.specs.Advance.{Goes, Halts, advance, step_of}
use Rattle.rv32_machine.specs.declared.machine.Machine.{Machine}
use Rattle.sloth_inspect.specs.States.{running_number_in}
use Rattle.debug_view.specs.ShownRun.{run_of}
use Rattle.debug_view.specs.Standing.{Standing, StandsAt}
use Rattle.debug_view.proofs.Standing.{goes_on, inside_run, halted_here, last_here}
use Rattle.debug_view.proofs.place.PlaceMachine.step.Goals as goal

pub returns-then-self-ge-COUNT_LIMIT-clause-ended : goal.returns-then-self-ge-COUNT_LIMIT-clause-ended
returns-then-self-ge-COUNT_LIMIT-clause-ended c stays =
    let i = c.self.inside in
    let P : Standing → Type 0 = λ place. place.count ≡ (run_of place.image place.arrivals).end in
    subst P c.self.view_is
    (last_here i.image.now i.arrivals.now i.coming.now (state (λ bus. bus) i.machine) i.machine.count i.began i.open_count c.self.invariant c.if-self-ge-COUNT_LIMIT.true)

pub invariant_of-self : goal.invariant_of-self
invariant_of-self c =
    let i = c.self.inside in
    let now = state (λ bus. bus) i.machine in
    let moved = state (λ bus. bus) c.step_front.new.self in
    let after = state (λ bus. bus) c.arrive-self-inside.new.machine in
    let n = c.arrive-self-inside.new.machine.count in
    let same = c.running_number-running.ensures.same in
    let went = c.in-Ok.ensures in
    let counted : n ≡ c.step_front.new.self.count = c.arrive-self-inside.ensures.count in
    let M : Machine Memory → Type 0 = λ machine. advance machine.count (state (λ bus. bus) machine) ≡ Goes (step_of c.in-Ok.field-0 moved) moved in
    let stands =
    goes_on i.image.now i.arrivals.now i.coming.now c.arrive-self-inside.result.now now moved after i.machine.count n i.began i.open_count (step_of c.in-Ok.field-0 moved)
    c.self.invariant c.if-self-ge-COUNT_LIMIT.false (subst M same went.ok)
    (counted ∙ went.count ∙ ap (λ (machine : Machine Memory). machine.count + 1) same)
    (c.arrive-self-inside.ensures.state ∙ ap (λ m. state_arrive (map (λ a. a.line) (arrivals_due m i.coming.now)) moved) (sym counted))
    (c.arrive-self-inside.ensures.behind ∙ ap (λ m. arrivals_behind m i.coming.now) (sym counted)) in
    let began : c.began_behind-self-inside.result ≡ (if after.core.mie then None else Some (unwrap_or i.began (running_number_in (memory_of now.core)))) =
    c.began_behind-self-inside.ensures
    ∙ ap (λ b. if b then None else Some (unwrap_or i.began c.running_number-running.result)) c.enabled-enabled.ensures
    ∙ ap (λ r. if after.core.mie then None else Some (unwrap_or i.began r)) c.running_number-running.ensures.number in
    let opened : c.open_behind-self-inside.result ≡ (if after.core.mie then Some n else i.open_count) =
    c.open_behind-self-inside.ensures ∙ ap (λ b. if b then Some n else i.open_count) c.enabled-enabled.ensures in
    let B : Option ℕ → Type 0 = λ b. StandsAt i.image.now i.arrivals.now c.arrive-self-inside.result.now after n b (if after.core.mie then Some n else i.open_count) in
    let O : Option ℕ → Type 0 = λ o. StandsAt i.image.now i.arrivals.now c.arrive-self-inside.result.now after n c.began_behind-self-inside.result o in
    subst O (sym opened) (subst B (sym began) stands)

pub returns-in-Ok-clause-inside : goal.returns-in-Ok-clause-inside
returns-in-Ok-clause-inside c went =
    let i = c.self.inside in
    let moved = state (λ bus. bus) c.step_front.new.self in
    let M : Machine Memory → Type 0 = λ machine. advance machine.count (state (λ bus. bus) machine) ≡ Goes (step_of c.in-Ok.field-0 moved) moved in
    let P : Standing → Type 0 = λ place. place.count < (run_of place.image place.arrivals).end in
    subst P c.self.view_is
    (inside_run i.image.now i.arrivals.now i.coming.now (state (λ bus. bus) i.machine) moved i.machine.count i.began i.open_count (step_of c.in-Ok.field-0 moved)
    c.self.invariant c.if-self-ge-COUNT_LIMIT.false (subst M c.running_number-running.ensures.same c.in-Ok.ensures.ok))

pub returns-in-Err-clause-ended : goal.returns-in-Err-clause-ended
returns-in-Err-clause-ended c stays =
    let i = c.self.inside in
    let M : Machine Memory → Type 0 = λ machine. advance machine.count (state (λ bus. bus) machine) ≡ Halts c.in-Err.field-0 in
    let P : Standing → Type 0 = λ place. place.count ≡ (run_of place.image place.arrivals).end in
    subst P c.self.view_is
    (halted_here i.image.now i.arrivals.now i.coming.now (state (λ bus. bus) i.machine) i.machine.count i.began i.open_count c.in-Err.field-0
    c.self.invariant c.if-self-ge-COUNT_LIMIT.false (subst M c.running_number-running.ensures.same c.in-Err.ensures.err))
