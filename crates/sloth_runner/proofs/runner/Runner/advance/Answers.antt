use Rattle.std.proofs.Common.{◌≡◌, ◌∙◌, ◌+◌, List, [], ◌∷◌, ◌++◌, ap, sym, subst}
use Rattle.sloth_base.specs.Machine.{State}
use Rattle.sloth_base.specs.Take.{execution_state}
use Rattle.sloth_base.specs.declared.service.Stamped.{Stamped}
use Rattle.sloth_base.specs.declared.numbers.Step.{Step}
use Rattle.observe.specs.Progress.{HasProgress, view_of, arrivals_of, expected_count}
use Rattle.observe.specs.declared.observing.Observer.{Observer}
use Rattle.rv32_machine.specs.Advance.{Goes, Halts, step_of}
use Rattle.sloth_runner.specs.Runner.{HasExecuted, image_of}
use Rattle.sloth_runner.specs.Moments.{sloth_state}
use Rattle.sloth_runner.specs.declared.runner.RunEnd.TheVariants as ends
use Rattle.sloth_runner.proofs.Turning.{moment-is, machine-more}
use Rattle.sloth_runner.proofs.runner.Runner.advance.Goals as goal

pub returns-in-Ok-clause-went : goal.returns-in-Ok-clause-went
returns-in-Ok-clause-went c =
    let r = c.args.self.now in
    let a = c.arrive_now.new.self in
    let m = c.step_front.new.self in
    let q = c.tell.new.self in
    let step : Step = step_of c.in-Ok.front (sloth_state m) in
    let observer : a.observer ≡ r.observer = c.arrive_now.ensures.observer in
    let F : Observer → Type 0 = λ o. (steps : List Step) (events : List Stamped) → HasProgress o steps events → HasProgress q.observer (steps ++ step ∷ []) events in
    let executed : HasExecuted a q step = record {
      goes = c.in-Ok.ensures.ok ∙ ap (λ (s : State). Goes step s) (sym c.tell.ensures.state);
      shown = c.in-Ok.ensures.shown;
      count = c.tell.ensures.count ∙ c.in-Ok.ensures.count;
    } in
    record {
      step = step;
      goes = moment-is r a (Goes step (sloth_state q.machine)) c.arrive_now.ensures.arrived executed.goes;
      fed = subst F observer c.tell.ensures.fed;
      view = c.tell.ensures.view ∙ ap view_of observer;
      expected = c.tell.ensures.expected ∙ ap (λ (o : Observer). expected_count o + 1) observer;
      ran = machine-more r a q (image_of r) step c.requires.running.ran c.arrive_now.ensures.arrived executed
          (c.tell.ensures.arrivals ∙ ap arrivals_of observer) c.tell.ensures.coming;
    }

pub returns-in-Err-clause-halted : goal.returns-in-Err-clause-halted
returns-in-Err-clause-halted c =
    let r = c.args.self.now in
    let a = c.arrive_now.new.self in (
      c.in-Err.stop,
      moment-is r a (Halts c.in-Err.stop) c.arrive_now.ensures.arrived c.in-Err.ensures.err,
      ap (λ pc. ends.Stopped pc c.in-Err.stop) (c.next_pc.ensures ∙ ap (λ (m : State). (execution_state m).pc) (c.in-Err.ensures.same ∙ c.arrive_now.ensures.arrived.state)),
    )
