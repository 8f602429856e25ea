use Rattle.std.proofs.Common.{◌∙◌, ap, sym, subst}
use Rattle.sloth_runner.specs.Runner.{image_of}
use Rattle.sloth_runner.specs.Moments.{sloth_state}
use Rattle.sloth_runner.specs.TaskStates.{interrupts_in}
use Rattle.sloth_runner.specs.declared.runner.Runner.{Runner}
use Rattle.run_samples.specs.Samples.{IsSampling}
use Rattle.run_samples.proofs.NextSample.{IsLookedAt, sample-is, sampling-behind, stops-there}
use Rattle.run_samples.proofs.samples.Sampler.next.Goals as goal

pub returns-in-Ok-clause-sample : goal.returns-in-Ok-clause-sample
returns-in-Ok-clause-sample c =
    let a : Runner = c.arrive_now.new.self in
    let b : Runner = c.tasks_seen.new.runner in
    let d : Runner = c.interrupts_shown-interrupts.new.runner in
    let h : IsLookedAt c.args.self.now a d c.tasks_seen.result c.or-self.result c.interrupts_shown-interrupts.result = record {
      sampling = c.requires.sampling;
      arrives = c.arrive_now.ensures.arrived;
      image_is = c.arrive_now.ensures.image;
      observer = c.arrive_now.ensures.observer;
      same = c.interrupts_shown-interrupts.ensures.same ∙ c.tasks_seen.ensures.same;
      seen_is = c.tasks_seen.ensures.seen;
      last_is = c.or-self.ensures;
      interrupts_is = c.interrupts_shown-interrupts.ensures.interrupts ∙ ap (λ (x : Runner). interrupts_in (image_of x) (sloth_state x.machine)) c.tasks_seen.ensures.same;
    } in
    sample-is c.args.self.now a d c.tasks_seen.result c.or-self.result c.interrupts_shown-interrupts.result h c.execute.new.self c.in-Ok.step c.step_access-access.result
    c.in-Ok.ensures.ok c.step_access-access.ensures.is

pub returns-in-Ok-clause-sampling : goal.returns-in-Ok-clause-sampling
returns-in-Ok-clause-sampling c =
    let a : Runner = c.arrive_now.new.self in
    let d : Runner = c.interrupts_shown-interrupts.new.runner in
    let h : IsLookedAt c.args.self.now a d c.tasks_seen.result c.or-self.result c.interrupts_shown-interrupts.result = record {
      sampling = c.requires.sampling;
      arrives = c.arrive_now.ensures.arrived;
      image_is = c.arrive_now.ensures.image;
      observer = c.arrive_now.ensures.observer;
      same = c.interrupts_shown-interrupts.ensures.same ∙ c.tasks_seen.ensures.same;
      seen_is = c.tasks_seen.ensures.seen;
      last_is = c.or-self.ensures;
      interrupts_is = c.interrupts_shown-interrupts.ensures.interrupts ∙ ap (λ (x : Runner). interrupts_in (image_of x) (sloth_state x.machine)) c.tasks_seen.ensures.same;
    } in
    let P : Runner → Type 0 = λ x. IsSampling (record { runner = x; last = c.or-self.result }) in
    subst P (sym c.step_access-access.ensures.same)
    (sampling-behind c.args.self.now a d c.tasks_seen.result c.or-self.result c.interrupts_shown-interrupts.result h c.execute.new.self c.in-Ok.step c.in-Ok.ensures.ok
    c.execute.ensures.coming c.execute.ensures.image c.execute.ensures.observer)

pub returns-in-Err-clause-stops : goal.returns-in-Err-clause-stops
returns-in-Err-clause-stops c =
    let a : Runner = c.arrive_now.new.self in
    let d : Runner = c.interrupts_shown-interrupts.new.runner in
    let h : IsLookedAt c.args.self.now a d c.tasks_seen.result c.or-self.result c.interrupts_shown-interrupts.result = record {
      sampling = c.requires.sampling;
      arrives = c.arrive_now.ensures.arrived;
      image_is = c.arrive_now.ensures.image;
      observer = c.arrive_now.ensures.observer;
      same = c.interrupts_shown-interrupts.ensures.same ∙ c.tasks_seen.ensures.same;
      seen_is = c.tasks_seen.ensures.seen;
      last_is = c.or-self.ensures;
      interrupts_is = c.interrupts_shown-interrupts.ensures.interrupts ∙ ap (λ (x : Runner). interrupts_in (image_of x) (sloth_state x.machine)) c.tasks_seen.ensures.same;
    } in
    stops-there c.args.self.now a d c.tasks_seen.result c.or-self.result c.interrupts_shown-interrupts.result h c.in-Err.halt c.in-Err.ensures.err
