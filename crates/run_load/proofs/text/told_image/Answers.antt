use Rattle.std.proofs.Common.{◌≡◌, ◌∙◌, ℕ, List, length, Option, ap, subst, sym}
use Rattle.std.specs.Prelude.{Decides}
use Rattle.std.proofs.lemmas.Result.{IfOk-weaker}
use Rattle.sim_induction.specs.Sound.{events_of}
use Rattle.sloth_base.specs.declared.service.Stamped.{Stamped}
use Rattle.response_text.specs.declared.task_text.Response.{Response}
use Rattle.response_text.specs.ResponseText.{AreResponses}
use Rattle.run_load.specs.RunLines.{cuts_of, told_run}
use Rattle.run_load.specs.RunText.{KeepsLoad, HasToldRun}
use Rattle.run_load.specs.declared.lines.ToldRun.{ToldRun}
use Rattle.run_load.proofs.Telling.{arrivals-named, exactly, seen-within, ticks-seen-within}
use Rattle.run_load.proofs.text.told_image.Goals as goal

pub run_events-requires-clause-arrivals : goal.run_events-requires-clause-arrivals
run_events-requires-clause-arrivals c =
    let code = c.args.source.now in
    arrivals-named code.config code.app c.args.image.now c.args.arrivals.now c.requires.built c.requires.arrivals

pub returns : goal.returns
returns c =
    let config = c.args.source.now.config in
    let app = c.args.source.now.app in
    let load = c.args.load.now in
    let arr = c.args.arr.now in
    let arrivals = c.args.arrivals.now in
    let image = c.args.image.now in
    let costs = c.in_ok-found.found in
    let events : List Stamped = events_of image arrivals c.args.n in
    let read : List Response = c.in_ok-responses.responses.items in
    let responses : AreResponses costs.longest costs.late costs.costs (length config.tasks) read =
    subst (λ k. AreResponses costs.longest costs.late costs.costs k read) c.in_ok-found.ensures.count c.in_ok-responses.ensures in
    let tick : Option ℕ = c.in_ok-tick.tick in
    let exact = exactly config app load costs.costs arr arrivals image c.args.n read tick c.requires.well_formed c.requires.in_load c.requires.arrivals c.requires.built in
    let made : (told : ToldRun) → told ≡ told_run config app load costs.costs arr arrivals events read tick → HasToldRun config app load arr arrivals image c.args.n told =
    λ told is. record {
      costs = costs;
      are_costs = c.in_ok-found.ensures;
      responses = read;
      are_responses = responses;
      tick = tick;
      is_tick = c.in_ok-tick.ensures;
      is = is;
      exact = subst (λ (t : ToldRun). Decides t.keeps (KeepsLoad config app load (cuts_of costs.costs) arrivals events)) (sym is) exact;
      within = λ keeps t lt.
          seen-within config app load costs arrivals image c.args.n c.requires.well_formed c.requires.in_load c.requires.arrivals c.requires.built c.in_ok-found.ensures
          (exact.0 (sym (ap (λ (x : ToldRun). x.keeps) is) ∙ keeps)) read responses t lt;
      ticks_within = λ keeps counter.
          ticks-seen-within config app load costs arrivals image c.args.n c.requires.well_formed c.requires.in_load c.requires.arrivals c.requires.built c.in_ok-found.ensures
          (exact.0 (sym (ap (λ (x : ToldRun). x.keeps) is) ∙ keeps)) read responses tick c.in_ok-tick.ensures counter;
    } in
    IfOk-weaker _ _ _ (λ told is. made told (is
    ∙ (ap (λ (es : List Stamped). told_run config app load costs.costs arr arrivals es c.deref-2.result.now tick) (c.deref.ensures.value ∙ c.in_ok-events.ensures)
    ∙ ap (λ (l : List Response). told_run config app load costs.costs arr arrivals events l tick) c.deref-2.ensures.value))) c.told_run.ensures
