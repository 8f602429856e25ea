use Rattle.std.proofs.Common.{◌∙◌, List, sym, ap, subst}
use Rattle.sloth_base.specs.declared.service.Stamped.{Stamped}
use Rattle.osek_scheduler.specs.Runs.{OsekRun}
use Rattle.osek_scheduler.specs.State.{opening}
use Rattle.losses_text.specs.Requests.{AreRequests}
use Rattle.losses_text.specs.RequestsText.{requests_text}
use Rattle.losses_text.proofs.requests.run_text.Goals as goal

pub requests_along-requires-clause-run : goal.requests_along-requires-clause-run
requests_along-requires-clause-run c =
    let config = c.args.config.now in
    let app = c.args.app.now in
    let are = c.as_slice.ensures.value ∙ c.in_ok-events.ensures in
    subst (λ (events : List Stamped). OsekRun config app events) (sym are) (c.requires.sound.each c.args.arrivals.now c.args.n c.requires.coming).osek

pub returns : goal.returns
returns c =
    let config = c.args.config.now in
    let app = c.args.app.now in
    let are = c.as_slice.ensures.value ∙ c.in_ok-events.ensures in
    let all = c.in_ok-all.all.items in
    record {
      all = all;
      are = subst (λ (events : List Stamped). AreRequests config app events (opening config app) all) are c.in_ok-all.ensures;
      is = c.in_ok-text.ensures ∙ ap (requests_text c.args.image.now) c.as_slice-2.ensures.value;
    }
