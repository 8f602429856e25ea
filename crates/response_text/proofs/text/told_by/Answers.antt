use Rattle.std.proofs.Common.{◌≡◌, ◌<◌, List, length, Option, subst, sym, arith}
use Rattle.std.proofs.lemmas.Result.{IfOk-weaker}
use Rattle.sloth_base.specs.declared.config.Config.{Config}
use Rattle.sloth_base.specs.declared.app.App.{App}
use Rattle.response_reasons.specs.declared.reasons.Reason.{Reason}
use Rattle.response_text.specs.declared.task_text.Told.{Told}
use Rattle.response_text.specs.declared.task_text.Response.{Response}
use Rattle.response_text.specs.Reasons.{AreReasons}
use Rattle.response_text.specs.ResponseText.{AreResponses, told_of, HasResponses}
use Rattle.response_text.proofs.Keeping.{runs_keep}
use Rattle.response_text.proofs.text.told_by.Goals as goal

pub reasons-requires-clause-small : goal.reasons-requires-clause-small
reasons-requires-clause-small c = let few = c.config-config.ensures.well_formed.in_range.configuration.few_tasks in omega (arith, few)

pub returns : goal.returns
returns c =
    let w = c.args.walks.now in
    let load = c.args.load.now in
    let costs = c.args.found.now in
    let responses = c.in_ok-responses.responses.items in
    let reasons = c.in_ok-reasons.reasons.items in
    let all : AreResponses costs.longest costs.late costs.costs (length w.config.tasks) responses =
    subst (λ n. AreResponses costs.longest costs.late costs.costs n responses) c.requires.costs.count c.in_ok-responses.ensures in
    let why : AreReasons w.config w.app costs.costs responses (length w.config.tasks) reasons =
    subst (λ (l : List Response). AreReasons w.config w.app costs.costs l (length w.config.tasks) reasons) c.deref.ensures.value c.in_ok-reasons.ensures in
    let made : (told : Told) → told ≡ told_of c.config-config.result.now c.app-app.result.now load c.deref-2.result.now c.deref-3.result.now c.in_ok-tick.tick c.in_ok-demand.demand
    → HasResponses w.config w.app load told =
    λ told is. record {
      costs = costs;
      are_costs = c.requires.costs;
      responses = responses;
      are_responses = all;
      reasons = reasons;
      are_reasons = why;
      tick = c.in_ok-tick.tick;
      is_tick = c.in_ok-tick.ensures;
      demand = c.in_ok-demand.demand;
      is_demand = c.in_ok-demand.ensures;
      kept = runs_keep w.config w.app load c.config-config.ensures.well_formed c.requires.in_load costs c.requires.costs responses all c.in_ok-tick.tick c.in_ok-tick.ensures;
      is = subst (λ (g : Config). told ≡ told_of g w.app load responses reasons c.in_ok-tick.tick c.in_ok-demand.demand) c.config-config.ensures.is
          (subst (λ (a : App). told ≡ told_of c.config-config.result.now a load responses reasons c.in_ok-tick.tick c.in_ok-demand.demand) c.app-app.ensures.is
          (subst (λ (l : List Response). told ≡ told_of c.config-config.result.now c.app-app.result.now load l reasons c.in_ok-tick.tick c.in_ok-demand.demand) c.deref-2.ensures.value
          (subst (λ (l : List (Option Reason)). told ≡ told_of c.config-config.result.now c.app-app.result.now load c.deref-2.result.now l c.in_ok-tick.tick c.in_ok-demand.demand) c.deref-3.ensures.value is)));
    } in
    IfOk-weaker _ _ _ (λ told is. made _ is) c.told_of.ensures
