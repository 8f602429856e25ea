use Rattle.std.proofs.Common.{◌≡◌, ◌∙◌, ℕ, ◌<◌, Bool, false, List, length, get_or, sym, ap, subst, arith}
use Rattle.std.specs.Prelude.{Decides}
use Rattle.std.proofs.lemmas.Result.{IfOk-weaker}
use Rattle.sloth_base.specs.declared.config.Config.{Config}
use Rattle.sloth_base.specs.declared.app.App.{App}
use Rattle.response_text.specs.declared.task_text.Told.{Told}
use Rattle.response_text.specs.declared.task_text.Response.{Response}
use Rattle.walk_sums.specs.Rounds.{IsClean}
use Rattle.run_windows.specs.Costs.{comes}
use Rattle.response_text.specs.Reasons.{IsReason}
use Rattle.response_text.specs.TaskText.{response_of, task_lines, HasParts}
use Rattle.response_text.proofs.OwnSections.{own_sections}
use Rattle.response_text.proofs.task_text.told_by.Goals as goal

pub both_parts-requires-clause-anywhere : goal.both_parts-requires-clause-anywhere
both_parts-requires-clause-anywhere c = c.in_ok-anywhere.ensures (subst (λ n. c.args.task < n) (sym c.requires.costs.count) c.requires.there)

pub both_parts-requires-clause-behind : goal.both_parts-requires-clause-behind
both_parts-requires-clause-behind c = c.in_ok-behind.ensures (subst (λ n. c.args.task < n) (sym c.requires.costs.count) c.requires.there)

pub both_parts-requires-clause-sections : goal.both_parts-requires-clause-sections
both_parts-requires-clause-sections c =
    own_sections c.args.walks.now.config c.args.walks.now.app c.args.load.now c.args.found.now c.in_ok-names.names.weights c.requires.costs c.in_ok-names.ensures.counts

pub reason-requires-clause-small : goal.reason-requires-clause-small
reason-requires-clause-small c = let few = c.config-config.ensures.well_formed.in_range.configuration.few_tasks in omega (arith, few)

pub reason-requires-clause-clean : goal.reason-requires-clause-clean
reason-requires-clause-clean c =
    let w = c.args.walks.now in
    subst (λ (l : List Bool). (t : ℕ) → t < length w.config.tasks → Decides (get_or l t false) (IsClean w.app t)) (sym c.deref.ensures.value) c.in_ok-clean.ensures.exact

pub returns : goal.returns
returns c =
    let w = c.args.walks.now in
    let load = c.args.load.now in
    let task = c.args.task in
    let costs = c.args.found.now in
    let there = subst (λ n. task < n) (sym c.requires.costs.count) c.requires.there in
    let anywhere = c.in_ok-anywhere.anywhere in
    let behind = c.in_ok-behind.behind in
    let why = c.in_ok-why.why in
    let parts = c.in_ok-parts.parts.items in
    let same : c.response_of-response.result ≡ response_of (comes costs.costs task) anywhere behind =
    c.response_of-response.ensures ∙ ap (λ b. response_of b anywhere behind) c.comes-is_made.ensures in
    let made : (told : Told) → told ≡ task_lines c.config-config.result.now c.app-app.result.now load task c.response_of-response.result why c.deref-2.result.now → HasParts w.config w.app load task told =
    λ told is. record {
      costs = costs;
      are_costs = c.requires.costs;
      anywhere = anywhere;
      is_longest = c.in_ok-anywhere.ensures there;
      behind = behind;
      is_behind = c.in_ok-behind.ensures there;
      why = why;
      is_why = subst (λ (r : Response). IsReason w.config w.app costs.costs task r why) same c.in_ok-why.ensures;
      names = c.in_ok-names.names;
      are_names = c.in_ok-names.ensures;
      parts = parts;
      are_parts = c.in_ok-parts.ensures;
      is = subst (λ (g : Config). told ≡ task_lines g w.app load task (response_of (comes costs.costs task) anywhere behind) why parts) c.config-config.ensures.is
          (subst (λ (a : App). told ≡ task_lines c.config-config.result.now a load task (response_of (comes costs.costs task) anywhere behind) why parts) c.app-app.ensures.is
          (subst (λ (r : Response). told ≡ task_lines c.config-config.result.now c.app-app.result.now load task r why parts) same
          (subst (λ (l : List ℕ). told ≡ task_lines c.config-config.result.now c.app-app.result.now load task c.response_of-response.result why l) c.deref-2.ensures.value is)));
    } in
    IfOk-weaker _ _ _ (λ told is. made _ is) c.task_lines.ensures
