use Rattle.std.proofs.Common.{sym, subst}
use Rattle.std.proofs.lemmas.Result.{err_from_is_err_and, IfOk-weaker, IfErr-weaker}
use Rattle.sloth_base.specs.declared.app.App.{App}
use Rattle.sloth_base.specs.declared.config.Config.{Config}
use Rattle.code_rules.specs.WellFormed.{WellFormed}
use Rattle.stack_bounds.specs.Bounds.{AreBounds}
use Rattle.sloth_source.specs.SourceText.{BodiesAreNamed}
use Rattle.sloth_source.specs.Texts.{AreAccepted}
use Rattle.sloth_source.specs.Checked.{IsBounded}
use Rattle.sloth_source.specs.declared.reading.Source.{Source}
use Rattle.sloth_source.proofs.RankedTexts.{early_refused, rule_refused}
use Rattle.sloth_source.proofs.reading.read.Goals as goal

-- what holds of the configuration and the task code holds of those of the source
carried : (P : Config → App → Type 0) (config : Config) (app : App) (source : Source) → IsBounded config app source → P config app → P source.config source.app
carried P config app source is p = subst (λ (x : Config). P x source.app) (sym is.config_is) (subst (λ (y : App). P config y) (sym is.app_is) p)

pub returns-in_err-config-clause-refused : goal.returns-in_err-config-clause-refused
returns-in_err-config-clause-refused c =
    let failed = err_from_is_err_and c.from_residual.result c.from_residual.ensures.1 in
    rw (failed.1, failed.2) (early_refused c.args.oil.now c.args.src.now c.in_err-config.field-0.0 c.in_err-config.ensures.refused)

pub returns-clause-refused : goal.returns-clause-refused
returns-clause-refused c =
    let read = c.in_ok-config.field-0 in
    IfErr-weaker c.bounded.result _ _ (λ error least. rule_refused c.args.oil.now c.args.src.now read.config read.app error
    c.in_ok-config.ensures.has_ranks least) c.bounded.ensures.refused

pub returns-clause-accepted : goal.returns-clause-accepted
returns-clause-accepted c =
    let read = c.in_ok-config.field-0 in
    let ranked = c.in_ok-config.ensures.has_ranks in
    IfOk-weaker c.bounded.result _ _ (λ source is. carried (AreAccepted c.args.oil.now c.args.src.now) read.config read.app source is record {
      configuration = ranked.configuration;
      code = record { has_app = ranked.has_app; no_cycle = ranked.no_cycle; no_fault = is.none };
    }) c.bounded.ensures.bounded

pub returns-clause-well_formed : goal.returns-clause-well_formed
returns-clause-well_formed c =
    let read = c.in_ok-config.field-0 in
    IfOk-weaker c.bounded.result _ _ (λ source is. carried WellFormed read.config read.app source is record {
      in_range = c.in_ok-config.ensures.in_range;
      no_cycle = c.in_ok-config.ensures.has_ranks.no_cycle;
      no_fault = is.none;
    }) c.bounded.ensures.bounded

pub returns-clause-named : goal.returns-clause-named
returns-clause-named c =
    let read = c.in_ok-config.field-0 in
    IfOk-weaker c.bounded.result _ _ (λ source is. carried BodiesAreNamed read.config read.app source is c.in_ok-config.ensures.named) c.bounded.ensures.bounded

pub returns-clause-bounds : goal.returns-clause-bounds
returns-clause-bounds c =
    let read = c.in_ok-config.field-0 in
    IfOk-weaker c.bounded.result _ _ (λ source is. carried (λ config app. AreBounds config app source.bounds) read.config read.app source is is.bounds) c.bounded.ensures.bounded
