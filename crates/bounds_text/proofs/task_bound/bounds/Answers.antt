use Rattle.std.proofs.Common.{sym, subst}
use Rattle.sloth_base.specs.declared.config.Config.{Config}
use Rattle.sloth_base.specs.declared.app.App.{App}
use Rattle.walk_sums.specs.WalkedCode.{WalkedCode}
use Rattle.bounds_text.specs.Bounds.{AreToldBounds}
use Rattle.bounds_text.proofs.KeptTold.{keeps-told}
use Rattle.bounds_text.proofs.task_bound.bounds.Goals as goal

pub returns-clause-exact : goal.returns-clause-exact
returns-clause-exact c =
    let bounds = c.in_ok-bounds.bounds.items in
    let app = c.args.verified.now.app in
    subst (AreToldBounds c.args.verified.now.config app) (sym c.from_vec.ensures)
    (subst (λ (g : Config). AreToldBounds g app bounds) c.config-config.ensures.is
    (subst (λ (a : App). AreToldBounds c.config-config.result.now a bounds) c.app-app.ensures.is
    (subst (λ (w : WalkedCode). AreToldBounds w.config w.app bounds) c.of-walks.ensures c.in_ok-bounds.ensures)))

pub returns-clause-kept : goal.returns-clause-kept
returns-clause-kept c =
    let bounds = c.in_ok-bounds.bounds.items in
    let config = c.args.verified.now.config in
    let app = c.args.verified.now.app in
    let are : AreToldBounds config app c.from_vec.result =
    subst (AreToldBounds config app) (sym c.from_vec.ensures)
    (subst (λ (g : Config). AreToldBounds g app bounds) c.config-config.ensures.is
    (subst (λ (a : App). AreToldBounds c.config-config.result.now a bounds) c.app-app.ensures.is
    (subst (λ (w : WalkedCode). AreToldBounds w.config w.app bounds) c.of-walks.ensures c.in_ok-bounds.ensures))) in
    keeps-told config app c.from_vec.result c.config-config.ensures.well_formed are
