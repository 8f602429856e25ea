use Rattle.std.proofs.Common.{◌<◌, List, get_or, length, sym, subst, arith}
use Rattle.std.proofs.lemmas.List.{get_or_read}
use Rattle.sloth_base.specs.declared.config.Config.{Config}
use Rattle.sloth_base.specs.declared.app.App.{App}
use Rattle.bound_rules.specs.declared.bound.Bound.{Bound}
use Rattle.bound_rules.specs.declared.bound.Bound.TheVariants as bound
use Rattle.bounds_text.specs.Bounds.{AreToldBounds}
use Rattle.section_ways.specs.ShownWays.{IsShown}
use Rattle.bounds_text.specs.TaskBound.{HasBoundLines}
use Rattle.bounds_text.proofs.task_bound.walked_lines.Goals as goal

pub way_bound_lines-requires-clause-bounds : goal.way_bound_lines-requires-clause-bounds
way_bound_lines-requires-clause-bounds c =
    let bounds = c.deref.result.now in
    subst (λ (a : App). AreToldBounds c.config-config.result.now a bounds) (sym c.app-app.ensures.is)
    (subst (λ (g : Config). AreToldBounds g c.args.walks.now.app bounds) (sym c.config-config.ensures.is)
    (subst (AreToldBounds c.args.walks.now.config c.args.walks.now.app) (sym c.deref.ensures.value) c.in_ok-bounds.ensures))

pub way_bound_lines-requires-clause-there : goal.way_bound_lines-requires-clause-there
way_bound_lines-requires-clause-there c = subst (λ (g : Config). c.args.task < length g.tasks) (sym c.config-config.ensures.is) c.requires

pub way_bound_lines-requires-clause-way : goal.way_bound_lines-requires-clause-way
way_bound_lines-requires-clause-way c =
    let w = c.args.walks.now in
    let task = c.args.task in
    let bounds = c.in_ok-bounds.bounds.items in
    let way = c.in_ok-way.way in
    let there = c.requires in
    let count = c.in_ok-bounds.ensures.count in
    let is = get_or_read bounds task c.index.result.now (omega (arith, there, count)) c.index.ensures bound.Endless in
    let shown = subst (λ (b : Bound). IsShown w.config w.app task b way) is c.in_ok-way.ensures in
    subst (λ (l : List Bound). IsShown c.config-config.result.now c.app-app.result.now task (get_or l task bound.Endless) way) (sym c.deref.ensures.value)
    (subst (λ (a : App). IsShown c.config-config.result.now a task (get_or bounds task bound.Endless) way) (sym c.app-app.ensures.is)
    (subst (λ (g : Config). IsShown g c.args.walks.now.app task (get_or bounds task bound.Endless) way) (sym c.config-config.ensures.is) shown))

pub returns : goal.returns
returns c =
    let task = c.args.task in
    let text = c.in_ok-text.text in
    subst (λ (g : Config). HasBoundLines g c.args.walks.now.app task text) c.config-config.ensures.is
    (subst (λ (a : App). HasBoundLines c.config-config.result.now a task text) c.app-app.ensures.is c.in_ok-text.ensures)
