use Rattle.std.proofs.Common.{◌∙◌, List, cond, ap, sym, subst}
use Rattle.sloth_base.specs.declared.config.Config.{Config}
use Rattle.sloth_base.specs.declared.app.App.{App}
use Rattle.sloth_base.specs.declared.app.Func.{Func}
use Rattle.call_graph.specs.Tables.{HasTaskBody}
use Rattle.walk_sums.proofs.Telling.{task_body}
use Rattle.walk_sums.proofs.walks.Walks.told_section.Goals as goal

pub task_summary-summary-requires-clause-body : goal.task_summary-summary-requires-clause-body
task_summary-summary-requires-clause-body c =
    let w = c.args.self.now in
    subst (λ (l : List Func). HasTaskBody l c.args.task) (sym c.items-funcs.ensures)
    (subst (λ (a : App). HasTaskBody a.funcs c.args.task) (sym c.app.ensures.is) (task_body w.config w.app c.app.ensures.well_formed c.args.task c.requires.inside))
