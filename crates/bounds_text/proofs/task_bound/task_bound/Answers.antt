use Rattle.std.proofs.Common.{List, sym, ◌∙◌, subst, ap}
use Rattle.sloth_base.specs.declared.config.Config.{Config}
use Rattle.sloth_base.specs.declared.config.TaskDecl.{TaskDecl}
use Rattle.bounds_text.specs.Bounds.{IsTold, blocking_bound}
use Rattle.bounds_text.proofs.Told.{bound_is_told}
use Rattle.bounds_text.proofs.task_bound.task_bound.Goals as goal

pub returns : goal.returns
returns c =
    let w = c.args.walks.now in
    let same = c.blocking_bound.ensures ∙ ap (λ (x : List TaskDecl). blocking_bound x c.args.sums.now c.args.task) c.items.ensures
    ∙ ap (λ (g : Config). blocking_bound g.tasks c.args.sums.now c.args.task) c.config.ensures.is in
    subst (IsTold w.config w.app c.args.task) (sym same) (bound_is_told w.config w.app c.args.task c.args.sums.now c.config.ensures.well_formed c.requires.sums)
