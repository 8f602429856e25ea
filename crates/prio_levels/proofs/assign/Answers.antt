use Rattle.std.proofs.Common.{List, subst, ap, ◌∙◌, arith}
use Rattle.std.specs.Prelude.{length}
use Rattle.sloth_base.specs.declared.config.TaskDecl.{TaskDecl}
use Rattle.prio_levels.specs.Levels.{AreCeilings, AreTaskLevels}
use Rattle.prio_levels.proofs.Facts.{no_resource, ordered, within, covers}
use Rattle.prio_levels.proofs.assign.Goals as goal

pub returns-clause-levels : goal.returns-clause-levels
returns-clause-levels c =
    let e = c.items-tasks.ensures in
    let ceilings = subst (λ (x : List TaskDecl). AreCeilings x c.ceilings.result) e c.ceilings.ensures in
    record {
      tasks = subst (λ (x : List TaskDecl). AreTaskLevels x c.task_levels.result) e c.task_levels.ensures;
      ceilings = ceilings;
      no_resource = λ r h k. ceilings.listed r k ∙ no_resource c.args.config.now c.requires r h k;
      top = ap length e;
    }

pub returns-clause-ordered : goal.returns-clause-ordered
returns-clause-ordered c =
    ordered c.args.config.now c.task_levels.result c.ceilings.result c.requires (subst (λ (x : List TaskDecl). AreTaskLevels x c.task_levels.result) c.items-tasks.ensures c.task_levels.ensures)

pub returns-clause-within : goal.returns-clause-within
returns-clause-within c =
    let w = within c.args.config.now.tasks c.task_levels.result (subst (λ (x : List TaskDecl). AreTaskLevels x c.task_levels.result) c.items-tasks.ensures c.task_levels.ensures) in
    let e = ap length c.items-tasks.ensures in
    λ t h. ((w t h).0, let l = (w t h).1 in omega (arith, l, e))

pub returns-clause-covers : goal.returns-clause-covers
returns-clause-covers c =
    covers c.args.config.now c.task_levels.result c.ceilings.result c.requires (subst (λ (x : List TaskDecl). AreTaskLevels x c.task_levels.result) c.items-tasks.ensures c.task_levels.ensures)
    (subst (λ (x : List TaskDecl). AreCeilings x c.ceilings.result) c.items-tasks.ensures c.ceilings.ensures)
