use Rattle.sloth_build.specs.Prologues.{IsPrologue}
use Rattle.sloth_build.proofs.Each.{grown}
use Rattle.sloth_build.proofs.gathering.prologues.Goals as goal

pub loop-task-preserved : goal.loop-task-preserved
loop-task-preserved c =
    grown (IsPrologue c.args.config.now c.args.app.now c.args.levels.now c.args.map.now) _ _ c.loop-task.task c.in_ok-prologue.field-0 c.in_ok-push.ensures c.loop-task.invariant.0 c.loop-task.invariant.1
    (let e = c.in_ok-prologue.ensures in record { at = e.at; marks = e.marks; enters = e.effect })
