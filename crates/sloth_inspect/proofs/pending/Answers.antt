use Rattle.std.proofs.Common.{◌∙◌, ap, arith, List, set}
use Rattle.std.specs.Prelude.{Bool, false}
use Rattle.sloth_inspect.specs.States.{is_pending_in, pending_lines_in}
use Rattle.sloth_inspect.proofs.Places.{one_place_more}
use Rattle.sloth_inspect.proofs.pending.Goals as goal

pub loop-task-preserved : goal.loop-task-preserved
loop-task-preserved c =
    let task = c.loop-task.task in
    let memory = c.args.bus.now in
    ap (λ (xs : List Bool). set xs task c.is_pending.result) c.loop-task.invariant
    ∙ ap (λ (x : Bool). set (pending_lines_in memory task) task x) c.is_pending.ensures
    ∙ one_place_more (is_pending_in memory) false task (omega arith)
