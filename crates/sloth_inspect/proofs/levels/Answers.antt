use Rattle.std.proofs.Common.{◌∙◌, ap, arith, ℕ, List, set}
use Rattle.std.specs.Prelude.{slice_index}
use Rattle.sloth_inspect.specs.States.{levels_in}
use Rattle.sloth_inspect.proofs.Places.{one_place_more}
use Rattle.sloth_inspect.proofs.levels.Goals as goal

pub loop-task-preserved : goal.loop-task-preserved
loop-task-preserved c =
    let task = c.loop-task.task in
    let memory = c.args.bus.now in
    ap (λ (xs : List ℕ). set xs task c.level_of.result) c.loop-task.invariant
    ∙ ap (λ (x : ℕ). set (levels_in memory task) task x) c.level_of.ensures
    ∙ one_place_more (λ t. slice_index memory.lines.levels t) 0 task (omega arith)
