use Rattle.std.proofs.Common.{◌∙◌, ap, arith, List, set}
use Rattle.rv32_instr.specs.Memory.{Memory}
use Rattle.osek_scheduler.specs.declared.state.TaskState.{TaskState}
use Rattle.sloth_inspect.specs.States.{state_in, states_in}
use Rattle.sloth_inspect.proofs.Places.{one_more}
use Rattle.sloth_inspect.proofs.states.Goals as goal

pub loop-task-preserved : goal.loop-task-preserved
loop-task-preserved c =
    let task = c.loop-task.task in
    let memory = c.args.bus.now in
    let told = c.state.ensures.is ∙ ap (λ (m : Memory). state_in m task) c.loop-task.invariant.1 in (
      ap (λ (xs : List TaskState). set xs task c.state.result) c.loop-task.invariant.0
          ∙ ap (λ (x : TaskState). set (states_in memory task) task x) told
          ∙ one_more memory task (omega arith),
      c.state.ensures.same ∙ c.loop-task.invariant.1,
    )
