use Rattle.std.proofs.Common.{ap}
use Rattle.rv32_machine.specs.declared.machine.Machine.{Machine}
use Rattle.machine_memory.specs.declared.sloth.SlothBus.{SlothBus}
use Rattle.sloth_runner.proofs.task_states.tasks_seen.Goals as goal

pub returns-clause-same : goal.returns-clause-same
returns-clause-same c =
    let runner = c.args.runner.now in
    ap (λ (machine : Machine SlothBus). record runner { machine = machine }) c.look.ensures.same
