use Rattle.std.proofs.Common.{ap, ◌∙◌}
use Rattle.rv32_instr.specs.Memory.{Memory}
use Rattle.sloth_runner.proofs.task_states.interrupts_shown.Goals as goal

pub returns-clause-same : goal.returns-clause-same
returns-clause-same c =
    let runner = c.args.runner.now in
    ap (λ (bus : Memory). record runner { machine = record runner.machine { bus = bus } }) (c.bus_mut-2.ensures.value ∙ c.bus_mut.ensures.value)
