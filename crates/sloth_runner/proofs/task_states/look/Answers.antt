use Rattle.std.proofs.Common.{◌∙◌, ap}
use Rattle.rv32_instr.specs.Memory.{Memory}
use Rattle.sloth_runner.proofs.task_states.look.Goals as goal

pub returns-clause-same : goal.returns-clause-same
returns-clause-same c =
    let machine = c.args.machine.now in
    ap (λ (bus : Memory). record machine { bus = bus }) (c.seen_states.ensures.same ∙ c.bus_mut.ensures.value)
