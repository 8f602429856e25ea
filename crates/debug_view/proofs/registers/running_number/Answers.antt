use Rattle.std.proofs.Common.{◌∙◌, ap}
use Rattle.rv32_instr.specs.Memory.{Memory}
use Rattle.sloth_inspect.specs.States.{running_number_in}
use Rattle.debug_view.proofs.registers.running_number.Goals as goal

pub returns-clause-number : goal.returns-clause-number
returns-clause-number c = c.running.ensures.running ∙ ap (λ (bus : Memory). running_number_in bus) c.bus_mut.ensures.value

pub returns-clause-same : goal.returns-clause-same
returns-clause-same c =
    let machine = c.args.machine.now in
    ap (λ (bus : Memory). record machine { bus = bus }) (c.running.ensures.same ∙ c.bus_mut.ensures.value)
