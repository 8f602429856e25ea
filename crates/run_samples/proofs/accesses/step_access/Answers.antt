use Rattle.std.proofs.Common.{◌∙◌, ap}
use Rattle.rv32_instr.specs.Memory.{Memory}
use Rattle.run_samples.specs.Accesses.{code_access}
use Rattle.run_samples.proofs.accesses.step_access.Goals as goal

pub returns-clause-is : goal.returns-clause-is
returns-clause-is c = c.code_access.ensures.is ∙ ap (λ (bus : Memory). code_access c.args.step.now bus) c.bus_mut.ensures.value

pub returns-clause-same : goal.returns-clause-same
returns-clause-same c =
    let runner = c.args.runner.now in
    ap (λ (bus : Memory). record runner { machine = record runner.machine { bus = bus } }) (c.code_access.ensures.same ∙ c.bus_mut.ensures.value)
