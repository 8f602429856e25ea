use Rattle.std.proofs.Common.{◌∙◌, ap}
use Rattle.rv32_instr.specs.Memory.{Memory}
use Rattle.run_samples.proofs.samples.Sampler.service_words.Goals as goal

pub returns-clause-same : goal.returns-clause-same
returns-clause-same c =
    let sampler = c.args.self.now in
    ap (λ (bus : Memory). record sampler { runner = record sampler.runner { machine = record sampler.runner.machine { bus = bus } } })
    (c.service_words.ensures.same ∙ c.bus_mut.ensures.value)
