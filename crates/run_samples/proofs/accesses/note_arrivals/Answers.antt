use Rattle.std.proofs.Common.{List, ◌∙◌, ◌++◌, ap, refl, take, replicate}
use Rattle.std.proofs.lemmas.Result.{on_ok_weaker}
use Rattle.rv32_instr.specs.Memory.{Memory}
use Rattle.sloth_base.specs.MemoryMap.{line_count}
use Rattle.sloth_base.specs.declared.service.Arrival.{Arrival}
use Rattle.run_samples.specs.Accesses.{arrival_accesses}
use Rattle.sloth_runner.specs.Runner.{image_of, count_of}
use Rattle.run_samples.proofs.DueArrivals.{noted_is}
use Rattle.run_samples.proofs.accesses.note_arrivals.Goals as goal

pub returns-clause-noted : goal.returns-clause-noted
returns-clause-noted c =
    let r = c.args.runner.now in
    let here = take c.passing-due.result r.coming.now in
    let items = c.args.noted.now.items in
    on_ok_weaker c.push_arrivals.result
    (λ noted. noted_is r (image_of r) (count_of r) r.machine.bus here items _ c.requires
    (ap (λ n. take n r.coming.now) c.passing-due.ensures) refl
    (noted ∙ ap (λ (come : List Arrival). items ++ arrival_accesses c.bus_mut.result.now (replicate line_count 0) come) c.split_at.ensures.front
    ∙ ap (λ (bus : Memory). items ++ arrival_accesses bus (replicate line_count 0) here) c.bus_mut.ensures.value))
    c.push_arrivals.ensures.noted

pub returns-clause-same : goal.returns-clause-same
returns-clause-same c =
    let runner = c.args.runner.now in
    ap (λ (bus : Memory). record runner { machine = record runner.machine { bus = bus } }) (c.push_arrivals.ensures.same ∙ c.bus_mut.ensures.value)
