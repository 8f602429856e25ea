use Rattle.std.proofs.Common.{◌≡◌, ◌++◌, drop, replicate}
use Rattle.sloth_base.specs.MemoryMap.{line_count}
use Rattle.run_samples.specs.Accesses.{arrival_accesses}
use Rattle.run_samples.proofs.accesses.push_arrivals.Given as goal

abbrev pub invariant-loop-arrival : goal.invariant-loop-arrival
invariant-loop-arrival l =
    (l.noted.items ++ arrival_accesses l.fn.bus l.raised (drop l.arrival-index l.arrivals)
    ≡ l.fn.noted.items ++ arrival_accesses l.fn.bus (replicate line_count 0) l.arrivals)
    × (l.bus ≡ l.fn.bus)
