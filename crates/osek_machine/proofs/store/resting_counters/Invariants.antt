use Rattle.std.proofs.Common.{◌≡◌, map, take}
use Rattle.osek_scheduler.specs.State.{no_counter}
use Rattle.osek_machine.proofs.store.resting_counters.Given as goal

abbrev pub invariant-loop-counter : goal.invariant-loop-counter
invariant-loop-counter l = l.counters.items ≡ map (λ _. no_counter) (take l._counter-index l.config.counters)
