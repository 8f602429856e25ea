use Rattle.std.proofs.Common.{◌≡◌, ◌++◌, drop}
use Rattle.std.specs.Prelude.{map}
use Rattle.sloth_base.proofs.config.counter_names.Given as goal

abbrev pub invariant-loop-counter : goal.invariant-loop-counter
invariant-loop-counter l = l.names.items ++ map (λ c. c.name) (drop l.counter-index l.config.counters) ≡ map (λ c. c.name) l.config.counters
