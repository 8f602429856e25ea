use Rattle.std.proofs.Common.{◌≡◌, ◌-◌, ◌++◌, map}
use Rattle.std.specs.List.{range_with_len}
use Rattle.orti_text.specs.declared.attributes.Attribute.TheVariants as attribute
use Rattle.orti_text.proofs.attributes.push_counters.Given as goal

abbrev pub invariant-loop-counter : goal.invariant-loop-counter
invariant-loop-counter l = l.list.items ++ map attribute.CounterValue (range_with_len l.counter (l.counters - l.counter)) ≡ l.fn.list.items ++ map attribute.CounterValue (range_with_len 0 l.counters)
