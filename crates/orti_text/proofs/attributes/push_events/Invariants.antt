use Rattle.std.proofs.Common.{◌≡◌, ◌-◌, ◌++◌, map}
use Rattle.std.specs.List.{range_with_len}
use Rattle.orti_text.specs.declared.attributes.Attribute.TheVariants as attribute
use Rattle.orti_text.proofs.attributes.push_events.Given as goal

abbrev pub invariant-loop-event : goal.invariant-loop-event
invariant-loop-event l = l.list.items ++ map attribute.EventMask (range_with_len l.event (l.events - l.event)) ≡ l.fn.list.items ++ map attribute.EventMask (range_with_len 0 l.events)
