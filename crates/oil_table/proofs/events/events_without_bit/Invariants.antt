use Rattle.std.proofs.Common.{◌≡◌, take}
use Rattle.sloth_base.proofs.Kept.{Loop}
use Rattle.oil_table.specs.Events.{taken_bits_before, BitFault}
use Rattle.oil_table.proofs.events.events_without_bit.Given as goal

abbrev pub invariant-loop-object : goal.invariant-loop-object
invariant-loop-object l = record { finds : Loop (BitFault l.objects) l.objects l.object-index l.least; taken : l.taken ≡ taken_bits_before l.objects (take l.object-index l.objects) }
