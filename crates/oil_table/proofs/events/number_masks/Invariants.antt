use Rattle.std.proofs.Common.{◌≡◌, take}
use Rattle.oil_table.specs.Events.{number_masks}
use Rattle.oil_table.proofs.events.number_masks.Given as goal

abbrev pub invariant-loop-object : goal.invariant-loop-object
invariant-loop-object l = l.bits ≡ number_masks (take l.object-index l.objects)
