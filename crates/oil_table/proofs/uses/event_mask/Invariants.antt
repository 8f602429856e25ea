use Rattle.std.proofs.Common.{◌≡◌, take}
use Rattle.oil_table.specs.Masks.{event_mask}
use Rattle.oil_table.proofs.uses.event_mask.Given as goal

abbrev pub invariant-loop-attr : goal.invariant-loop-attr
invariant-loop-attr l = l.mask ≡ event_mask l.events (take l.attr-index l.attrs)
