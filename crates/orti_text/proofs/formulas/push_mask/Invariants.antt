use Rattle.std.proofs.Common.{◌≡◌, ◌++◌, drop, true}
use Rattle.orti_text.specs.Values.{mask_text}
use Rattle.orti_text.proofs.formulas.push_mask.Given as goal

abbrev pub invariant-loop-event : goal.invariant-loop-event
invariant-loop-event l = l.text.items ++ mask_text l.first l.mask (drop l.event-index l.events) ≡ l.fn.text.items ++ mask_text true l.mask l.events
