use Rattle.std.proofs.Common.{◌≡◌, ◌<◌, ℕ, get_or, false}
use Rattle.std.specs.Str.{bytes_eq}
use Rattle.sloth_io.specs.declared.mem_store.Slot.{Slot}
use Rattle.sloth_io.proofs.mem_store.named_place.Given as goal

abbrev pub invariant-loop-place : goal.invariant-loop-place
invariant-loop-place l = (j : ℕ) (d : Slot) → j < l.place → bytes_eq (get_or l.slots j d).name l.name ≡ false
