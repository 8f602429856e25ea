use Rattle.std.proofs.Common.{◌≡◌, drop, map}
use Rattle.sloth_io.specs.Slots.{file_named, file_of}
use Rattle.sloth_io.proofs.mem_store.named_bytes.Given as goal

abbrev pub invariant-loop-slot : goal.invariant-loop-slot
invariant-loop-slot l = file_named l.name (map file_of l.slots) ≡ file_named l.name (map file_of (drop l.slot-index l.slots))
