use Rattle.std.proofs.Common.{◌≡◌, take, map}
use Rattle.sloth_io.specs.Slots.{file_of}
use Rattle.sloth_io.proofs.mem_store.made_slots.Given as goal

abbrev pub invariant-loop-file : goal.invariant-loop-file
invariant-loop-file l = map file_of l.slots.items ≡ take l.file-index l.files
