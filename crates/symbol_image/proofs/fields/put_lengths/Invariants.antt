use Rattle.std.proofs.Common.{◌≡◌, ◌++◌, take}
use Rattle.std.specs.List.{flat_map}
use Rattle.image_file.specs.Fields.{four_bytes}
use Rattle.symbol_image.proofs.fields.put_lengths.Given as goal

abbrev pub invariant-loop-length : goal.invariant-loop-length
invariant-loop-length l = l.section.items ≡ l.fn.section.items ++ flat_map four_bytes (take l.length-index l.lengths)
