use Rattle.std.proofs.Common.{◌≡◌, ◌++◌, take}
use Rattle.std.specs.List.{flat_map}
use Rattle.image_file.specs.Fields.{two_bytes}
use Rattle.symbol_image.proofs.layout.put_halves.Given as goal

abbrev pub invariant-loop-half : goal.invariant-loop-half
invariant-loop-half l = l.file.items ≡ l.fn.file.items ++ flat_map two_bytes (take l.half-index l.halves)
