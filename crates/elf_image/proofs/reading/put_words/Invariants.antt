use Rattle.std.proofs.Common.{◌≡◌, ◌++◌, take}
use Rattle.std.specs.List.{flat_map}
use Rattle.image_file.specs.Fields.{four_bytes}
use Rattle.elf_image.proofs.reading.put_words.Given as goal

abbrev pub invariant-loop-word : goal.invariant-loop-word
invariant-loop-word l = l.file.items ≡ l.fn.file.items ++ flat_map four_bytes (take l.word-index l.words)
