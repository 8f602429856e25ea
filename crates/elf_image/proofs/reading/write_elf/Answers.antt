use Rattle.std.proofs.Common.{ap, arith, length}
use Rattle.elf_image.proofs.Whole.{description-short}
use Rattle.elf_image.proofs.reading.write_elf.Goals as goal

pub assemble-requires : goal.assemble-requires
assemble-requires c =
    let memory = ap length c.items-memory.ensures in
    let fits = c.requires.memory_fits in
    let slice = ap length c.as_slice.ensures.value in
    let is = ap length c.in_ok-description.ensures in
    let short = description-short c.args.image.now c.requires in
    (omega (arith, memory, fits), omega (arith, slice, is, short))
