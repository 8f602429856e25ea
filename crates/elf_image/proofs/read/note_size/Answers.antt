use Rattle.std.proofs.Common.{arith}
use Rattle.elf_image.proofs.Notes.{length-note}
use Rattle.elf_image.proofs.read.note_size.Goals as goal

pub returns : goal.returns
returns c =
    let whole = length-note c.args.description.now in
    let is = c.padding_size.ensures.is in
    omega (arith, whole, is)
