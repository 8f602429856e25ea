use Rattle.elf_image.proofs.Faulted.{elf-unique}
use Rattle.elf_image.proofs.laws.images_differ_in_elf_files.Goals as goal

pub returns : goal.returns
returns c = elf-unique
