use Rattle.elf_image.proofs.Faulted.{fault_is_one, none_is_both, none_is_neither}
use Rattle.elf_image.proofs.laws.files_are_elf_files_or_faulty.Goals as goal

pub returns-clause-one_of_them : goal.returns-clause-one_of_them
returns-clause-one_of_them c = none_is_neither

pub returns-clause-not_both : goal.returns-clause-not_both
returns-clause-not_both c = none_is_both

pub returns-clause-one_fault : goal.returns-clause-one_fault
returns-clause-one_fault c = fault_is_one
