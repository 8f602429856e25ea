use Rattle.image_file.proofs.Faulted.{err_like, ok_like}
use Rattle.elf_image.proofs.Faulted.{elf-unique, none_is_both, only_memory, this_or_memory}
use Rattle.elf_image.proofs.read.read_elf.Goals as goal

pub returns-clause-refuses_no_image : goal.returns-clause-refuses_no_image
returns-clause-refuses_no_image c =
    err_like c.read_whole.result _ _ (λ f told image is. only_memory f c.args.bytes.now image is told) c.read_whole.ensures.failed

pub returns-clause-tells_the_fault : goal.returns-clause-tells_the_fault
returns-clause-tells_the_fault c =
    err_like c.read_whole.result _ _ (λ f told fault bad. this_or_memory f c.args.bytes.now fault bad told) c.read_whole.ensures.failed

pub returns-clause-reads_no_fault : goal.returns-clause-reads_no_fault
returns-clause-reads_no_fault c =
    ok_like c.read_whole.result _ _ (λ image is fault. none_is_both c.args.bytes.now image fault is) c.read_whole.ensures.read

pub returns-clause-reads_back : goal.returns-clause-reads_back
returns-clause-reads_back c =
    ok_like c.read_whole.result _ _ (λ image is written h. elf-unique image written c.args.bytes.now is h) c.read_whole.ensures.read
