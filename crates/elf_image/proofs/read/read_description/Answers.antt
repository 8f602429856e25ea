use Rattle.std.proofs.Common.{arith}
use Rattle.elf_image.proofs.Descriptions.{begins, description-is, no-end, sizes_of}
use Rattle.elf_image.proofs.Steps.{parts-miss}
use Rattle.elf_image.specs.Reading.{HasDescriptionSizes}
use Rattle.image_file.specs.Reading.{IsPartsError}
use Rattle.image_file.specs.declared.read.FileError.{FileError}
use Rattle.image_file.specs.declared.read.ImageFault.{ImageFault}
use Rattle.std.proofs.Common.{subst, sym, ℕ, List}
use Rattle.elf_image.proofs.read.read_description.Goals as goal

pub returns-in_default-clause-failed : goal.returns-in_default-clause-failed
returns-in_default-clause-failed c =
    rw c.into.ensures (λ d w e. c.in_default.ensures.none (sizes_of d) (subst (λ (x : List ℕ). HasDescriptionSizes x (sizes_of d)) (sym e) (begins d w)))

pub returns-in-Err-Fault-clause-failed : goal.returns-in-Err-Fault-clause-failed
returns-in-Err-Fault-clause-failed c =
    parts-miss c.in-Err-Fault.field-0-0 c.args.description.now c.in-Some.sizes c.in-Some.ensures.read
    (subst (λ (f : FileError ImageFault). IsPartsError f c.args.description.now 16 c.in-Some.sizes) c.in-Err-Fault.field-0-is c.in-Err-Fault.ensures.failed)

pub returns-then-outline-description-clause-failed : goal.returns-then-outline-description-clause-failed
returns-then-outline-description-clause-failed c =
    let o = c.in-Ok.outline in
    let differs = c.if-outline-description.true in
    rw c.into-then-outline-description.ensures (no-end c.args.description.now c.in-Some.sizes o.tasks.items o.funcs.items o.counters.items o.memory
    c.in-Some.ensures.read c.in-Ok.ensures.read o.count c.in-Ok.ensures.count (λ e. omega (arith, e, differs)))

pub returns-clause-read : goal.returns-clause-read
returns-clause-read c =
    let o = c.in-Ok.outline in
    let ends = c.if-outline-description.false in
    description-is c.args.description.now c.in-Some.sizes o.tasks.items o.funcs.items o.counters.items o.memory
    c.in-Some.ensures.read c.in-Ok.ensures.read o.count c.in-Ok.ensures.count (omega (arith, ends))
