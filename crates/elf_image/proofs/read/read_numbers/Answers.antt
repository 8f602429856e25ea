use Rattle.std.proofs.Common.{sym, ◌∙◌, refl, arith}
use Rattle.std.proofs.lemmas.Bool.{true≢false}
use Rattle.image_file.proofs.Failing.{none_unless}
use Rattle.elf_image.proofs.Descriptions.{no-numbers, numbers-stand}
use Rattle.elf_image.proofs.read.read_numbers.Goals as goal

pub returns-clause-none : goal.returns-clause-none
returns-clause-none c =
    let description = c.args.description.now in
    let t = c.read_u32 in
    let f = c.read_u32-2 in
    let n = c.read_u32-3 in
    let k = c.read_u32-4 in
    rw c.then_some.ensures (none_unless c.are_within.result _ (λ wrong.
    no-numbers description (record { tasks = t.result; funcs = f.result; counters = n.result; memory = 0; marks = k.result })
    (record { tasks = t.type_inv; funcs = f.type_inv; counters = n.type_inv; memory = omega arith; marks = k.type_inv }) refl
    (numbers-stand description t.result f.result n.result k.result t.ensures.stands f.ensures.stands n.ensures.stands k.ensures.stands)
    (λ fits. true≢false (sym (c.are_within.ensures.1 fits) ∙ wrong))))
