use Rattle.std.proofs.Common.{ap, sym, ◌∙◌, length}
use Rattle.sloth_io.proofs.Files.{as_replaced, found_at, replaced}
use Rattle.std.specs.Option.{option_map}
use Rattle.sloth_io.specs.Slots.{is_space_for}
use Rattle.sloth_io.proofs.mem_store.replace.Goals as goal

pub returns-clause-done : goal.returns-clause-done
returns-clause-done c =
    let place = rw c.as_slice.ensures.value at c.in-Some.ensures.found in
    c.replace.ensures.done
    ∙ sym (ap (λ file. is_space_for (option_map (λ f. f.space) file) (length c.args.bytes.now))
    (found_at c.args.name.now c.args.slots.now.items c.in-Some.place c.index_mut.result.now place c.index_mut.ensures.value))

pub returns-clause-files : goal.returns-clause-files
returns-clause-files c =
    let place = rw c.as_slice.ensures.value at c.in-Some.ensures.found in
    replaced c.args.name.now c.args.bytes.now c.args.slots.now.items c.in-Some.place c.index_mut.result.now _ c.replace.result
    place c.index_mut.ensures.value
    (as_replaced _ c.args.bytes.now c.index_mut.result.now.buffer.bytes.items _ _ _ c.replace.result c.replace.ensures.bytes c.replace.ensures.space)
