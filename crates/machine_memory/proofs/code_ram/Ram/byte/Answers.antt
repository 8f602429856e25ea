use Rattle.std.proofs.Common.{◌∙◌, sym, ap}
use Rattle.std.specs.Prelude.{slice_index}
use Rattle.machine_memory.proofs.FirstBytes.{byte_of_front}
use Rattle.machine_memory.proofs.code_ram.Ram.byte.Goals as goal

pub returns : goal.returns
returns c =
    c.byte_in.ensures ∙ ap (λ bytes. slice_index bytes c.args.offset) c.deref.ensures.value
    ∙ sym (byte_of_front c.self.inside.front.items c.args.offset)
    ∙ ap (λ bytes. slice_index bytes c.args.offset) c.self.view_is
