use Rattle.std.proofs.Common.{◌∙◌, sym, ap}
use Rattle.rv32_instr.specs.Ram.{word_at}
use Rattle.machine_memory.proofs.FirstBytes.{word_of_front}
use Rattle.machine_memory.proofs.code_ram.Ram.word.Goals as goal

pub returns : goal.returns
returns c =
    c.word_in.ensures ∙ ap (λ bytes. word_at bytes c.args.offset) c.deref.ensures.value
    ∙ sym (word_of_front c.self.inside.front.items c.args.offset)
    ∙ ap (λ bytes. word_at bytes c.args.offset) c.self.view_is
