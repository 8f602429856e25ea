use Rattle.std.proofs.Common.{ℕ, List, Option, ◌∙◌, ap}
use Rattle.rv32_instr.specs.Memory.{Memory, memory_of}
use Rattle.rv32_instr.specs.declared.InstrKind.{InstrKind}
use Rattle.sloth_base.specs.Machine.{State}
use Rattle.rv32_machine.specs.State.{state}
use Rattle.debug_view.specs.Looks.{fetched_instr, instr_effect}
use Rattle.debug_view.proofs.instructions.next_effect.Goals as goal

pub returns-clause-effect : goal.returns-clause-effect
returns-clause-effect c =
    let now : State = state (λ bus. bus) c.args.machine.now in
    let pc = c.next_pc-pc.result in
    c.instr_effect.ensures
    ∙ ap (λ (registers : List ℕ). instr_effect c.fetched_instr-instr.result pc registers) c.registers.ensures
    ∙ ap (λ (instr : Option InstrKind). instr_effect instr pc now.core.registers)
    (c.fetched_instr-instr.ensures.instr ∙ ap (λ (bus : Memory). fetched_instr bus pc) c.bus_mut.ensures.value)
    ∙ ap (λ at. instr_effect (fetched_instr (memory_of now.core) at) at now.core.registers) c.next_pc-pc.ensures

pub returns-clause-same : goal.returns-clause-same
returns-clause-same c =
    let machine = c.args.machine.now in
    ap (λ (bus : Memory). record machine { bus = bus }) (c.fetched_instr-instr.ensures.same ∙ c.bus_mut.ensures.value)
