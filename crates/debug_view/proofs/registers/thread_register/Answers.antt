use Rattle.std.proofs.Common.{◌≡◌, ◌-◌, ◌∙◌, ap, sym, ℕ, Some, Bool, false, if◌then◌else◌}
use Rattle.rv32_instr.specs.Memory.{Memory, memory_of}
use Rattle.rv32_machine.specs.State.{state}
use Rattle.rv32_machine.specs.declared.machine.Machine.{Machine}
use Rattle.debug_view.specs.Contexts.{kept_register}
use Rattle.debug_view.specs.Registers.{is_live, machine_register}
use Rattle.debug_view.proofs.registers.thread_register.Goals as goal

pub returns-clause-register : goal.returns-clause-register
returns-clause-register c =
    let a = c.args in
    let now = state (λ bus. bus) a.machine.now in
    let lent : c.bus_mut.result.now ≡ a.machine.now.bus = c.bus_mut.ensures.value ∙ ap (λ (machine : Machine Memory). machine.bus) c.is_live.ensures.same in
    let dead : is_live a.tasks a.began now a.thread ≡ false = sym c.is_live.ensures.live ∙ c.if-is_live.false in
    c.kept_register.ensures.register
    ∙ ap (λ (bus : Memory). kept_register bus a.tasks c.saturating_sub.result a.number) lent
    ∙ ap (λ (task : ℕ). kept_register a.machine.now.bus a.tasks task a.number) c.saturating_sub.ensures
    ∙ sym (ap (λ (b : Bool). if b then Some (machine_register now a.number) else kept_register (memory_of now.core) a.tasks (a.thread - 2) a.number) dead)
