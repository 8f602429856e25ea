-- Fetch and decode.
use Rattle.std.proofs.Common.{◌≡◌, ℕ, ◌-◌, ◌%◌, refl, ap, sym, ◌∙◌, arith, true, false, Option, Some, None}
use Rattle.std.proofs.lemmas.Bool.Decides.{nat_tests}
use Rattle.sloth_base.specs.Machine.{State}
use Rattle.sloth_base.specs.declared.app.Width.TheVariants as width
use Rattle.sloth_base.specs.MemoryMap.{memory_base}
use Rattle.rv32_instr.specs.declared.encoding.Bad.{Bad}
use Rattle.rv32_instr.specs.declared.encoding.Stop.TheVariants as stop
use Rattle.rv32_instr.specs.declared.InstrKind.{InstrKind}
use Rattle.rv32_instr.specs.Encode.{Encode}
use Rattle.rv32_instr.specs.Table.{Decode}
use Rattle.rv32_instr.specs.Ram.{word_at}
use Rattle.rv32_instr.specs.Memory.{Memory, in_ram, refusal, loaded_number}
use Rattle.rv32_instr.specs.Effect.{effect}
use Rattle.rv32_instr.specs.declared.encoding.Effect.{Effect}
use Rattle.rv32_instr.specs.Execute.{Next, Stopped, execute, perform, step, touched, touched_line_by, word_at_pc}

-- an aligned word may be loaded exactly where it is in RAM
pub fetch_in_ram : (memory : Memory) (pc : ℕ) → pc % 4 ≡ 0 → refusal memory pc width.Word ≡ None → in_ram pc 4 ≡ true
unfolding refusal
fetch_in_ram memory pc h e = grind (arith, nat_tests)

pub fetch_refused
    : (memory : Memory) (pc : ℕ) (reason : Bad) → pc % 4 ≡ 0 → refusal memory pc width.Word ≡ Some reason → in_ram pc 4 ≡ false
unfolding refusal
fetch_refused memory pc reason h e = grind (arith, nat_tests)

pub fetched_word : (memory : Memory) (pc : ℕ) → loaded_number memory pc width.Word ≡ word_at memory.ram (pc - memory_base)
unfolding loaded_number
fetched_word memory pc = refl

-- the step of a fetched word
pub step_fetch : (state : State) → in_ram state.pc 4 ≡ false → step state ≡ Stopped (stop.Fetch state.pc)
unfolding step
step_fetch state h = rw h refl

pub step_illegal
    : (state : State) → in_ram state.pc 4 ≡ true → Decode (word_at_pc state) ≡ None
    → step state ≡ Stopped (stop.Illegal (word_at_pc state))
unfolding step
step_illegal state h e = rw (h, e) refl

pub step_does
    : (state : State) (kind : InstrKind) → in_ram state.pc 4 ≡ true → Decode (word_at_pc state) ≡ Some kind
    → step state ≡ perform (effect kind state.pc state.core.registers) (Encode kind) state.pc state.core
unfolding step execute
step_does state kind h d = rw (h, d) refl

pub touched_is
    : (state : State) (kind : InstrKind) → Decode (word_at_pc state) ≡ Some kind
    → touched state ≡ touched_line_by (effect kind state.pc state.core.registers)
unfolding touched
touched_is state kind e = rw e refl

-- what the fetch of an instruction and the doing of its effect come to
pub executed
    : (old new : State) (kind : InstrKind) (asked : Effect) (next : Next)
    → in_ram old.pc 4 ≡ true → Decode (word_at_pc old) ≡ Some kind → new ≡ old
    → asked ≡ effect kind new.pc new.core.registers → perform asked (Encode kind) new.pc new.core ≡ next → step old ≡ next
executed old new kind asked next h d s a p =
    step_does old kind h d
    ∙ ap (λ x. perform (effect kind x.pc x.core.registers) (Encode kind) x.pc x.core) (sym s)
    ∙ ap (λ x. perform x (Encode kind) new.pc new.core) (sym a)
    ∙ p

pub touched_executed
    : (old new : State) (kind : InstrKind) (asked : Effect) (line : Option ℕ)
    → Decode (word_at_pc old) ≡ Some kind → new ≡ old → asked ≡ effect kind new.pc new.core.registers
    → line ≡ touched_line_by asked → line ≡ touched old
touched_executed old new kind asked line d s a t =
    t ∙ ap touched_line_by a ∙ ap (λ x. touched_line_by (effect kind x.pc x.core.registers)) s
    ∙ sym (touched_is old kind d)
