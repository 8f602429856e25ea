-- Pieces of a tick. x4 holds the base of memory but where it says otherwise, and bit T of x3 says whether task T is not Suspended.
use Rattle.std.specs.Prelude.{ℕ, ◌+◌, ◌*◌, ℤ, pos, List, [], ◌∷◌}
use Rattle.sloth_base.specs.Arithmetic.{hi, lo}
use Rattle.sloth_region.specs.Layout.{active, wait, alarm_left, alarm_cycle, words_high, controller_high, pending_byte, enabled_byte}
use Rattle.rv32_instr.specs.declared.InstrKind.{InstrKind}
use Rattle.rv32_instr.specs.declared.InstrKind.TheVariants.{Beq, Bne, Lui, Lw, Lbu, Sw, Addi, Andi, Xori, Or, And, Slli, Srli}

-- how far a branch goes that passes so many instructions
abbrev pub passing_distance : ℕ → ℤ
passing_distance passed = pos (4 + 4 * passed)

-- on behind one more where the counter's value, in x1, is not the greatest, which stays in x3
abbrev pub greatest_test : ℕ → List InstrKind
greatest_test max = Lui 3 (hi max) ∷ Addi 3 3 (lo max) ∷ Bne 1 3 (passing_distance 1) ∷ []

-- The task's bit becomes 1 where the task is not Suspended. The load of its pending byte is the fourth; x4 may hold anything before, and
-- what it holds behind is not said.
abbrev pub look_code : ℕ → List InstrKind
look_code task =
    Lui 4 controller_high ∷ Lbu 1 4 (pos (enabled_byte task)) ∷ Xori 1 1 (pos 1) ∷ Lbu 4 4 (pos (pending_byte task)) ∷ Or 1 1 4
    ∷ Lui 4 words_high ∷ Lw 4 4 (pos (active task)) ∷ Or 1 1 4 ∷ Slli 1 1 task ∷ Or 3 3 1 ∷ []

-- on behind the alarm where the task is Suspended
abbrev pub suspension_test : ℕ → List InstrKind
suspension_test task = Srli 1 3 task ∷ Andi 1 1 (pos 1) ∷ Beq 1 0 (passing_distance 14) ∷ []

-- on behind what wakes the task where it waits for none of the events in x1; x4 is changed
abbrev pub awaited_events_test : ℕ → List InstrKind
awaited_events_test task = Lw 4 4 (pos (wait task)) ∷ And 1 1 4 ∷ Beq 1 0 (passing_distance 4) ∷ []

-- the alarm starts again with its cycle
abbrev pub restarting_code : ℕ → List InstrKind
restarting_code alarm = Lw 1 4 (pos (alarm_cycle alarm)) ∷ Sw 4 1 (pos (alarm_left alarm)) ∷ []
