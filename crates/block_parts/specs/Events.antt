-- Pieces of the services on events.
use Rattle.std.specs.Prelude.{ℕ, ◌+◌, ◌-◌, ◌*◌, ℤ, pos, List, [], ◌∷◌, ◌++◌}
use Rattle.sloth_base.specs.Status.{E_OK, E_OS_STATE}
use Rattle.sloth_region.specs.Layout.{cur, events, wait, resume, context_pc, enabled_byte}
use Rattle.rv32_instr.specs.declared.InstrKind.{InstrKind}
use Rattle.rv32_instr.specs.declared.InstrKind.TheVariants.{Beq, Bne, Lw, Sw, Sb, Add, Addi, Or, And, Xor, Slli}
use Rattle.masked_code.specs.Pieces.{past}
use Rattle.block_parts.specs.Pieces.{own_events, raising_code}

-- the status E_OS_STATE, and on behind so many instructions where x1 is 1: the task is Suspended
abbrev pub refusal_code : ℕ → List InstrKind
refusal_code passed = Addi 10 0 (pos E_OS_STATE) ∷ Bne 1 0 (pos (4 + 4 * passed)) ∷ []

-- ---- ClearEvent

-- takes the events of the mask in x30 out of the running task's, with the status E_OK
abbrev pub own_clearing_code : List InstrKind
own_clearing_code = Lw 10 1 own_events ∷ Or 10 10 30 ∷ Xor 10 10 30 ∷ Sw 1 10 own_events ∷ Addi 10 0 (pos E_OK) ∷ []

-- ---- GetEvent

-- a1 := the task's events, with the status E_OK
abbrev pub events_telling_code : ℕ → List InstrKind
events_telling_code task = Addi 10 0 (pos E_OK) ∷ Lw 11 4 (pos (events task)) ∷ []

-- ---- SetEvent

-- enables the task's line; x1 holds 1
abbrev pub enabling_code : ℕ → List InstrKind
enabling_code task = Sb 3 1 (pos (enabled_byte task)) ∷ []

-- the status E_OK, and on behind what wakes the task where it waits for none of the events in x1
abbrev pub awaited_mask_test : ℕ → List InstrKind
awaited_mask_test task =
    Lw 10 4 (pos (wait task)) ∷ And 1 1 10 ∷ Addi 10 0 (pos E_OK) ∷ Beq 1 0 (past (raising_code task ++ enabling_code task)) ∷ []

-- ---- WaitEvent

-- the running task's word of its own context, where 4 times `cur` tells the place
abbrev pub own_resume : ℤ
own_resume = pos (resume 0 - 4)

-- the context at x1 is the running task's own, with the address in x31 to go on at; leaves `cur` in x5
abbrev pub keeping_code : List InstrKind
keeping_code = Sw 1 31 (pos context_pc) ∷ Lw 5 4 (pos cur) ∷ Slli 30 5 2 ∷ Add 30 30 4 ∷ Sw 30 1 own_resume ∷ []
