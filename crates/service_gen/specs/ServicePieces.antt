-- Pieces of code of the services on alarms. x4 holds the base of memory, x10 and x11 the operands, a0 and a1.
use Rattle.std.specs.Prelude.{ℕ, ◌+◌, pos, List, [], ◌∷◌, ◌++◌}
use Rattle.sloth_base.specs.Arithmetic.{hi, lo}
use Rattle.sloth_base.specs.Status.{E_OK, E_OS_NOFUNC, E_OS_STATE, E_OS_VALUE}
use Rattle.sloth_region.specs.Layout.{alarm_left, alarm_cycle}
use Rattle.rv32_instr.specs.declared.InstrKind.{InstrKind}
use Rattle.rv32_instr.specs.declared.InstrKind.TheVariants.{Lui, Lw, Sw, Addi, Beq, Bne, Bltu}
use Rattle.block_parts.specs.Pieces.{back_code}
use Rattle.block_parts.specs.Ticks.{passing_distance}

-- the status of an alarm that is not in use, and on to the way back, behind two more, where this one is not
abbrev pub used_alarm_test : ℕ → List InstrKind
used_alarm_test alarm = Lw 1 4 (pos (alarm_left alarm)) ∷ Addi 10 0 (pos E_OS_NOFUNC) ∷ Beq 1 0 (passing_distance 2) ∷ []

-- the alarm is no longer in use
abbrev pub cancelling_code : ℕ → List InstrKind
cancelling_code alarm = Sw 4 0 (pos (alarm_left alarm)) ∷ Addi 10 0 (pos E_OK) ∷ []

-- a1 := the ticks that the alarm has left
abbrev pub telling_code : ℕ → List InstrKind
telling_code alarm = Lw 11 4 (pos (alarm_left alarm)) ∷ Addi 10 0 (pos E_OK) ∷ []

-- on behind so many instructions where the alarm is in use
abbrev pub unused_alarm_test : (alarm passed : ℕ) → List InstrKind
unused_alarm_test alarm passed = Lw 1 4 (pos (alarm_left alarm)) ∷ Bne 1 0 (passing_distance passed) ∷ []

-- on behind so many instructions where the cycle is below the least and not 0
abbrev pub least_cycle_test : (least passed : ℕ) → List InstrKind
least_cycle_test least passed = Beq 11 0 (passing_distance 3) ∷ Lui 1 (hi least) ∷ Addi 1 1 (lo least) ∷ Bltu 11 1 (passing_distance passed) ∷ []

-- on behind so many instructions where it is above the counter's greatest value, which stays in x1
abbrev pub greatest_value_test : (max passed : ℕ) → List InstrKind
greatest_value_test max passed = Lui 1 (hi max) ∷ Addi 1 1 (lo max) ∷ Bltu 1 11 (passing_distance passed) ∷ []

-- on behind so many instructions where the cycle is not in range
abbrev pub cycle_test : (max least passed : ℕ) → List InstrKind
cycle_test max least passed = least_cycle_test least (3 + passed) ++ greatest_value_test max passed

-- on behind so many instructions where the value that is to come is above the greatest
abbrev pub alarm_value_test : ℕ → List InstrKind
alarm_value_test passed = Bltu 1 10 (passing_distance passed) ∷ []

-- on behind so many instructions where the ticks from now on are 0 or above the greatest value
abbrev pub ticks_test : ℕ → List InstrKind
ticks_test passed = Beq 10 0 (passing_distance (1 + passed)) ∷ alarm_value_test passed

-- the alarm gets the ticks in a0 and the cycle in a1
abbrev pub setting_code : ℕ → List InstrKind
setting_code alarm = Sw 4 10 (pos (alarm_left alarm)) ∷ Sw 4 11 (pos (alarm_cycle alarm)) ∷ Addi 10 0 (pos E_OK) ∷ back_code

-- the refusal of a value that is out of range
abbrev pub value_refusal_code : List InstrKind
value_refusal_code = Addi 10 0 (pos E_OS_VALUE) ∷ back_code

-- that of an alarm in use
abbrev pub state_refusal_code : List InstrKind
state_refusal_code = Addi 10 0 (pos E_OS_STATE) ∷ back_code

-- both, one behind the other
abbrev pub refusing_code : List InstrKind
refusing_code = value_refusal_code ++ state_refusal_code
