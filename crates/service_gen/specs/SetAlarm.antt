-- SetRelAlarm and SetAbsAlarm (OSEK OS 2.2.3, sections 13.6.3.3 and 13.6.3.4).
use Rattle.std.specs.Prelude.{ℕ, ◌^◌, ◌≡◌, ◌≢◌, ◌<◌, ◌≤◌, ◌⊎◌, List, [], slice_index}
use Rattle.sloth_base.specs.declared.service.Service.TheVariants as service
use Rattle.sloth_base.specs.Machine.{Core, State}
use Rattle.sloth_base.specs.Status.{E_OK, E_OS_STATE, E_OS_VALUE}
use Rattle.sloth_base.specs.Ticks.{ticks_to}
use Rattle.sloth_base.specs.Limits.{counter_limit}
use Rattle.sloth_region.specs.Layout.{counter_value, alarm_left, alarm_cycle}
use Rattle.rv32_instr.specs.declared.InstrKind.{InstrKind}
use Rattle.rv32_instr.specs.Ram.{word_at, with_word}
use Rattle.masked_code.specs.Masked.{FromOpening}
use Rattle.masked_code.specs.Place.{offset_state}
use Rattle.block_parts.specs.ServiceCode.{IsServiceCode}
use Rattle.block_parts.specs.Back.{BackEffect, a0, a1}
use Rattle.service_gen.specs.CancelAlarm.{MayUse, left_ticks}

-- the operand in a0: the ticks from now on, or the value that is to come
abbrev pub first_operand : Core → ℕ
first_operand core = slice_index core.registers a0

-- the operand in a1: the cycle
abbrev pub second_operand : Core → ℕ
second_operand core = slice_index core.registers a1

-- a cycle is 0, or from the counter's least to its greatest one
abbrev pub CycleFits : (max least cycle : ℕ) → Type 0
CycleFits max least cycle = (cycle ≡ 0) ⊎ ((least ≤ cycle) × (cycle ≤ max))

-- ticks from now on are above 0 and at most the greatest value
abbrev pub TicksFit : (max least : ℕ) → Core → Type 0
TicksFit max least core = (first_operand core ≢ 0) × (first_operand core ≤ max) × CycleFits max least (second_operand core)

-- a value that is to come is at most the greatest
abbrev pub AlarmValueFits : (max least : ℕ) → Core → Type 0
AlarmValueFits max least core = (first_operand core ≤ max) × CycleFits max least (second_operand core)

-- the ticks from the counter's value to the first operand
abbrev pub ticks_until : (counter max : ℕ) → Core → ℕ
ticks_until counter max core = ticks_to max (word_at core.ram (counter_value counter)) (first_operand core)

-- ---- the effect, by what fits and by the ticks that the alarm gets

-- The alarm is in use: the status is E_OS_STATE, and nothing happens.
pub record HasAlarm (alarm : ℕ) (start end : State) : Type 0 where
  pub used : left_ticks alarm start.core ≢ 0
  pub status : slice_index end.core.registers a0 ≡ E_OS_STATE
  pub back : BackEffect a0 start.core start end

-- It is not, and the operands are out of range: the status is E_OS_VALUE, and nothing happens.
pub record HasNoFit (alarm : ℕ) (Fits : Core → Type 0) (start end : State) : Type 0 where
  pub unused : left_ticks alarm start.core ≡ 0
  pub none : Fits start.core → ⊥
  pub status : slice_index end.core.registers a0 ≡ E_OS_VALUE
  pub back : BackEffect a0 start.core start end

-- the bytes in which an alarm has these ticks left and this cycle
abbrev pub with_alarm : List ℕ → (alarm left cycle : ℕ) → List ℕ
with_alarm ram alarm left cycle = with_word (with_word ram (alarm_left alarm) left) (alarm_cycle alarm) cycle

-- They are in range: the alarm has so many ticks left, and its cycle; the status is E_OK.
pub record HasAlarmSet (alarm : ℕ) (Fits : Core → Type 0) (ticks : Core → ℕ) (start end : State) : Type 0 where
  pub unused : left_ticks alarm start.core ≡ 0
  pub fits : Fits start.core
  pub status : slice_index end.core.registers a0 ≡ E_OK
  pub back : BackEffect a0 (record start.core { ram = with_alarm start.core.ram alarm (ticks start.core) (second_operand start.core) }) start end

-- what a service does that sets an alarm
pub record SetAlarmEffect (alarm : ℕ) (Fits : Core → Type 0) (ticks : Core → ℕ) (touched : List ℕ) (start end : State) : Type 0 where
  pub touches : touched ≡ []
  pub done : HasAlarm alarm start end ⊎ (HasNoFit alarm Fits start end ⊎ HasAlarmSet alarm Fits ticks start end)

-- Code of SetRelAlarm: behind its first instruction at most 16 more lead to its effect, whatever lines arrive.
abbrev pub IsSetRelAlarmCode : (alarm max least : ℕ) → List InstrKind → Type 0
IsSetRelAlarmCode alarm max least code =
    IsServiceCode service.SetRelAlarm code ((offset : ℕ) (core : Core) → MayUse offset alarm code core
    → FromOpening 16 (offset_state offset core) (SetAlarmEffect alarm (TicksFit max least) first_operand))

-- the code can run; the counter's value is at most the greatest, and the value that is to come is a word
pub record MaySetAbsolute (offset alarm counter max : ℕ) (code : List InstrKind) (core : Core) : Type 0 where
  pub may_use : MayUse offset alarm code core
  pub is_counter : counter < counter_limit
  pub is_word : first_operand core < 2 ^ 32
  pub value : word_at core.ram (counter_value counter) ≤ max

-- Code of SetAbsAlarm: behind its first instruction at most 21 more lead to its effect, whatever lines arrive.
abbrev pub IsSetAbsAlarmCode : (alarm counter max least : ℕ) → List InstrKind → Type 0
IsSetAbsAlarmCode alarm counter max least code =
    IsServiceCode service.SetAbsAlarm code ((offset : ℕ) (core : Core) → MaySetAbsolute offset alarm counter max code core
    → FromOpening 21 (offset_state offset core) (SetAlarmEffect alarm (AlarmValueFits max least) (ticks_until counter max)))
