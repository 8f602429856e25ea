-- CancelAlarm (OSEK OS 2.2.3, section 13.6.3.5).
use Rattle.std.specs.Prelude.{ℕ, ◌≡◌, ◌≢◌, ◌<◌, ◌⊎◌, List, [], slice_index}
use Rattle.sloth_base.specs.declared.service.Service.TheVariants as service
use Rattle.sloth_base.specs.Machine.{Core, State}
use Rattle.sloth_base.specs.Status.{E_OK, E_OS_NOFUNC}
use Rattle.sloth_base.specs.Limits.{alarm_limit}
use Rattle.sloth_region.specs.Layout.{alarm_left}
use Rattle.rv32_instr.specs.declared.InstrKind.{InstrKind}
use Rattle.rv32_instr.specs.Ram.{word_at, with_word}
use Rattle.masked_code.specs.Masked.{FromOpening}
use Rattle.masked_code.specs.Place.{offset_state}
use Rattle.block_parts.specs.ServiceCode.{IsServiceCode}
use Rattle.block_parts.specs.Back.{CanGoBack, BackEffect, a0}

-- the code can run
pub record MayUse (offset alarm : ℕ) (code : List InstrKind) (core : Core) : Type 0 where
  pub goes_back : CanGoBack offset code core
  pub is_alarm : alarm < alarm_limit

-- the ticks that an alarm has left
abbrev pub left_ticks : ℕ → Core → ℕ
left_ticks alarm core = word_at core.ram (alarm_left alarm)

-- The alarm is not in use: the status is E_OS_NOFUNC, and nothing happens.
pub record HasNoAlarm (alarm : ℕ) (start end : State) : Type 0 where
  pub unused : left_ticks alarm start.core ≡ 0
  pub status : slice_index end.core.registers a0 ≡ E_OS_NOFUNC
  pub back : BackEffect a0 start.core start end

-- It is in use, and is no longer; the status is E_OK.
pub record HasCancelled (alarm : ℕ) (start end : State) : Type 0 where
  pub used : left_ticks alarm start.core ≢ 0
  pub status : slice_index end.core.registers a0 ≡ E_OK
  pub back : BackEffect a0 (record start.core { ram = with_word start.core.ram (alarm_left alarm) 0 }) start end

-- what CancelAlarm does
pub record CancelAlarmEffect (alarm : ℕ) (touched : List ℕ) (start end : State) : Type 0 where
  pub touches : touched ≡ []
  pub done : HasNoAlarm alarm start end ⊎ HasCancelled alarm start end

-- Code of CancelAlarm: behind its first instruction at most 7 more lead to its effect, whatever lines arrive.
abbrev pub IsCancelAlarmCode : ℕ → List InstrKind → Type 0
IsCancelAlarmCode alarm code =
    IsServiceCode service.CancelAlarm code ((offset : ℕ) (core : Core) → MayUse offset alarm code core → FromOpening 7 (offset_state offset core) (CancelAlarmEffect alarm))
