-- GetAlarm (OSEK OS 2.2.3, section 13.6.3.2).
use Rattle.std.specs.Prelude.{ℕ, ◌≡◌, ◌≢◌, ◌⊎◌, List, [], slice_index}
use Rattle.sloth_base.specs.declared.service.Service.TheVariants as service
use Rattle.sloth_base.specs.Machine.{Core, State}
use Rattle.sloth_base.specs.Status.{E_OK}
use Rattle.rv32_instr.specs.declared.InstrKind.{InstrKind}
use Rattle.masked_code.specs.Masked.{FromOpening}
use Rattle.masked_code.specs.Place.{offset_state}
use Rattle.block_parts.specs.ServiceCode.{IsServiceCode}
use Rattle.block_parts.specs.Back.{BackEffect, a0, a1}
use Rattle.service_gen.specs.CancelAlarm.{MayUse, left_ticks, HasNoAlarm}

-- The alarm is in use: a1 is the ticks that it has left, the status E_OK.
pub record HasToldLeft (alarm : ℕ) (start end : State) : Type 0 where
  pub used : left_ticks alarm start.core ≢ 0
  pub status : slice_index end.core.registers a0 ≡ E_OK
  pub answer : slice_index end.core.registers a1 ≡ left_ticks alarm start.core
  pub back : BackEffect a1 start.core start end

-- what GetAlarm does
pub record GetAlarmEffect (alarm : ℕ) (touched : List ℕ) (start end : State) : Type 0 where
  pub touches : touched ≡ []
  pub done : HasNoAlarm alarm start end ⊎ HasToldLeft alarm start end

-- Code of GetAlarm: behind its first instruction at most 7 more lead to its effect, whatever lines arrive.
abbrev pub IsGetAlarmCode : ℕ → List InstrKind → Type 0
IsGetAlarmCode alarm code =
    IsServiceCode service.GetAlarm code ((offset : ℕ) (core : Core) → MayUse offset alarm code core → FromOpening 7 (offset_state offset core) (GetAlarmEffect alarm))
