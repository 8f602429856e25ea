-- GetEvent (OSEK OS 2.2.3, section 13.5.3.3).
use Rattle.std.specs.Prelude.{ℕ, ◌≡◌, ◌<◌, ◌⊎◌, List, [], ◌∷◌, slice_index}
use Rattle.sloth_base.specs.declared.service.Service.TheVariants as service
use Rattle.sloth_base.specs.Machine.{Core, State}
use Rattle.sloth_base.specs.Status.{E_OK, E_OS_STATE}
use Rattle.sloth_base.specs.Limits.{task_limit}
use Rattle.sloth_region.specs.Layout.{active, events}
use Rattle.rv32_instr.specs.declared.InstrKind.{InstrKind}
use Rattle.rv32_instr.specs.Ram.{word_at}
use Rattle.masked_code.specs.Masked.{FromOpening}
use Rattle.masked_code.specs.Place.{offset_state}
use Rattle.block_parts.specs.ServiceCode.{IsServiceCode}
use Rattle.block_parts.specs.Back.{CanGoBack, BackEffect, a0, a1}
use Rattle.block_parts.specs.SuspensionTest.{IsFoundSuspended}

-- the code can run, and what tells of the task are bits
pub record MayGet (offset task : ℕ) (code : List InstrKind) (core : Core) : Type 0 where
  pub goes_back : CanGoBack offset code core
  pub is_task : task < task_limit
  pub active_bit : word_at core.ram (active task) < 2
  pub pending_bit : slice_index core.pending task < 2
  pub enabled_bit : slice_index core.enabled task < 2

-- The task is Suspended: the status is E_OS_STATE, and there is no answer.
pub record HasNotTold (task : ℕ) (start end : State) : Type 0 where
  pub suspended : IsFoundSuspended task start.core
  pub status : slice_index end.core.registers a0 ≡ E_OS_STATE
  pub back : BackEffect a0 start.core start end

-- It is not Suspended: a1 is its events, the status E_OK.
pub record HasTold (task : ℕ) (start end : State) : Type 0 where
  pub not_suspended : IsFoundSuspended task start.core → ⊥
  pub status : slice_index end.core.registers a0 ≡ E_OK
  pub answer : slice_index end.core.registers a1 ≡ word_at start.core.ram (events task)
  pub back : BackEffect a1 start.core start end

-- what GetEvent does
pub record GetEventEffect (task : ℕ) (touched : List ℕ) (start end : State) : Type 0 where
  pub touches : touched ≡ task ∷ []
  pub told : HasNotTold task start end ⊎ HasTold task start end

-- Code of GetEvent: behind its first instruction at most 11 more lead to its effect, whatever lines arrive.
abbrev pub IsGetEventCode : ℕ → List InstrKind → Type 0
IsGetEventCode task code =
    IsServiceCode service.GetEvent code ((offset : ℕ) (core : Core) → MayGet offset task code core → FromOpening 11 (offset_state offset core) (GetEventEffect task))
