-- SetEvent (OSEK OS 2.2.3, section 13.5.3.1).
use Rattle.std.specs.Prelude.{ℕ, ◌≡◌, ◌≢◌, ◌<◌, ◌⊎◌, List, [], ◌∷◌, slice_index, slice_set, bit_and, bit_or}
use Rattle.sloth_base.specs.declared.service.Service.TheVariants as service
use Rattle.sloth_base.specs.Machine.{Core, State}
use Rattle.sloth_base.specs.Status.{E_OK, E_OS_STATE}
use Rattle.sloth_base.specs.Limits.{task_limit}
use Rattle.sloth_region.specs.Layout.{active, events, wait}
use Rattle.rv32_instr.specs.declared.InstrKind.{InstrKind}
use Rattle.rv32_instr.specs.Ram.{word_at, with_word}
use Rattle.masked_code.specs.Masked.{FromOpening}
use Rattle.masked_code.specs.Place.{offset_state}
use Rattle.block_parts.specs.ServiceCode.{IsServiceCode}
use Rattle.block_parts.specs.Back.{CanGoBack, BackEffect, a0}
use Rattle.block_parts.specs.SuspensionTest.{IsFoundSuspended}
use Rattle.service_gen.specs.ClearEvent.{mask_register}

-- the code can run, and what tells of the task are bits
pub record MaySet (offset task : ℕ) (code : List InstrKind) (core : Core) : Type 0 where
  pub goes_back : CanGoBack offset code core
  pub is_task : task < task_limit
  pub active_bit : word_at core.ram (active task) < 2
  pub pending_bit : slice_index core.pending task < 2
  pub enabled_bit : slice_index core.enabled task < 2

-- the task's events, with those of the mask
abbrev pub with_mask : ℕ → Core → ℕ
with_mask task core = bit_or (word_at core.ram (events task)) (slice_index core.registers mask_register)

-- those of them that the task's word of awaited events has; the word is stale where the task does not wait
abbrev pub awaited_events : ℕ → Core → ℕ
awaited_events task core = bit_and (with_mask task core) (word_at core.ram (wait task))

-- the core in which the events of the mask are set for the task
abbrev pub set_core : ℕ → Core → Core
set_core task core = record core { ram = with_word core.ram (events task) (with_mask task core) }

-- the same with the task's line pending and enabled
abbrev pub woken_core : ℕ → Core → Core
woken_core task core = record (set_core task core) { pending = slice_set core.pending task 1; enabled = slice_set core.enabled task 1 }

-- The task is Suspended: nothing happens, and the status is E_OS_STATE.
pub record HasNotSet (task : ℕ) (start end : State) : Type 0 where
  pub suspended : IsFoundSuspended task start.core
  pub status : slice_index end.core.registers a0 ≡ E_OS_STATE
  pub back : BackEffect a0 start.core start end

-- It is not Suspended and awaits none of its events, which now have those of the mask; the status is E_OK.
pub record HasSet (task : ℕ) (start end : State) : Type 0 where
  pub not_suspended : IsFoundSuspended task start.core → ⊥
  pub none_awaited : awaited_events task start.core ≡ 0
  pub status : slice_index end.core.registers a0 ≡ E_OK
  pub back : BackEffect a0 (set_core task start.core) start end

-- It is not Suspended and awaits one of its events, which now have those of the mask: its line is pending and enabled; the status is E_OK.
pub record HasWoken (task : ℕ) (start end : State) : Type 0 where
  pub not_suspended : IsFoundSuspended task start.core → ⊥
  pub one_awaited : awaited_events task start.core ≢ 0
  pub status : slice_index end.core.registers a0 ≡ E_OK
  pub back : BackEffect a0 (woken_core task start.core) start end

-- what SetEvent does
pub record SetEventEffect (task : ℕ) (touched : List ℕ) (start end : State) : Type 0 where
  pub touches : touched ≡ task ∷ []
  pub done : HasNotSet task start end ⊎ (HasSet task start end ⊎ HasWoken task start end)

-- Code of SetEvent: behind its first instruction at most 19 more lead to its effect, whatever lines arrive.
abbrev pub IsSetEventCode : ℕ → List InstrKind → Type 0
IsSetEventCode task code =
    IsServiceCode service.SetEvent code ((offset : ℕ) (core : Core) → MaySet offset task code core → FromOpening 19 (offset_state offset core) (SetEventEffect task))
