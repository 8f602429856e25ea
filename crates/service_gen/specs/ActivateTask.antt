-- ActivateTask (OSEK OS 2.2.3, section 13.2.3.1).
use Rattle.std.specs.Prelude.{ℕ, ◌≡◌, ◌<◌, ◌⊎◌, List, [], ◌∷◌, slice_index, slice_set}
use Rattle.sloth_base.specs.declared.service.Service.TheVariants as service
use Rattle.sloth_base.specs.Machine.{Core, State}
use Rattle.sloth_base.specs.Status.{E_OK, E_OS_LIMIT}
use Rattle.sloth_base.specs.Limits.{task_limit}
use Rattle.block_parts.specs.SuspensionTest.{IsFoundSuspended}
use Rattle.sloth_region.specs.Layout.{active}
use Rattle.rv32_instr.specs.declared.InstrKind.{InstrKind}
use Rattle.rv32_instr.specs.Ram.{word_at}
use Rattle.masked_code.specs.Masked.{FromOpening}
use Rattle.masked_code.specs.Place.{offset_state}
use Rattle.block_parts.specs.ServiceCode.{IsServiceCode}
use Rattle.block_parts.specs.Back.{CanGoBack, BackEffect, a0}

-- the code can run, and what tells of the task are bits
pub record MayActivate (offset task : ℕ) (code : List InstrKind) (core : Core) : Type 0 where
  pub goes_back : CanGoBack offset code core
  pub is_task : task < task_limit
  pub active_bit : word_at core.ram (active task) < 2
  pub pending_bit : slice_index core.pending task < 2
  pub enabled_bit : slice_index core.enabled task < 2

-- The task's line is pending. The status is E_OK where it was Suspended, else E_OS_LIMIT.
pub record ActivateTaskEffect (task : ℕ) (touched : List ℕ) (start end : State) : Type 0 where
  pub touches : touched ≡ task ∷ []
  pub status :
      (IsFoundSuspended task start.core × (slice_index end.core.registers a0 ≡ E_OK))
      ⊎ ((IsFoundSuspended task start.core → ⊥) × (slice_index end.core.registers a0 ≡ E_OS_LIMIT))
  pub back : BackEffect a0 (record start.core { pending = slice_set start.core.pending task 1 }) start end

-- Code of ActivateTask: behind its first instruction at most 11 more lead to its effect, whatever lines arrive.
abbrev pub IsActivateTaskCode : ℕ → List InstrKind → Type 0
IsActivateTaskCode task code =
    IsServiceCode service.ActivateTask code ((offset : ℕ) (core : Core) → MayActivate offset task code core → FromOpening 11 (offset_state offset core) (ActivateTaskEffect task))
