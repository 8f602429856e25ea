-- ChainTask (OSEK OS 2.2.3, section 13.2.3.3).
use Rattle.std.specs.Prelude.{ℕ, ◌+◌, ◌≡◌, ◌≢◌, ◌<◌, ◌⊎◌, List, [], ◌∷◌, slice_index}
use Rattle.sloth_base.specs.declared.service.Service.TheVariants as service
use Rattle.sloth_base.specs.Machine.{Core, State}
use Rattle.sloth_base.specs.Status.{E_OS_LIMIT}
use Rattle.sloth_base.specs.Arrive.{state_arrive}
use Rattle.sloth_base.specs.Limits.{task_limit}
use Rattle.sloth_region.specs.Layout.{cur, active}
use Rattle.rv32_instr.specs.declared.InstrKind.{InstrKind}
use Rattle.rv32_instr.specs.Ram.{word_at}
use Rattle.masked_code.specs.Masked.{FromOpening}
use Rattle.masked_code.specs.Place.{offset_state}
use Rattle.masked_code.specs.Kernel.{IsContextBelow}
use Rattle.block_parts.specs.ServiceCode.{IsServiceCode}
use Rattle.block_parts.specs.Back.{CanGoBack, BackEffect, a0}
use Rattle.block_parts.specs.SuspensionTest.{IsFoundSuspended}
use Rattle.service_gen.specs.TerminateTask.{TerminateTaskEffect}

-- the code can run, the task `own` runs, what runs below it has its context at `place`, and what tells of the chained task are bits
pub record MayChain (offset task own place : ℕ) (code : List InstrKind) (core : Core) : Type 0 where
  pub goes_back : CanGoBack offset code core
  pub runs : word_at core.ram cur ≡ own + 1
  pub is_own : own < task_limit
  pub is_task : task < task_limit
  pub below : IsContextBelow place core
  pub active_bit : word_at core.ram (active task) < 2
  pub pending_bit : slice_index core.pending task < 2
  pub enabled_bit : slice_index core.enabled task < 2

-- The caller ends, and then the chained task's line is raised.
pub record HasChained (task own place : ℕ) (touched : List ℕ) (start end : State) : Type 0 where
  pub may : (task ≡ own) × (touched ≡ own ∷ []) ⊎ (task ≢ own) × IsFoundSuspended task start.core × (touched ≡ task ∷ own ∷ [])
  pub middle : State
  pub ended : TerminateTaskEffect own place (own ∷ []) start middle
  pub raised : end ≡ state_arrive (task ∷ []) middle

-- Nothing happens; the status is E_OS_LIMIT.
pub record HasNotChained (task own : ℕ) (touched : List ℕ) (start end : State) : Type 0 where
  pub other : task ≢ own
  pub not_suspended : IsFoundSuspended task start.core → ⊥
  pub touches : touched ≡ task ∷ []
  pub status : slice_index end.core.registers a0 ≡ E_OS_LIMIT
  pub back : BackEffect a0 start.core start end

-- what ChainTask does
abbrev pub ChainTaskEffect : ℕ → ℕ → ℕ → List ℕ → State → State → Type 0
ChainTaskEffect task own place touched start end = HasChained task own place touched start end ⊎ HasNotChained task own touched start end

-- Code of ChainTask: behind its first instruction at most 59 more lead to its effect, whatever lines arrive.
abbrev pub IsChainTaskCode : ℕ → List InstrKind → Type 0
IsChainTaskCode task code =
    IsServiceCode service.ChainTask code ((offset own place : ℕ) (core : Core) → MayChain offset task own place code core
    → FromOpening 59 (offset_state offset core) (ChainTaskEffect task own place))
