-- GetTaskState (OSEK OS 2.2.3, section 13.2.3.6).
use Rattle.std.specs.Prelude.{ℕ, ◌+◌, ◌≡◌, ◌≢◌, ◌<◌, List, [], ◌∷◌, slice_index}
use Rattle.sloth_base.specs.declared.service.Service.TheVariants as service
use Rattle.sloth_base.specs.Machine.{Core, State}
use Rattle.sloth_base.specs.Status.{E_OK}
use Rattle.sloth_base.specs.Limits.{task_limit}
use Rattle.sloth_region.specs.Layout.{cur, active}
use Rattle.rv32_instr.specs.declared.InstrKind.{InstrKind}
use Rattle.rv32_instr.specs.Ram.{word_at}
use Rattle.masked_code.specs.Masked.{FromOpening}
use Rattle.masked_code.specs.Place.{offset_state}
use Rattle.block_parts.specs.ServiceCode.{IsServiceCode}
use Rattle.block_parts.specs.Back.{CanGoBack, BackEffect, a0, a1}
use Rattle.block_parts.specs.SuspensionTest.{IsFoundSuspended}

-- the code can run, the task `own` runs, and what tells of the other task are bits
pub record MayTellState (offset task own : ℕ) (code : List InstrKind) (core : Core) : Type 0 where
  pub goes_back : CanGoBack offset code core
  pub runs : word_at core.ram cur ≡ own + 1
  pub is_own : own < task_limit
  pub is_task : task < task_limit
  pub active_bit : word_at core.ram (active task) < 2
  pub pending_bit : slice_index core.pending task < 2
  pub enabled_bit : slice_index core.enabled task < 2

-- the number of a task's state where the task `own` runs, and the lines that are touched to tell it
pub data IsStateNumber (task own : ℕ) (core : Core) (touched : List ℕ) (number : ℕ) : Type 0 where
  running : word_at core.ram (active task) ≡ 1 → task ≡ own → touched ≡ [] → number ≡ 0 → IsStateNumber task own core touched number
  preempted : word_at core.ram (active task) ≡ 1 → task ≢ own → touched ≡ [] → number ≡ 2 → IsStateNumber task own core touched number
  waiting : word_at core.ram (active task) ≡ 0 → slice_index core.enabled task ≡ 0 → touched ≡ [] → number ≡ 1
      → IsStateNumber task own core touched number
  ready : word_at core.ram (active task) ≡ 0 → slice_index core.enabled task ≡ 1 → slice_index core.pending task ≡ 1 → touched ≡ task ∷ []
      → number ≡ 2 → IsStateNumber task own core touched number
  suspended : IsFoundSuspended task core → touched ≡ task ∷ [] → number ≡ 3 → IsStateNumber task own core touched number

-- a1 is the number of the task's state, the status E_OK.
pub record GetTaskStateEffect (task own : ℕ) (touched : List ℕ) (start end : State) : Type 0 where
  pub status : slice_index end.core.registers a0 ≡ E_OK
  pub number : IsStateNumber task own start.core touched (slice_index end.core.registers a1)
  pub back : BackEffect a1 start.core start end

-- Code of GetTaskState: behind its first instruction at most 10 more lead to its effect, whatever lines arrive.
abbrev pub IsGetTaskStateCode : ℕ → List InstrKind → Type 0
IsGetTaskStateCode task code =
    IsServiceCode service.GetTaskState code ((offset own : ℕ) (core : Core) → MayTellState offset task own code core → FromOpening 10 (offset_state offset core) (GetTaskStateEffect task own))
