-- GetTaskID (OSEK OS 2.2.3, section 13.2.3.5).
use Rattle.std.specs.Prelude.{ℕ, ◌+◌, ◌≡◌, ◌<◌, List, [], slice_index}
use Rattle.sloth_base.specs.declared.service.Service.TheVariants as service
use Rattle.sloth_base.specs.Machine.{Core, State}
use Rattle.sloth_base.specs.Status.{E_OK}
use Rattle.sloth_base.specs.Limits.{task_limit}
use Rattle.sloth_region.specs.Layout.{cur}
use Rattle.rv32_instr.specs.declared.InstrKind.{InstrKind}
use Rattle.rv32_instr.specs.Ram.{word_at}
use Rattle.masked_code.specs.Masked.{FromOpening}
use Rattle.masked_code.specs.Place.{offset_state}
use Rattle.block_parts.specs.ServiceCode.{IsServiceCode}
use Rattle.block_parts.specs.Back.{CanGoBack, BackEffect, a0, a1}

-- the code can run, and this task runs
pub record MayTell (offset task : ℕ) (code : List InstrKind) (core : Core) : Type 0 where
  pub goes_back : CanGoBack offset code core
  pub runs : word_at core.ram cur ≡ task + 1
  pub is_task : task < task_limit

-- a1 is the running task's number, the status E_OK.
pub record GetTaskIDEffect (task : ℕ) (touched : List ℕ) (start end : State) : Type 0 where
  pub touches : touched ≡ []
  pub status : slice_index end.core.registers a0 ≡ E_OK
  pub number : slice_index end.core.registers a1 ≡ task
  pub back : BackEffect a1 start.core start end

-- Code of GetTaskID: behind its first instruction at most 5 more lead to its effect, whatever lines arrive.
abbrev pub IsGetTaskIDCode : List InstrKind → Type 0
IsGetTaskIDCode code =
    IsServiceCode service.GetTaskID code ((offset task : ℕ) (core : Core) → MayTell offset task code core → FromOpening 5 (offset_state offset core) (GetTaskIDEffect task))
