-- ClearEvent (OSEK OS 2.2.3, section 13.5.3.2).
use Rattle.std.specs.Prelude.{ℕ, ◌+◌, ◌-◌, ◌^◌, ◌≡◌, ◌<◌, List, [], slice_index, bit_and}
use Rattle.sloth_base.specs.declared.service.Service.TheVariants as service
use Rattle.sloth_base.specs.Machine.{Core, State}
use Rattle.sloth_base.specs.Status.{E_OK}
use Rattle.sloth_base.specs.Limits.{task_limit}
use Rattle.sloth_region.specs.Layout.{cur, events}
use Rattle.rv32_instr.specs.declared.InstrKind.{InstrKind}
use Rattle.rv32_instr.specs.Ram.{word_at, with_word}
use Rattle.masked_code.specs.Masked.{FromOpening}
use Rattle.masked_code.specs.Place.{offset_state}
use Rattle.block_parts.specs.ServiceCode.{IsServiceCode}
use Rattle.block_parts.specs.Back.{CanGoBack, BackEffect, a0}

-- the register of the mask of a service's events
abbrev pub mask_register : ℕ
mask_register = 30

-- the code can run, this task runs, and the mask is a word
pub record MayClear (offset task : ℕ) (code : List InstrKind) (core : Core) : Type 0 where
  pub goes_back : CanGoBack offset code core
  pub runs : word_at core.ram cur ≡ task + 1
  pub is_task : task < task_limit
  pub is_word : slice_index core.registers mask_register < 2 ^ 32

-- the bytes with the events of a mask taken out of the task's
abbrev pub cleared_ram : List ℕ → ℕ → ℕ → List ℕ
cleared_ram ram task mask = with_word ram (events task) (bit_and (word_at ram (events task)) (2 ^ 32 - 1 - mask))

-- The events of the mask are not set for the running task; the status is E_OK.
pub record ClearEventEffect (task : ℕ) (touched : List ℕ) (start end : State) : Type 0 where
  pub touches : touched ≡ []
  pub status : slice_index end.core.registers a0 ≡ E_OK
  pub back : BackEffect a0 (record start.core { ram = cleared_ram start.core.ram task (slice_index start.core.registers mask_register) }) start end

-- Code of ClearEvent: behind its first instruction at most 12 more lead to its effect, whatever lines arrive.
abbrev pub IsClearEventCode : List InstrKind → Type 0
IsClearEventCode code =
    IsServiceCode service.ClearEvent code ((offset task : ℕ) (core : Core) → MayClear offset task code core → FromOpening 12 (offset_state offset core) (ClearEventEffect task))
