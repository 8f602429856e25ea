-- TerminateTask (OSEK OS 2.2.3, section 13.2.3.2).
use Rattle.std.specs.Prelude.{ℕ, ◌+◌, ◌*◌, ◌≡◌, ◌≢◌, ◌<◌, ◌≤◌, true, List, [], ◌∷◌, slice_index, slice_set}
use Rattle.sloth_base.specs.declared.service.Service.TheVariants as service
use Rattle.sloth_base.specs.Machine.{Core, State}
use Rattle.sloth_base.specs.MemoryMap.{memory_base}
use Rattle.sloth_base.specs.Limits.{task_limit}
use Rattle.sloth_region.specs.Layout.{cur, active, events, below_word, context_bytes, context_level, context_cur, context_below}
use Rattle.rv32_instr.specs.declared.InstrKind.{InstrKind}
use Rattle.rv32_instr.specs.Ram.{word_at, with_word}
use Rattle.masked_code.specs.Masked.{FromOpening}
use Rattle.masked_code.specs.Place.{offset_state}
use Rattle.masked_code.specs.Kernel.{CanRun, HasBases, IsContextBelow, IsOpenedCore}
use Rattle.block_parts.specs.ServiceCode.{IsServiceCode}

-- the code stands at an offset, this task runs, and the context of what runs below it stands at `place`
pub record MayTerminate (offset task place : ℕ) (code : List InstrKind) (core : Core) : Type 0 where
  pub can_run : CanRun offset code core
  pub previous : core.mpie ≡ true
  pub bases : HasBases core.registers
  pub runs : word_at core.ram cur ≡ task + 1
  pub is_task : task < task_limit
  pub below : IsContextBelow place core

-- the bytes with the task's Active word and its events zero
abbrev pub ended_ram : List ℕ → ℕ → List ℕ
ended_ram ram task = with_word (with_word ram (active task) 0) (events task) 0

-- the core in which the task has ended, and in which what is below runs, by the words of its context
abbrev pub ended_core : ℕ → ℕ → Core → Core
ended_core task place core =
    record core {
      ilevel = word_at core.ram (place + context_level);
      pending = slice_set core.pending task 0;
      ram = with_word (with_word (ended_ram core.ram task) cur (word_at core.ram (place + context_cur))) below_word (word_at core.ram (place + context_below));
    }

-- The task has ended: it is neither pending nor Active and has no events, and what runs below goes on as its context says.
pub record TerminateTaskEffect (task place : ℕ) (touched : List ℕ) (start end : State) : Type 0 where
  pub touches : touched ≡ task ∷ []
  pub left : IsOpenedCore (ended_core task place start.core) end.core
  pub pc : end.pc ≡ word_at start.core.ram place
  pub x2 : slice_index end.core.registers 2 ≡ memory_base + (place + context_bytes)
  -- nothing is said of the registers where the idle loop runs below
  pub loaded : word_at start.core.ram (place + context_cur) ≢ 0 → (i : ℕ) → 5 ≤ i → i < 32
      → slice_index end.core.registers i ≡ word_at start.core.ram (place + 4 * i)

-- Code of TerminateTask: behind its first instruction at most 48 more lead to the end of the task, whatever lines arrive.
abbrev pub IsTerminateTaskCode : List InstrKind → Type 0
IsTerminateTaskCode code =
    IsServiceCode service.TerminateTask code ((offset task place : ℕ) (core : Core) → MayTerminate offset task place code core
    → FromOpening 48 (offset_state offset core) (TerminateTaskEffect task place))
