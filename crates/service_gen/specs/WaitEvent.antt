-- WaitEvent (OSEK OS 2.2.3, section 13.5.3.4).
use Rattle.std.specs.Prelude.{ℕ, zero, suc, ◌+◌, ◌*◌, ◌%◌, ◌≡◌, ◌≢◌, ◌<◌, ◌≤◌, ◌⊎◌, List, [], length, slice_index, slice_set, bit_and}
use Rattle.sloth_base.specs.declared.service.Service.TheVariants as service
use Rattle.sloth_base.specs.Machine.{Core, State}
use Rattle.sloth_base.specs.Status.{E_OK}
use Rattle.sloth_base.specs.MemoryMap.{memory_base, memory_bytes}
use Rattle.sloth_base.specs.Limits.{task_limit}
use Rattle.sloth_region.specs.Layout.{cur, active, events, wait, resume, below_word, idle_context, context_bytes, context_level, context_cur, context_below}
use Rattle.rv32_instr.specs.declared.InstrKind.{InstrKind}
use Rattle.rv32_instr.specs.Ram.{word_at, with_word, with_words}
use Rattle.masked_code.specs.Masked.{FromOpening}
use Rattle.masked_code.specs.Place.{offset_state}
use Rattle.masked_code.specs.Pieces.{registers_from}
use Rattle.masked_code.specs.Kernel.{IsContextBelow, IsOpenedCore}
use Rattle.block_parts.specs.ServiceCode.{IsServiceCode}
use Rattle.block_parts.specs.Back.{CanGoBack, BackEffect, a0}
use Rattle.service_gen.specs.ClearEvent.{mask_register}

-- The code can run and this task runs. What runs below it has its context at `place`, and its own is to stand at `own`, directly
-- below x2, apart from that and from the code.
pub record MayWait (offset task place own : ℕ) (code : List InstrKind) (core : Core) : Type 0 where
  pub goes_back : CanGoBack offset code core
  pub runs : word_at core.ram cur ≡ task + 1
  pub is_task : task < task_limit
  pub below : IsContextBelow place core
  pub x2 : slice_index core.registers 2 ≡ memory_base + (own + context_bytes)
  pub aligned : own % 4 ≡ 0
  pub behind : idle_context ≤ own
  pub inside : own + context_bytes ≤ memory_bytes
  pub apart : (own + context_bytes ≤ place) ⊎ (place + context_bytes ≤ own)
  pub code_apart : (own + context_bytes ≤ offset) ⊎ (offset + 4 * length code ≤ own)

-- the events of the mask that are set for the task
abbrev pub set_of : ℕ → Core → ℕ
set_of task core = bit_and (word_at core.ram (events task)) (slice_index core.registers mask_register)

-- One of them is: nothing happens, and the status is E_OK.
pub record HasNotWaited (task : ℕ) (start end : State) : Type 0 where
  pub one_set : set_of task start.core ≢ 0
  pub status : slice_index end.core.registers a0 ≡ E_OK
  pub back : BackEffect a0 start.core start end

-- the bytes in which the task is not Active and waits for the events of the mask
abbrev pub rested_ram : Core → ℕ → List ℕ
rested_ram core task = with_word (with_word core.ram (active task) 0) (wait task) (slice_index core.registers mask_register)

-- those in which its own context stands at `own`: the registers, and the address in x31 to go on at
abbrev pub kept_ram : Core → ℕ → ℕ → List ℕ
kept_ram core task own =
    with_word (with_word (with_words (rested_ram core task) (own + 4 * 5) (registers_from 27 5 core.registers)) own (slice_index core.registers 31))
    (resume task) (memory_base + own)

-- the core in which the task waits, and in which what is below runs, by the words of its context
abbrev pub waiting_core : ℕ → ℕ → ℕ → Core → Core
waiting_core task place own core =
    record core {
      ilevel = word_at core.ram (place + context_level);
      enabled = slice_set core.enabled task 0;
      ram = with_word (with_word (kept_ram core task own) cur (word_at core.ram (place + context_cur))) below_word (word_at core.ram (place + context_below));
    }

-- None is: the task waits with its line not enabled, and what runs below goes on as its context says.
pub record HasWaited (task place own : ℕ) (start end : State) : Type 0 where
  pub none_set : set_of task start.core ≡ 0
  pub left : IsOpenedCore (waiting_core task place own start.core) end.core
  pub pc : end.pc ≡ word_at start.core.ram place
  pub x2 : slice_index end.core.registers 2 ≡ memory_base + (place + context_bytes)
  -- nothing is said of the registers where the idle loop runs below
  pub loaded : word_at start.core.ram (place + context_cur) ≢ 0 → (i : ℕ) → 5 ≤ i → i < 32
      → slice_index end.core.registers i ≡ word_at start.core.ram (place + 4 * i)

-- what WaitEvent does
pub record WaitEventEffect (task place own : ℕ) (touched : List ℕ) (start end : State) : Type 0 where
  pub touches : touched ≡ []
  pub done : HasNotWaited task start end ⊎ HasWaited task place own start end

-- how many instructions follow the first one at most, by the events of the mask that are set: 12 where there is one, and 85 where the task waits
abbrev pub wait_length : ℕ → ℕ
wait_length zero = 85
wait_length (suc some) = 12

-- Code of WaitEvent: behind its first instruction at most so many more lead to its effect, whatever lines arrive.
abbrev pub IsWaitEventCode : List InstrKind → Type 0
IsWaitEventCode code =
    IsServiceCode service.WaitEvent code ((offset task place own : ℕ) (core : Core) → MayWait offset task place own code core
    → FromOpening (wait_length (set_of task core)) (offset_state offset core) (WaitEventEffect task place own))
