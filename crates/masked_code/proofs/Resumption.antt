-- The state in which what runs below goes on.
use Rattle.std.specs.Prelude.{ℕ, ◌+◌, ◌*◌, ◌≡◌, ◌≢◌, ◌<◌, ◌≤◌, slice_index}
use Rattle.sloth_base.specs.Machine.{Core, State}
use Rattle.sloth_base.specs.MemoryMap.{memory_base}
use Rattle.sloth_region.specs.Layout.{cur, below_word, context_bytes, context_level, context_cur, context_below}
use Rattle.rv32_instr.specs.Ram.{word_at, with_word}
use Rattle.masked_code.specs.Kernel.{IsOpenedCore}

-- the core in which what is below runs, by the words of its context
abbrev pub resumed_core : ℕ → Core → Core
resumed_core place core =
    record core {
      ilevel = word_at core.ram (place + context_level);
      ram = with_word (with_word core.ram cur (word_at core.ram (place + context_cur))) below_word (word_at core.ram (place + context_below));
    }

-- The state after it, where MPIE was 1: all is as the context says. Of the idle loop it says nothing of x5 to x31.
pub record IsResumedState (place : ℕ) (core : Core) (end : State) : Type 0 where
  pub left : IsOpenedCore (resumed_core place core) end.core
  pub pc : end.pc ≡ word_at core.ram place
  pub x2 : slice_index end.core.registers 2 ≡ memory_base + (place + context_bytes)
  pub loaded : word_at core.ram (place + context_cur) ≢ 0 → (i : ℕ) → 5 ≤ i → i < 32
      → slice_index end.core.registers i ≡ word_at core.ram (place + 4 * i)
