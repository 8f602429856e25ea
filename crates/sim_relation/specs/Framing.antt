-- What a stretch leaves as it was.
use Rattle.std.specs.Prelude.{ℕ, ◌<◌, ◌≤◌, ◌≡◌, ◌≢◌, ◌+◌, ◌*◌, ◌%◌, List, slice_index}
use Rattle.sloth_base.specs.Machine.{State}
use Rattle.sloth_base.specs.MemoryMap.{memory_base}
use Rattle.sloth_region.specs.Layout.{cur, below_word, active, events, wait, resume, idle_context, context_bytes}
use Rattle.rv32_instr.specs.Ram.{word_at}

-- the bytes from `from` up to `to` are the same
abbrev pub AreSameBytes : List ℕ → List ℕ → (from to : ℕ) → Type 0
AreSameBytes old new from to = (i : ℕ) → from ≤ i → i < to → slice_index new i ≡ slice_index old i

-- the pc, level and `cur` of the idle loop's context
abbrev pub IsSameIdle : List ℕ → List ℕ → Type 0
IsSameIdle old new = AreSameBytes old new idle_context (idle_context + 12)

-- of the service words only those of the running task and this task's own change
abbrev pub AreOtherWordsSame : List ℕ → List ℕ → ℕ → Type 0
AreOtherWordsSame old new t = (p : ℕ) → p + 4 ≤ idle_context → p % 4 ≡ 0 → p ≢ cur → p ≢ below_word → p ≢ active t → p ≢ events t → p ≢ wait t → p ≢ resume t
    → word_at new p ≡ word_at old p

-- What going back to the context at `place` does, beside what else the routine writes: `old` is the RAM before, `new` the RAM
-- afterwards.
pub record HasLeftFor (old new : List ℕ) (place : ℕ) (end : State) : Type 0 where
  pub ram : end.core.ram ≡ new
  pub current : word_at new cur ≡ word_at old (place + 8)
  pub link : word_at new below_word ≡ word_at old (place + 12)
  pub x2 : slice_index end.core.registers 2 ≡ memory_base + (place + context_bytes)
  -- of the idle loop nothing is said of the registers
  pub loaded : word_at old (place + 8) ≢ 0 → (i : ℕ) → 5 ≤ i → i < 32 → slice_index end.core.registers i ≡ word_at old (place + 4 * i)
  pub pc : end.pc ≡ word_at old place
  pub level : end.core.ilevel ≡ word_at old (place + 4)
