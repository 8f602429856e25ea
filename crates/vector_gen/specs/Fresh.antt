-- The prologue of a task that starts anew: what was preempted is saved in a context, and the task begins.
use Rattle.std.specs.Prelude.{ℕ, ℤ, ◌+◌, ◌*◌, ◌%◌, ◌≡◌, ◌<◌, ◌≤◌, ◌⊎◌, ◌==◌, cond, false, true, List, [], ◌∷◌, length, replicate, slice_index}
use Rattle.sloth_base.specs.Machine.{Core, State}
use Rattle.code_lengths.specs.CodeLengths.{prologue_length}
use Rattle.sloth_region.specs.Layout.{cur, active, below_word, idle_context, context_bytes}
use Rattle.rv32_instr.specs.declared.InstrKind.{InstrKind}
use Rattle.rv32_instr.specs.declared.InstrKind.TheVariants.{Jal}
use Rattle.rv32_instr.specs.Ram.{word_at, with_word, with_words}
use Rattle.sloth_base.specs.Arithmetic.{plus}
use Rattle.sloth_base.specs.MemoryMap.{memory_base, memory_bytes}
use Rattle.masked_code.specs.Masked.{Masked, WithArrivals}
use Rattle.masked_code.specs.Place.{offset_state, InPlace}
use Rattle.masked_code.specs.Pieces.{registers_from}
use Rattle.masked_code.specs.Kernel.{CanRun, HasBases, IsOpenedCore}

-- the offset of a line's vector word
abbrev pub vector : ℕ → ℕ
vector line = 0x400 + 4 * line

-- bytes apart from those of code of so many instructions at an offset
abbrev pub IsApartFrom : ℕ → ℕ → ℕ → ℕ → Type 0
IsApartFrom offset instructions place bytes = (place + bytes ≤ offset) ⊎ (offset + 4 * instructions ≤ place)

-- The state in which the line has just been taken. The vector word jumps to the code; the context of what was preempted is
-- to stand at `place`, directly below x2.
pub record IsTaken (offset task place : ℕ) (code : List InstrKind) (core : Core) : Type 0 where
  pub can_run : CanRun offset code core
  pub masked : core.mie ≡ false
  pub previous : core.mpie ≡ true
  pub bases : HasBases core.registers
  pub jump : ℤ
  pub vector_word : InPlace core.ram (vector task) (Jal 0 jump ∷ [])
  pub to_code : plus (memory_base + vector task) jump ≡ memory_base + offset
  pub x2 : slice_index core.registers 2 ≡ memory_base + (place + context_bytes)
  pub aligned : place % 4 ≡ 0
  pub behind : idle_context ≤ place
  pub inside : place + context_bytes ≤ memory_bytes
  pub apart : IsApartFrom offset (length code) place context_bytes

-- The line of a task that is to start has just been taken. The task's first frame is to stand at `frame`, of so many words.
pub record MayEnter (offset task place frame words : ℕ) (code : List InstrKind) (core : Core) : Type 0 where
  pub taken : IsTaken offset task place code core
  pub frame_aligned : frame % 4 ≡ 0
  pub frame_inside : frame + 4 * words ≤ memory_bytes
  pub frame_apart : IsApartFrom offset (length code) frame (4 * words)

-- the registers that are saved: those of a task, and none of the idle loop
abbrev pub saved_registers : Core → List ℕ
saved_registers core = cond (word_at core.ram cur == 0) [] (registers_from 27 5 core.registers)

-- what the context of the preempted task or of the idle loop says
abbrev pub with_context : Core → ℕ → List ℕ
with_context core place =
    with_words (with_words core.ram (place + 4 * 5) (saved_registers core)) place
    (core.mepc ∷ core.plevel ∷ word_at core.ram cur ∷ word_at core.ram below_word ∷ [])

-- the bytes in which the task runs: what it preempted has its context at `place`, and the words of its frame are zero
abbrev pub with_active : List ℕ → ℕ → ℕ → ℕ → ℕ → List ℕ
with_active ram task place frame words =
    with_words (with_word (with_word (with_word ram below_word (memory_base + place)) cur (task + 1)) (active task) 1) frame (replicate words 0)

-- The task runs at its level, Active, with x5 to x29 and the words of its frame zero, at its first item.
pub record EntryEffect (task level first place frame words : ℕ) (touched : List ℕ) (start end : State) : Type 0 where
  pub touches : touched ≡ []
  pub left : IsOpenedCore (record start.core { ilevel = level; ram = with_active (with_context start.core place) task place frame words }) end.core
  pub pc : end.pc ≡ first
  pub x2 : slice_index end.core.registers 2 ≡ memory_base + frame
  pub zeros : (i : ℕ) → 5 ≤ i → i < 30 → slice_index end.core.registers i ≡ 0
  pub kept : (i : ℕ) → 30 ≤ i → slice_index end.core.registers i ≡ slice_index start.core.registers i

-- Code of a prologue: with the jump of the vector word, at most 74 + words instructions lead to its effect, whatever lines arrive.
pub record IsEntryCode (task level first frame words : ℕ) (code : List InstrKind) : Type 0 where
  pub size : length code ≡ prologue_length false words
  pub runs :
      (offset place : ℕ) (core : Core) → first % 4 ≡ 0 → MayEnter offset task place frame words code core
      → Masked (74 + words) (offset_state (vector task) core) (WithArrivals (EntryEffect task level first place frame words) (offset_state (vector task) core))
