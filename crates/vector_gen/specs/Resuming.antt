-- The prologue of a task that goes on behind a wait: what was preempted is saved in a context, and the task's own is restored.
use Rattle.std.specs.Prelude.{ℕ, ◌+◌, ◌*◌, ◌%◌, ◌≡◌, ◌≢◌, ◌<◌, ◌≤◌, ◌⊎◌, true, max, List, [], length, slice_index}
use Rattle.sloth_base.specs.Machine.{Core, State}
use Rattle.sloth_base.specs.Status.{E_OK}
use Rattle.code_lengths.specs.CodeLengths.{prologue_length}
use Rattle.sloth_region.specs.Layout.{cur, active, resume, below_word, context_bytes}
use Rattle.rv32_instr.specs.declared.InstrKind.{InstrKind}
use Rattle.rv32_instr.specs.Ram.{word_at, with_word}
use Rattle.sloth_base.specs.MemoryMap.{memory_base, memory_bytes}
use Rattle.masked_code.specs.Masked.{Masked, WithArrivals}
use Rattle.masked_code.specs.Place.{offset_state}
use Rattle.masked_code.specs.Kernel.{IsOpenedCore}
use Rattle.vector_gen.specs.Fresh.{vector, IsTaken, MayEnter, EntryEffect, with_context}

-- The state in which the line of a task that is to start anew has just been taken: no context is kept for it.
pub record MayStart (offset task place frame words : ℕ) (code : List InstrKind) (core : Core) : Type 0 where
  pub enters : MayEnter offset task place frame words code core
  pub kept_none : word_at core.ram (resume task) ≡ 0

-- The state in which the line of a task that is to go on has just been taken: its own context stands at `own`, apart from that of what
-- was preempted.
pub record MayResume (offset task place own : ℕ) (code : List InstrKind) (core : Core) : Type 0 where
  pub taken : IsTaken offset task place code core
  pub resumes : word_at core.ram (resume task) ≡ memory_base + own
  pub own_aligned : own % 4 ≡ 0
  pub own_behind : 1024 ≤ own
  pub own_inside : own + context_bytes ≤ memory_bytes
  pub own_apart : (own + context_bytes ≤ place) ⊎ (place + context_bytes ≤ own)
  pub returns : word_at core.ram own % 4 ≡ 0

-- the bytes in which a task is the running one and Active, with the context of what it preempted at `place`
abbrev pub with_entry : Core → ℕ → ℕ → List ℕ
with_entry core task place =
    with_word (with_word (with_word (with_context core place) below_word (memory_base + place)) cur (task + 1)) (active task) 1

-- The task runs at its level, Active, as its context says, but for a0, which is the status of the service that waited; no
-- context is kept for it any more.
pub record ResumeEffect (task level place own : ℕ) (touched : List ℕ) (start end : State) : Type 0 where
  pub touches : touched ≡ []
  pub left : IsOpenedCore (record start.core { ilevel = level; ram = with_word (with_entry start.core task place) (resume task) 0 }) end.core
  pub pc : end.pc ≡ word_at start.core.ram own
  pub x2 : slice_index end.core.registers 2 ≡ memory_base + (own + context_bytes)
  pub status : slice_index end.core.registers 10 ≡ E_OK
  pub loaded : (i : ℕ) → 5 ≤ i → i < 32 → i ≢ 10 → slice_index end.core.registers i ≡ word_at start.core.ram (own + 4 * i)

-- Code of the prologue of an extended task: with the jump of the vector word, at most 76 + words instructions, or 78 where that is more, lead to
-- a start where no context is kept, and at most 78 to the place of the wait where one is, whatever lines arrive.
pub record IsExtendedEntryCode (task level first frame words : ℕ) (code : List InstrKind) : Type 0 where
  pub size : length code ≡ prologue_length true words
  pub starts :
      (offset place : ℕ) (core : Core) → first % 4 ≡ 0 → MayStart offset task place frame words code core
      → Masked (max (76 + words) 78) (offset_state (vector task) core) (WithArrivals (EntryEffect task level first place frame words) (offset_state (vector task) core))
  pub resumes :
      (offset place own : ℕ) (core : Core) → MayResume offset task place own code core
      → Masked 78 (offset_state (vector task) core) (WithArrivals (ResumeEffect task level place own) (offset_state (vector task) core))
