-- What the prologues of basic and of extended tasks have in common.
use Rattle.std.proofs.Common.{ℕ, ◌+◌, ◌-◌, ◌%◌, ◌^◌, ◌≡◌, ◌<◌, ◌≤◌, Bool, true, false, List, ◌++◌, length, subst, arith}
use Rattle.std.specs.Prelude.{max}
use Rattle.sloth_base.specs.Machine.{Core}
use Rattle.sloth_base.specs.MemoryMap.{memory_base}
use Rattle.sloth_base.specs.Limits.{task_limit, level_count, frame_limit}
use Rattle.code_lengths.specs.LongestPaths.{entry_path}
use Rattle.rv32_instr.specs.declared.InstrKind.{InstrKind}
use Rattle.masked_code.specs.Masked.{Masked, WithArrivals}
use Rattle.masked_code.specs.Place.{offset_state}
use Rattle.masked_code.proofs.Masked.{masked_more}
use Rattle.code_lengths.specs.CodeLengths.{prologue_length}
use Rattle.vector_gen.specs.Fresh.{vector, EntryEffect}
use Rattle.vector_gen.specs.Resuming.{MayStart}
use Rattle.vector_gen.specs.Places.{IsPrologueCode}
use Rattle.vector_gen.specs.Pieces.{context_saving_code, active_marking_code, context_taking_code, fresh_start_code}
use Rattle.vector_gen.proofs.Starting.{enters}
use Rattle.vector_gen.proofs.Resuming.{enters_or_resumes}

-- the code of a prologue
abbrev pub code : Bool → ℕ → ℕ → ℕ → ℕ → ℕ → List InstrKind
code extended task level frame words first = context_saving_code level ++ (active_marking_code task ++ (context_taking_code extended task ++ fresh_start_code frame words first))

-- it enters the task, whose frame is given by its offset
by_offset : (extended : Bool) (task level first frame words : ℕ) → task < task_limit → level < level_count → first < 2 ^ 32 → words ≤ frame_limit
    → IsPrologueCode extended task level first frame words (code extended task level (memory_base + frame) words first)
by_offset false = enters
by_offset true = enters_or_resumes

-- whose frame is given by its address
pub does_enter : (extended : Bool) (task level first frame words : ℕ) → task < task_limit → level < level_count → first < 2 ^ 32 → words ≤ frame_limit → memory_base ≤ frame
    → IsPrologueCode extended task level first (frame - memory_base) words (code extended task level frame words first)
does_enter extended task level first frame words is_task low_level fits few in_ram =
    let same : memory_base + (frame - memory_base) ≡ frame = omega arith in
    subst (λ x. IsPrologueCode extended task level first (frame - memory_base) words (code extended task level x words first)) same
    (by_offset extended task level first (frame - memory_base) words is_task low_level fits few)

-- how many instructions it has
pub length_is : (extended : Bool) (task level first frame words : ℕ) (code : List InstrKind) → IsPrologueCode extended task level first frame words code
    → length code ≡ prologue_length extended words
length_is true task level first frame words code h = h.size
length_is false task level first frame words code h = h.size

-- how long the code of a prologue is
pub size : (extended : Bool) (task level first frame words : ℕ) (code : List InstrKind) → IsPrologueCode extended task level first frame words code
    → (0 < length code) × (length code ≤ 108 + words)
size true task level first frame words code h = let n = h.size in (omega arith, omega arith)
size false task level first frame words code h = let n = h.size in (omega arith, omega arith)

-- how many instructions start a task at most, with the jump of the vector word: the way to a start passes what takes up a context
abbrev pub anew_length : (extended : Bool) → (words : ℕ) → ℕ
anew_length extended words = max (entry_path extended false words) (entry_path extended true words)

-- it is one at least, and at most
pub anew_few : (extended : Bool) (words : ℕ) → (1 ≤ anew_length extended words) × (anew_length extended words ≤ 78 + words)
anew_few true words = (omega arith, omega arith)
anew_few false words = (omega arith, omega arith)

-- where no context is kept, both start the task
pub starts : (extended : Bool) (task level first frame words : ℕ) (code : List InstrKind) → IsPrologueCode extended task level first frame words code
    → (offset place : ℕ) (core : Core) → first % 4 ≡ 0 → MayStart offset task place frame words code core
    → Masked (anew_length extended words) (offset_state (vector task) core) (WithArrivals (EntryEffect task level first place frame words) (offset_state (vector task) core))
starts true task level first frame words code h = h.starts
starts false task level first frame words code h = λ offset place core aligned may.
    masked_more (74 + words) (anew_length false words) (offset_state (vector task) core) (WithArrivals (EntryEffect task level first place frame words) (offset_state (vector task) core)) (omega arith)
    (h.runs offset place core aligned may.enters)
