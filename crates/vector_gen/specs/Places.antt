-- What a prologue needs of the configuration, the task code and the map.
use Rattle.std.specs.Prelude.{ℕ, Bool, ◌+◌, ◌-◌, ◌*◌, ◌≡◌, ◌≤◌, false, true, if◌then◌else◌, Some, List, slice_index}
use Rattle.std.specs.List.{slice_get}
use Rattle.sloth_base.specs.declared.app.App.{App}
use Rattle.sloth_base.specs.declared.app.Func.{Func}
use Rattle.sloth_base.specs.declared.config.Config.{Config}
use Rattle.sloth_base.specs.declared.config.TaskDecl.{TaskDecl}
use Rattle.sloth_base.specs.declared.limits.Levels.{Levels}
use Rattle.sloth_base.specs.declared.limits.Places.{Places}
use Rattle.sloth_base.specs.MemoryMap.{memory_base, memory_end}
use Rattle.sloth_region.specs.declared.region.Map.{Map}
use Rattle.sloth_region.specs.Layout.{context_bytes}
use Rattle.rv32_instr.specs.declared.InstrKind.{InstrKind}
use Rattle.vector_gen.specs.Fresh.{IsEntryCode}
use Rattle.vector_gen.specs.Resuming.{IsExtendedEntryCode}

-- the level at which a task starts to run: one that is not preempted starts at the highest
abbrev pub start_level : TaskDecl → ℕ → Levels → ℕ
start_level decl task levels = if decl.non then levels.top else slice_index levels.task task

-- the address of a function's first item
abbrev pub first_item : Places → ℕ → ℕ
first_item places body = slice_index places.items (slice_index places.first body)

-- the offset of the frame of so many words that ends at an address
abbrev pub frame_at : ℕ → ℕ → ℕ
frame_at top words = top - 4 * words - memory_base

-- a part of a stack ends here: in RAM, with room for a context
abbrev pub IsStackTop : ℕ → Type 0
IsStackTop top = (memory_base + context_bytes ≤ top) × (top ≤ memory_end)

-- what the code of a prologue does, of an extended task or of a basic one
abbrev pub IsPrologueCode : Bool → ℕ → ℕ → ℕ → ℕ → ℕ → List InstrKind → Type 0
IsPrologueCode false = IsEntryCode
IsPrologueCode true = IsExtendedEntryCode

-- The code enters the task: it begins at the first item of its body, with its frame at the end of its part of its stack, at its level. That
-- of an extended task goes on behind its wait where a context is kept for it.
pub record IsTaskPrologue (task : ℕ) (config : Config) (app : App) (levels : Levels) (map : Map) (code : List InstrKind) : Type 0 where
  pub decl : TaskDecl
  pub is_decl : slice_get config.tasks task ≡ Some decl
  pub body : ℕ
  pub func : Func
  pub is_func : slice_get app.funcs body ≡ Some func
  pub is_body : func.task ≡ Some task
  pub enters : IsPrologueCode decl.extended task (start_level decl task levels) (first_item map.places body) (frame_at (slice_index map.tops task) func.frame_words)
      func.frame_words code
