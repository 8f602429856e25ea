-- The code of boot and of prologues in place.
use Rattle.std.specs.Prelude.{ℕ, ℤ, ◌+◌, ◌<◌, ◌≤◌, ◌≡◌, List, [], ◌∷◌, length}
use Rattle.rv32_instr.specs.declared.InstrKind.{InstrKind}
use Rattle.rv32_instr.specs.declared.InstrKind.TheVariants.{Jal}
use Rattle.sloth_base.specs.Arithmetic.{plus}
use Rattle.sloth_base.specs.Named.{body_of}
use Rattle.sloth_base.specs.Named.{function}
use Rattle.sloth_base.specs.MemoryMap.{memory_base}
use Rattle.sloth_base.specs.Limits.{frame_limit}
use Rattle.vector_gen.specs.Boot.{IsBootCode}
use Rattle.vector_gen.specs.Fresh.{vector}
use Rattle.sim_relation.specs.Build.{Build}
use Rattle.sim_relation.specs.Placed.{IsPlaced}
use Rattle.sim_routines.specs.Entries.{IsEntryBuilt, body_frame_words}
use Rattle.sim_routines.specs.Boot.{AreLevelsOf}

-- boot stands at 0x80000480
pub record BootStands (b : Build) : Type 0 where
  pub levels : List ℕ
  pub ranks : AreLevelsOf b levels
  pub code : List InstrKind
  pub boots : IsBootCode b.config.tasks (length b.config.counters) levels (length b.config.tasks) b.idle code
  pub placed : IsPlaced b 0x480 code

-- The prologue of a task, which starts it anew or goes on behind its wait, and the jump to it at the vector of the task's line. Its
-- body has an item.
pub record PrologueStands (b : Build) (t : ℕ) : Type 0 where
  pub offset : ℕ
  pub code : List InstrKind
  pub enters : IsEntryBuilt b t code
  pub placed : IsPlaced b offset code
  pub jump : ℤ
  pub vector_word : IsPlaced b (vector t) (Jal 0 jump ∷ [])
  pub to_code : plus (memory_base + vector t) jump ≡ memory_base + offset
  pub few_words : body_frame_words b t ≤ frame_limit
  pub has_item : 0 < length (function b.app (body_of b.app.funcs t)).items
