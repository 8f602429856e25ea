-- The prologues of all tasks.
use Rattle.std.specs.Prelude.{ℕ, ◌<◌, ◌≤◌, ◌≡◌, List, [], length, All, slice_index, slice_index_or}
use Rattle.sloth_base.specs.declared.app.App.{App}
use Rattle.sloth_base.specs.declared.config.Config.{Config}
use Rattle.sloth_base.specs.declared.limits.Levels.{Levels}
use Rattle.sloth_base.specs.Limits.{task_limit, level_count, frame_limit}
use Rattle.sloth_region.specs.declared.region.Map.{Map}
use Rattle.rv32_instr.specs.declared.block.Block.{Block}
use Rattle.code_lengths.specs.Bodies.{IsBodyPlace}
use Rattle.vector_gen.specs.Places.{IsTaskPrologue, IsStackTop}

-- what the prologue of each task needs
pub record MayStartTasks (config : Config) (app : App) (levels : Levels) (map : Map) : Type 0 where
  pub few : length config.tasks ≤ task_limit
  pub levels_fit : (levels.top < level_count) × ((t : ℕ) → slice_index levels.task t < level_count)
  pub bodies : (t : ℕ) → t < length config.tasks → (body : ℕ) × IsBodyPlace app.funcs t body
  pub frames : All (λ func. func.frame_words ≤ frame_limit) app.funcs
  pub tops : (length map.tops ≡ length config.tasks) × All IsStackTop map.tops
  pub items : (length app.funcs ≤ length map.places.first) × All (λ i. i < length map.places.items) map.places.first

-- the prologue of one task
pub record IsPrologue (config : Config) (app : App) (levels : Levels) (map : Map) (t : ℕ) (block : Block) : Type 0 where
  pub at : block.at ≡ slice_index map.handlers t
  pub marks : block.marks ≡ []
  pub enters : IsTaskPrologue t config app levels map block.code

-- each element has the property of its place
abbrev pub Each : {X : Type 0} → (ℕ → X → Type 0) → List X → Type 0
Each {X} P xs = (k : ℕ) (d : X) → k < length xs → P k (slice_index_or xs k d)
