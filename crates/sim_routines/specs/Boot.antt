-- What boot starts from.
use Rattle.std.specs.Prelude.{ℕ, ◌<◌, ◌≤◌, ◌≡◌, List, length, slice_index}
use Rattle.sloth_base.specs.declared.image.Image.{Image}
use Rattle.sloth_region.specs.Layout.{idle_context}
use Rattle.sloth_base.specs.Named.{declaration}
use Rattle.osek_scheduler.specs.State.{opening, opening_clock}
use Rattle.sloth_base.specs.PriorityLevels.{level_of}
use Rattle.sloth_base.specs.MemoryMap.{memory_bytes}
use Rattle.sim_relation.specs.Build.{Build}
use Rattle.sim_relation.specs.ClockStands.{ClockStands, IsBesideClock}
use Rattle.sim_relation.specs.DataStands.{DataStands}

-- The image of what is built: the words of the declared counters and alarms say the clock with which the configuration opens; outside the bytes
-- of the clock (364 to 627) all service words before the idle loop's context are zero; and the data are those that the task code declares.
pub record IsImage (b : Build) (image : Image) : Type 0 where
  pub memory : image.memory ≡ b.memory
  pub size : length b.memory ≤ memory_bytes
  pub service_words : (i : ℕ) → i < idle_context → IsBesideClock i → slice_index b.memory i ≡ 0
  pub clock : ClockStands b.config b.memory (opening_clock b.config)
  pub data_stands : DataStands b b.memory (opening b.config b.app).symbols

-- the level of each task is that of its priority
abbrev pub AreLevelsOf : Build → List ℕ → Type 0
AreLevelsOf b levels = (t : ℕ) → t < length b.config.tasks → slice_index levels t ≡ level_of b.config (declaration b.config t).priority
