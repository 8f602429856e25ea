-- What is built, by the levels and the map that the code is generated from.
use Rattle.std.specs.Prelude.{ℕ, ◌+◌, ◌<◌, ◌≡◌, List, length, slice_index, Some}
use Rattle.std.specs.List.{slice_get}
use Rattle.sloth_base.specs.declared.app.Func.{Func}
use Rattle.sloth_base.specs.declared.limits.Levels.{Levels}
use Rattle.sloth_base.specs.MemoryMap.{memory_base}
use Rattle.sloth_region.specs.declared.region.Map.{Map}
use Rattle.rv32_instr.specs.declared.InstrKind.{InstrKind}
use Rattle.sloth_base.specs.Named.{body_of}
use Rattle.vector_gen.specs.Places.{IsTaskPrologue}
use Rattle.sim_relation.specs.Build.{Build, HasFittingPlaces}
use Rattle.sim_routines.specs.Boot.{AreLevelsOf}
use Rattle.sim_routines.specs.Entries.{IsEntryBuilt}

-- a build as the levels and the map say
pub record IsBuiltFrom (b : Build) (levels : Levels) (map : Map) : Type 0 where
  pub places : b.places ≡ map.places
  pub idle : b.idle ≡ map.idle
  -- each task's part of the stacks ends where the map says
  pub tops : (t : ℕ) → t < length b.config.tasks → memory_base + b.top t ≡ slice_index map.tops t
  pub ranks : AreLevelsOf b levels.task
  pub highest : levels.top ≡ length b.config.tasks

-- no other function is the body of a task
abbrev pub HasOneBody : Build → ℕ → Type 0
HasOneBody b t = (f : ℕ) (func : Func) → slice_get b.app.funcs f ≡ Some func → func.task ≡ Some t → f ≡ body_of b.app.funcs t

-- Code that enters a task by the levels and the map does so in what is built.
abbrev pub GeneratedEnters : Type 0
GeneratedEnters = (b : Build) (levels : Levels) (map : Map) (t : ℕ) (code : List InstrKind) → HasFittingPlaces b → IsBuiltFrom b levels map → t < length b.config.tasks
    → HasOneBody b t → IsTaskPrologue t b.config b.app levels map code → IsEntryBuilt b t code
