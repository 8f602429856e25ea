-- The laws of boot and of entries, without arrivals and in a run.
use Rattle.std.specs.Prelude.{ℕ, ◌+◌, ◌==◌, ◌<◌, ◌≤◌, ◌≡◌, ◌≢◌, List, [], true, cond, length, Some, slice_index}
use Rattle.sloth_base.specs.declared.service.Arrival.{Arrival}
use Rattle.sloth_base.specs.declared.image.Image.{Image}
use Rattle.sloth_base.specs.declared.service.Event.TheVariants as event
use Rattle.sloth_base.specs.Machine.{State}
use Rattle.sloth_base.specs.Choose.{choose}
use Rattle.sloth_region.specs.Layout.{cur, resume, context_bytes}
use Rattle.rv32_instr.specs.Ram.{word_at}
use Rattle.rv32_machine.specs.Run.{state_with_arrivals}
use Rattle.rv32_machine.specs.Start.{start}
use Rattle.masked_code.specs.Trace.{Trace}
use Rattle.observe.specs.Observe.{View}
use Rattle.osek_scheduler.specs.State.{System, HasBody, task, opening}
use Rattle.sloth_base.specs.Named.{declaration, body_of}
use Rattle.sloth_base.specs.Named.{function}
use Rattle.sloth_base.specs.MemoryMap.{memory_base}
use Rattle.osek_scheduler.specs.Services.{entered_state}
use Rattle.osek_scheduler.specs.Steps.{OsekStep, settled_state}
use Rattle.sim_induction.specs.Admits.{IsSetting, lines_at, with_admits}
use Rattle.sim_induction.specs.PieceLaws.{Passed, BootLaw, StretchLaw}
use Rattle.sim_relation.specs.Build.{Build, HasFittingPlaces}
use Rattle.sim_relation.specs.Placed.{setting_of}
use Rattle.sim_relation.specs.Stands.{Stands}
use Rattle.sim_relation.specs.Progress.{progress_in, HasPassed}
use Rattle.sim_relation.specs.Start.{started_system}
use Rattle.vector_gen.specs.Boot.{BootEffect}
use Rattle.sim_routines.specs.Range.{IsSane}
use Rattle.sim_routines.specs.Entries.{IsNewEntry, IsEntryBehindWait, StandsAlone}
use Rattle.sim_routines.specs.Boot.{IsImage, AreLevelsOf}
use Rattle.sim_routines.specs.Codes.{BootStands, PrologueStands}

-- Where a task's line is the one taken and the task is to start anew, its prologue is the event Enter, whatever ran.
abbrev pub EnterLaw : Type 0
EnterLaw = (b : Build) (state end : State) (s : System) (t place : ℕ) → HasFittingPlaces b → Stands b state s → IsSane state
    → t < length b.config.tasks → choose state.core ≡ Some t → (task s t).frames ≡ []
    → 0 < length (function b.app (body_of b.app.funcs t)).items → StandsAlone b s t
    → slice_index state.core.registers 2 ≡ memory_base + (place + context_bytes) → HasPassed b state s → IsNewEntry b t place state end
    → OsekStep b.config b.app (event.Enter t) s (settled_state (entered_state b.config b.app t s))
    × Stands b end (settled_state (entered_state b.config b.app t s))

-- Where a task's line is the one taken and a context is kept for the task, its prologue is the event Enter, whatever ran.
abbrev pub ResumeLaw : Type 0
ResumeLaw = (b : Build) (state end : State) (s : System) (t place own : ℕ) → HasFittingPlaces b → Stands b state s → IsSane state
    → t < length b.config.tasks → choose state.core ≡ Some t → (task s t).frames ≢ [] → HasBody b.app t
    → slice_index state.core.registers 2 ≡ memory_base + (place + context_bytes) → word_at state.core.ram (resume t) ≡ memory_base + own
    → HasPassed b state s → IsEntryBehindWait b t place own state end
    → OsekStep b.config b.app (event.Enter t) s (settled_state (entered_state b.config b.app t s))
    × Stands b end (settled_state (entered_state b.config b.app t s))

-- From the start of the machine, boot is the event Boot.
abbrev pub BootsLaw : Type 0
BootsLaw = (b : Build) (image : Image) (levels : List ℕ) (end : State) → HasFittingPlaces b → IsImage b image → AreLevelsOf b levels
    → BootEffect b.config.tasks (length b.config.counters) levels (length b.config.tasks) b.idle [] (start image) end
    → OsekStep b.config b.app event.Boot (opening b.config b.app) (started_system b) × Stands b end (started_system b)

-- ---- in a run, whatever lines arrive

-- The bound from the entry on: of what the entry preempts it says what that has passed, and of all others no less than was said before.
pub record IsBoundBehind (b : Build) (passed : Passed) (state : State) (s : System) : Type 0 where
  pub ran : HasPassed b state s
  pub least : (u : ℕ) → cond (word_at state.core.ram cur == u + 1) (progress_in b state s) (passed u) ≤ b.passed u

-- The code of boot is the first stretch.
abbrev pub BootStretch : Type 0
BootStretch = (b : Build) (view : View) (arrivals : List Arrival) (image : Image) → IsSetting (setting_of b view arrivals) → HasFittingPlaces b
    → IsImage b image → BootStands b → BootLaw (setting_of b view arrivals) (Stands b) (start image)

-- Where the line that is taken at a count is that of a task that is to start anew, its prologue is a stretch.
abbrev pub EnterStretch : Type 0
EnterStretch = (b : Build) (passed : Passed) (view : View) (arrivals : List Arrival) (count t : ℕ) (state : State) (s : System) → IsBoundBehind b passed state s → IsSetting (setting_of b view arrivals)
    → HasFittingPlaces b → 0 < count → Stands b state s → IsSane (state_with_arrivals arrivals count state) → t < length b.config.tasks
    → choose (state_with_arrivals arrivals count state).core ≡ Some t
    → (task (with_admits (lines_at arrivals count) s) t).frames ≡ [] → StandsAlone b (with_admits (lines_at arrivals count) s) t → PrologueStands b t
    → (next : State) × (trace : Trace) × (end : State) × StretchLaw (setting_of b view arrivals) (Stands b) (progress_in b) passed b.passed count state s next trace end

-- Where it is that of an extended task that is to go on behind its wait, so is its prologue.
abbrev pub ResumeStretch : Type 0
ResumeStretch = (b : Build) (passed : Passed) (view : View) (arrivals : List Arrival) (count t : ℕ) (state : State) (s : System) → IsBoundBehind b passed state s → IsSetting (setting_of b view arrivals)
    → HasFittingPlaces b → 0 < count → Stands b state s → IsSane (state_with_arrivals arrivals count state) → t < length b.config.tasks
    → choose (state_with_arrivals arrivals count state).core ≡ Some t
    → (task (with_admits (lines_at arrivals count) s) t).frames ≢ [] → (declaration b.config t).extended ≡ true → PrologueStands b t
    → (next : State) × (trace : Trace) × (end : State) × StretchLaw (setting_of b view arrivals) (Stands b) (progress_in b) passed b.passed count state s next trace end
