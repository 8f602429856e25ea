-- The entry of a task, anew or behind a wait.
use Rattle.std.specs.Prelude.{ℕ, ◌-◌, ◌*◌, ◌<◌, ◌≢◌, List, [], length}
use Rattle.sloth_base.specs.Machine.{State}
use Rattle.sloth_base.specs.Take.{take}
use Rattle.rv32_instr.specs.declared.InstrKind.{InstrKind}
use Rattle.rv32_expand.specs.Expansion.{item_address}
use Rattle.osek_scheduler.specs.State.{System, task}
use Rattle.sloth_base.specs.Named.{declaration, body_of}
use Rattle.sloth_base.specs.Named.{function}
use Rattle.vector_gen.specs.Fresh.{EntryEffect}
use Rattle.vector_gen.specs.Resuming.{ResumeEffect}
use Rattle.vector_gen.specs.Places.{IsPrologueCode}
use Rattle.sim_relation.specs.Build.{Build, start_level}
use Rattle.sim_relation.specs.Stands.{IsAlive, AreStacksApart}

-- the words of the frame of a task's body
abbrev pub body_frame_words : Build → ℕ → ℕ
body_frame_words b t = (function b.app (body_of b.app.funcs t)).frame_words

-- Its line was taken, and then its prologue has run: what was preempted has its context at `place`, and the task stands before
-- the first item of its body.
abbrev pub IsNewEntry : Build → ℕ → ℕ → State → State → Type 0
IsNewEntry b t place state end =
    EntryEffect t (start_level b t) (item_address b.places (body_of b.app.funcs t) 0) place (b.top t - 4 * body_frame_words b t) (body_frame_words b t) []
    (take t state) end

-- The same, but that the task goes on behind its wait, as its own context at `own` says.
abbrev pub IsEntryBehindWait : Build → (t place own : ℕ) → State → State → Type 0
IsEntryBehindWait b t place own state end = ResumeEffect t (start_level b t) place own [] (take t state) end

-- the code of its prologue
abbrev pub IsEntryBuilt : Build → ℕ → List InstrKind → Type 0
IsEntryBuilt b t code =
    IsPrologueCode (declaration b.config t).extended t (start_level b t) (item_address b.places (body_of b.app.funcs t) 0) (b.top t - 4 * body_frame_words b t)
    (body_frame_words b t) code

-- its part of the stacks is apart from those of the tasks that have something on theirs
abbrev pub StandsAlone : Build → System → ℕ → Type 0
StandsAlone b s t = (u : ℕ) → u < length b.config.tasks → u ≢ t → IsAlive (task s u) → AreStacksApart b t u
