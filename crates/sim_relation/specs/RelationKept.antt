-- The laws of the relation.
use Rattle.std.specs.Prelude.{ℕ, ◌<◌, ◌≤◌, ◌≡◌, List, [], length, Some, None}
use Rattle.sloth_base.specs.Machine.{State}
use Rattle.sloth_base.specs.Arrive.{state_arrive}
use Rattle.sloth_base.specs.Choose.{choose}
use Rattle.sloth_base.specs.Owners.{owners_in, counter_line, IsOwned, AreOwned}
use Rattle.sloth_base.specs.Limits.{task_limit}
use Rattle.sloth_base.specs.MemoryMap.{line_count}
use Rattle.osek_scheduler.specs.declared.state.TaskState.{TaskState}
use Rattle.osek_scheduler.specs.declared.state.TaskState.TheVariants as mode
use Rattle.masked_code.specs.Kernel.{IsContextBelow}
use Rattle.osek_scheduler.specs.State.{Task, System, task, with_task}
use Rattle.osek_scheduler.specs.Priority.{IsTop, IsDue, NoTicks, IsNextTick}
use Rattle.osek_scheduler.specs.Steps.{settled_state}
use Rattle.sim_induction.specs.Admits.{with_admits}
use Rattle.sim_induction.specs.Mirror.{Mirror, IsRunningTask}
use Rattle.sim_relation.specs.Build.{Build, HasFittingPlaces}
use Rattle.sim_relation.specs.Progress.{HasPassed}
use Rattle.sim_relation.specs.Stands.{Stands}
use Rattle.sim_relation.specs.Moves.{moved_system, TaskStep, TaskMove, TaskLeave}
use Rattle.sim_relation.specs.Changes.{system_with_task_state, TaskChange}
use Rattle.sim_relation.specs.Entry.{TaskEntry}
use Rattle.sim_relation.specs.Start.{Starts, started_system}

-- where the relation stands, the interrupt controller mirrors the abstract scheduler
abbrev pub MirrorOfStands : Type 0
MirrorOfStands = (b : Build) (state : State) (s : System) → Stands b state s → Mirror b.config state.core s

-- lines with owners that arrive where MIE is 1 are the activations of their tasks, and make their counters due
abbrev pub ArrivalsAreAdmits : Type 0
ArrivalsAreAdmits = (b : Build) (lines : List ℕ) (state : State) (s : System) → length b.config.tasks ≤ task_limit
    → AreOwned (owners_in b.config) lines → Stands b state s → Stands b (state_arrive lines state) (with_admits lines s)

-- the line that is taken has an owner
abbrev pub TakenIsOwned : Type 0
TakenIsOwned = (b : Build) (state : State) (s : System) → Stands b state s → (line : ℕ) → choose state.core ≡ Some line → IsOwned (owners_in b.config) line

-- the line of a task that is taken is that of a Ready task, which is the top task
abbrev pub TakenIsTop : Type 0
TakenIsTop = (b : Build) (state : State) (s : System) → length b.config.tasks ≤ line_count → Stands b state s
    → (t : ℕ) → t < length b.config.tasks → choose state.core ≡ Some t → IsTop b.config s [] t × ((task s t).state ≡ mode.Ready)

-- the line of a counter that is taken is that of the due counter of least number
abbrev pub TakenIsNext : Type 0
TakenIsNext = (b : Build) (state : State) (s : System) → Stands b state s
    → (c : ℕ) → c < length b.config.counters → choose state.core ≡ Some (counter_line c) → IsNextTick b.config s c

-- where no line is taken, the running task is the top task, and where none runs none is due; no counter is
pub record IsUndisturbed (b : Build) (s : System) : Type 0 where
  pub running : (t : ℕ) → IsRunningTask b.config s t → IsTop b.config s [] t
  pub idle : ((t : ℕ) → t < length b.config.tasks → ¬ ((task s t).state ≡ mode.Active)) → (t : ℕ) → t < length b.config.tasks → ¬ (IsDue s t)
  pub quiet : NoTicks b.config s

-- where no line is taken nothing disturbs the running task
abbrev pub NoneTaken : Type 0
NoneTaken = (b : Build) (state : State) (s : System) → length b.config.tasks ≤ line_count → Stands b state s → choose state.core ≡ None → IsUndisturbed b s

-- ---- what keeps the relation; t is the running task

-- an instruction of it, and a service that goes back to it
abbrev pub StepsKeep : Type 0
StepsKeep = (b : Build) (old now : State) (s : System) (t : ℕ) (own : Task) (symbols : List (List ℕ)) → HasFittingPlaces b → Stands b old s → IsRunningTask b.config s t
    → TaskStep b old now s t own symbols → Stands b now (moved_system s t own symbols)

-- a move of the running task keeps the relation
abbrev pub MovesKeep : Type 0
MovesKeep = (b : Build) (old now : State) (s : System) (t : ℕ) (own : Task) (symbols : List (List ℕ)) → HasFittingPlaces b → Stands b old s → IsRunningTask b.config s t
    → TaskMove b old now s t own symbols → Stands b now (moved_system s t own symbols)

-- its end, or its wait; what goes on has passed at least what was said of it while it was preempted
abbrev pub LeavesKeep : Type 0
LeavesKeep = (b : Build) (old now : State) (s : System) (t : ℕ) (own : Task) (place : ℕ) → HasFittingPlaces b → Stands b old s → IsRunningTask b.config s t
    → TaskLeave b old now s t own place → Stands b now (settled_state (with_task s t own)) × HasPassed b now (settled_state (with_task s t own))

-- a change of any task's events and state, that of the running one or of another
abbrev pub ChangesKeep : Type 0
ChangesKeep = (b : Build) (old now : State) (s : System) (t : ℕ) (state : TaskState) (set : ℕ) → HasFittingPlaces b → Stands b old s → t < length b.config.tasks
    → TaskChange b old now s t state set → Stands b now (system_with_task_state s t state set)

-- the entry of the task whose line is taken, where what it preempts has passed at least what is said of it from then on
abbrev pub EntriesKeep : Type 0
EntriesKeep = (b : Build) (old now : State) (s : System) (t : ℕ) (own : Task) (place : ℕ) → HasFittingPlaces b → Stands b old s
    → t < length b.config.tasks → choose old.core ≡ Some t → HasPassed b old s
    → TaskEntry b old now s t own place → Stands b now (settled_state (with_task s t own))

-- the context of what runs below it is where a routine looks for it
abbrev pub BelowIsFound : Type 0
BelowIsFound = (b : Build) (state : State) (s : System) (t : ℕ) → HasFittingPlaces b → Stands b state s → IsRunningTask b.config s t
    → (place : ℕ) × IsContextBelow place state.core

-- it stands where boot has started the system
abbrev pub StartsStand : Type 0
StartsStand = (b : Build) (state : State) → HasFittingPlaces b → Starts b state → Stands b state (started_system b)
