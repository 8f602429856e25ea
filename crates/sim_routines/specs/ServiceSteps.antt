-- The services as steps of the abstract scheduler, said without arrivals.
use Rattle.std.specs.Prelude.{ℕ, ◌+◌, ◌<◌, ◌≤◌, ◌≡◌, List, [], true, false, max}
use Rattle.sloth_base.specs.declared.service.Service.{Service}
use Rattle.sloth_base.specs.declared.service.Service.TheVariants as service
use Rattle.sloth_base.specs.Machine.{State}
use Rattle.sloth_base.specs.declared.service.Event.TheVariants as event
use Rattle.sloth_region.specs.Layout.{below_word, cur}
use Rattle.rv32_instr.specs.Ram.{word_at}
use Rattle.service_gen.specs.ActivateTask.{ActivateTaskEffect}
use Rattle.service_gen.specs.ChainTask.{ChainTaskEffect}
use Rattle.service_gen.specs.GetResource.{GetResourceEffect}
use Rattle.service_gen.specs.GetTaskID.{GetTaskIDEffect}
use Rattle.service_gen.specs.GetTaskState.{GetTaskStateEffect}
use Rattle.service_gen.specs.ReleaseResource.{ReleaseResourceEffect}
use Rattle.service_gen.specs.Schedule.{WayBackEffect, way_back, ScheduleEffect}
use Rattle.service_gen.specs.TerminateTask.{TerminateTaskEffect}
use Rattle.osek_scheduler.specs.State.{Task, System, task}
use Rattle.sloth_base.specs.Named.{declaration}
use Rattle.code_rules.specs.Code.{is_in}
use Rattle.osek_scheduler.specs.Priority.{ceiling, IsTop}
use Rattle.osek_scheduler.specs.Steps.{OsekStep}
use Rattle.sloth_base.specs.PriorityLevels.{level_of}
use Rattle.sloth_base.specs.MemoryMap.{memory_base}
use Rattle.sloth_base.specs.Limits.{ceiling_count}
use Rattle.osek_scheduler.specs.Services.{is_there}
use Rattle.sim_relation.specs.Build.{Build, HasFittingPlaces}
use Rattle.sim_relation.specs.Stands.{Stands}
use Rattle.sim_routines.specs.Opening.{IsFollowed}
use Rattle.sim_routines.specs.Served.{IsServed, IsServiceAnswer}

-- what holds where a service begins that may end the running task: it holds no resource, and the context below it stands at `place`
pub record MayEnd (b : Build) (state : State) (s : System) (t : ℕ) (own : Task) (served : Service) (place : ℕ) : Type 0 where
  pub is_served : IsServed b state s t own served
  pub holds_nothing : own.held ≡ []
  pub below : word_at state.core.ram below_word ≡ memory_base + place

-- TerminateTask ends the task: what runs below it goes on, the task below or the idle loop.
abbrev pub TerminateTaskEnds : Type 0
TerminateTaskEnds = (b : Build) (state : State) (s : System) (t : ℕ) (own : Task) (place : ℕ) (touched : List ℕ) (end : State) → HasFittingPlaces b
    → MayEnd b state s t own service.TerminateTask place → TerminateTaskEffect t place touched state end → IsServiceAnswer b s t service.TerminateTask touched end

-- what holds where a service with this object begins behind which its task may go on: another item follows
pub record MayGoOn (b : Build) (state : State) (s : System) (t : ℕ) (own : Task) (served : Service) (object : ℕ) : Type 0 where
  pub is_served : IsServed b state s t own served
  pub followed : IsFollowed b is_served.opening.frame.func is_served.opening.frame.item
  pub object_is : is_served.opening.block.call.object ≡ object
  pub names : is_there b.config own.held served object ≡ true

-- GetTaskID answers the running task's number, and the task goes on.
abbrev pub GetTaskIDGoesOn : Type 0
GetTaskIDGoesOn = (b : Build) (state : State) (s : System) (t : ℕ) (own : Task) (object : ℕ) (touched : List ℕ) (end : State) → HasFittingPlaces b
    → MayGoOn b state s t own service.GetTaskID object → GetTaskIDEffect t touched state end → IsServiceAnswer b s t service.GetTaskID touched end

-- GetTaskState answers the number of a task's state, and the caller goes on.
abbrev pub GetTaskStateGoesOn : Type 0
GetTaskStateGoesOn = (b : Build) (state : State) (s : System) (t : ℕ) (own : Task) (object : ℕ) (touched : List ℕ) (end : State) → HasFittingPlaces b
    → MayGoOn b state s t own service.GetTaskState object → GetTaskStateEffect object t touched state end
    → IsServiceAnswer b s t service.GetTaskState touched end

-- ActivateTask makes the other task Ready where it is Suspended, and answers whether it was; the caller goes on.
abbrev pub ActivateTaskGoesOn : Type 0
ActivateTaskGoesOn = (b : Build) (state : State) (s : System) (t : ℕ) (own : Task) (object : ℕ) (touched : List ℕ) (end : State) → HasFittingPlaces b
    → MayGoOn b state s t own service.ActivateTask object → ActivateTaskEffect object touched state end → IsServiceAnswer b s t service.ActivateTask touched end

-- what holds where ChainTask of a task begins
pub record MayChainTo (b : Build) (state : State) (s : System) (t : ℕ) (own : Task) (object place : ℕ) : Type 0 where
  pub goes_on : MayGoOn b state s t own service.ChainTask object
  pub holds_nothing : own.held ≡ []
  pub below : word_at state.core.ram below_word ≡ memory_base + place

-- ChainTask ends the caller and makes the other task Ready, or the caller itself; where the other one is not Suspended, it answers
-- so, and the caller goes on.
abbrev pub ChainTaskAnswers : Type 0
ChainTaskAnswers = (b : Build) (state : State) (s : System) (t : ℕ) (own : Task) (object place : ℕ) (touched : List ℕ) (end : State) → HasFittingPlaces b
    → MayChainTo b state s t own object place → ChainTaskEffect object t place touched state end → IsServiceAnswer b s t service.ChainTask touched end

-- the level of a resource's ceiling: the greater of it and the level of a priority is the level of the greater priority
abbrev pub IsCeilingLevel : Build → (resource level : ℕ) → Type 0
IsCeilingLevel b resource level = (priority : ℕ) → max (level_of b.config priority) level ≡ level_of b.config (max priority (ceiling b.config resource))

-- the running task may take a resource, whose ceiling has this level: it does not hold it yet, and is not above its ceiling
pub record MayHaveResource (b : Build) (t : ℕ) (own : Task) (resource level : ℕ) : Type 0 where
  pub is_level : IsCeilingLevel b resource level
  pub is_resource : resource < ceiling_count
  pub new : is_in resource own.held ≡ false
  pub below : (declaration b.config t).priority ≤ ceiling b.config resource

-- GetResource takes the resource, and the task goes on at its ceiling at least.
abbrev pub GetResourceGoesOn : Type 0
GetResourceGoesOn = (b : Build) (state : State) (s : System) (t : ℕ) (own : Task) (object level : ℕ) (touched : List ℕ) (end : State) → HasFittingPlaces b
    → MayGoOn b state s t own service.GetResource object → MayHaveResource b t own object level → GetResourceEffect object level touched state end
    → IsServiceAnswer b s t service.GetResource touched end

-- ReleaseResource releases the resource that was taken last, and the task goes on at the level that ran before.
abbrev pub ReleaseResourceGoesOn : Type 0
ReleaseResourceGoesOn = (b : Build) (state : State) (s : System) (t : ℕ) (own : Task) (object : ℕ) (touched : List ℕ) (end : State) → HasFittingPlaces b
    → MayGoOn b state s t own service.ReleaseResource object → ReleaseResourceEffect object touched state end → IsServiceAnswer b s t service.ReleaseResource touched end

-- what holds where Schedule's block begins at this offset: the running task holds nothing and has its internal resource where its
-- scheduling is NON, and the way back stands in the block
pub record MayGiveWay (b : Build) (t : ℕ) (own : Task) (offset : ℕ) : Type 0 where
  pub holds_nothing : own.held ≡ []
  pub raised : own.raised ≡ (declaration b.config t).non
  pub back : b.back ≡ memory_base + (offset + way_back)

-- Schedule gives the internal resource back, and the task owes the way back.
abbrev pub ScheduleGivesWay : Type 0
ScheduleGivesWay = (b : Build) (state : State) (s : System) (t : ℕ) (own : Task) (object offset : ℕ) (touched : List ℕ) (end : State) → HasFittingPlaces b
    → MayGoOn b state s t own service.Schedule object → MayGiveWay b t own offset → ScheduleEffect offset t touched state end
    → IsServiceAnswer b s t service.Schedule touched end

-- what holds where a task is to come back from Schedule: it runs, owes this, holds nothing, and is the top task
pub record MayReturn (b : Build) (state : State) (s : System) (t : ℕ) : Type 0 where
  pub stands : Stands b state s
  pub current : word_at state.core.ram cur ≡ t + 1
  pub owes : (task s t).owed ≡ true
  pub holds_nothing : (task s t).held ≡ []
  pub top : IsTop b.config s [] t

-- the event is a step of the abstract scheduler, and the states at its end are related
pub record IsWayBackAnswer (b : Build) (s : System) (t : ℕ) (end : State) : Type 0 where
  pub after : System
  pub step_is : OsekStep b.config b.app (event.Back t) s after
  pub stands : Stands b end after

-- The way back takes the internal resource again, and the task goes on behind Schedule.
abbrev pub ScheduleReturns : Type 0
ScheduleReturns = (b : Build) (state : State) (s : System) (t : ℕ) (touched : List ℕ) (end : State) → HasFittingPlaces b
    → MayReturn b state s t → WayBackEffect touched state end → IsWayBackAnswer b s t end
