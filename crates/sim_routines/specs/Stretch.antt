-- The services as stretches of a run, whatever lines arrive.
use Rattle.std.specs.Prelude.{ℕ, ◌+◌, ◌<◌, ◌≡◌, List, [], true, Some, None}
use Rattle.sloth_base.specs.declared.image.Mark.{Mark}
use Rattle.sloth_base.specs.declared.image.MarkKind.TheVariants as kind
use Rattle.sloth_base.specs.Choose.{choose}
use Rattle.sloth_region.specs.Layout.{cur}
use Rattle.rv32_instr.specs.Ram.{word_at}
use Rattle.sloth_base.specs.declared.service.Arrival.{Arrival}
use Rattle.sloth_base.specs.declared.service.Service.{Service}
use Rattle.sloth_base.specs.declared.service.Service.TheVariants as service
use Rattle.sloth_base.specs.Machine.{State}
use Rattle.sloth_base.specs.MemoryMap.{memory_base}
use Rattle.rv32_machine.specs.Run.{state_with_arrivals}
use Rattle.masked_code.specs.Trace.{Trace}
use Rattle.rv32_expand.specs.Expansion.{block_address}
use Rattle.observe.specs.Observe.{View, mark_at}
use Rattle.rv32_instr.specs.declared.InstrKind.{InstrKind}
use Rattle.service_gen.specs.ActivateTask.{IsActivateTaskCode}
use Rattle.service_gen.specs.ChainTask.{IsChainTaskCode}
use Rattle.service_gen.specs.GetResource.{IsGetResourceCode}
use Rattle.service_gen.specs.GetTaskID.{IsGetTaskIDCode}
use Rattle.service_gen.specs.GetTaskState.{IsGetTaskStateCode}
use Rattle.service_gen.specs.ReleaseResource.{IsReleaseResourceCode}
use Rattle.service_gen.specs.Schedule.{way_back, IsScheduleCode}
use Rattle.service_gen.specs.TerminateTask.{IsTerminateTaskCode}
use Rattle.osek_scheduler.specs.State.{System, task}
use Rattle.osek_scheduler.specs.Services.{is_there}
use Rattle.sim_induction.specs.Admits.{IsSetting, lines_at, with_admits}
use Rattle.sim_induction.specs.PieceLaws.{StretchLaw}
use Rattle.sim_relation.specs.Build.{Build, HasFittingPlaces}
use Rattle.sim_relation.specs.Progress.{progress_in}
use Rattle.sim_relation.specs.Stands.{Stands}
use Rattle.sim_relation.specs.Placed.{IsPlaced, setting_of}
use Rattle.sim_routines.specs.ServiceSteps.{MayGiveWay, MayHaveResource}
use Rattle.sim_routines.specs.Opening.{IsFollowed, OpensService}

-- a stretch begins at the count
abbrev pub HasStretch : Build → View → List Arrival → ℕ → State → System → Type 0
HasStretch b view arrivals count state s =
    (next : State) × (trace : Trace) × (end : State) × StretchLaw (setting_of b view arrivals) (Stands b) (progress_in b) b.passed b.passed count state s next trace end

-- what holds at the opening mark of TerminateTask: the running task holds nothing
pub record OpensTerminateTask (b : Build) (view : View) (state : State) (s : System) (t : ℕ) : Type 0 where
  pub opens : OpensService b view state s t service.TerminateTask (λ object. IsTerminateTaskCode)
  pub holds_nothing : (task s t).held ≡ []

-- The stretch that begins there is the event Left of TerminateTask.
abbrev pub TerminateTaskStretches : Type 0
TerminateTaskStretches = (b : Build) (view : View) (arrivals : List Arrival) (count : ℕ) (state : State) (s : System) (t : ℕ)
    → HasFittingPlaces b → IsSetting (setting_of b view arrivals) → 0 < count → Stands b state s
    → OpensTerminateTask b view (state_with_arrivals arrivals count state) (with_admits (lines_at arrivals count) s) t
    → HasStretch b view arrivals count state s

-- what holds at the opening mark of a service behind which its task may go on: another item follows
pub record OpensGoingOn (b : Build) (view : View) (state : State) (s : System) (t : ℕ) (served : Service)
    (Contract : ℕ → List InstrKind → Type 0) : Type 0 where
  pub opens : OpensService b view state s t served Contract
  pub followed : IsFollowed b opens.opening.frame.func opens.opening.frame.item
  pub names : is_there b.config (task s t).held served opens.opening.block.call.object ≡ true

-- from such a mark on there is a stretch
abbrev pub GoingOnStretches : Service → (ℕ → List InstrKind → Type 0) → Type 0
GoingOnStretches served Contract = (b : Build) (view : View) (arrivals : List Arrival) (count : ℕ) (state : State) (s : System) (t : ℕ)
    → HasFittingPlaces b → IsSetting (setting_of b view arrivals) → 0 < count → Stands b state s
    → OpensGoingOn b view (state_with_arrivals arrivals count state) (with_admits (lines_at arrivals count) s) t served Contract
    → HasStretch b view arrivals count state s

-- The stretch that begins at the opening mark of GetTaskID is its event Call.
abbrev pub GetTaskIDStretches : Type 0
GetTaskIDStretches = GoingOnStretches service.GetTaskID (λ object. IsGetTaskIDCode)

-- The stretch that begins at the opening mark of GetTaskState is its event Call.
abbrev pub GetTaskStateStretches : Type 0
GetTaskStateStretches = GoingOnStretches service.GetTaskState IsGetTaskStateCode

-- The stretch that begins at the opening mark of ActivateTask is its event Call.
abbrev pub ActivateTaskStretches : Type 0
ActivateTaskStretches = GoingOnStretches service.ActivateTask IsActivateTaskCode

-- what holds at the opening mark of ChainTask: the running task holds nothing
pub record OpensChainTask (b : Build) (view : View) (state : State) (s : System) (t : ℕ) : Type 0 where
  pub goes_on : OpensGoingOn b view state s t service.ChainTask IsChainTaskCode
  pub holds_nothing : (task s t).held ≡ []

-- The stretch that begins there is the event Left or Call of ChainTask.
abbrev pub ChainTaskStretches : Type 0
ChainTaskStretches = (b : Build) (view : View) (arrivals : List Arrival) (count : ℕ) (state : State) (s : System) (t : ℕ)
    → HasFittingPlaces b → IsSetting (setting_of b view arrivals) → 0 < count → Stands b state s
    → OpensChainTask b view (state_with_arrivals arrivals count state) (with_admits (lines_at arrivals count) s) t
    → HasStretch b view arrivals count state s

-- what holds at the opening mark of GetResource
pub record OpensGetResource (b : Build) (view : View) (state : State) (s : System) (t level : ℕ) : Type 0 where
  pub goes_on : OpensGoingOn b view state s t service.GetResource (λ object. IsGetResourceCode object level)
  pub may : MayHaveResource b t (task s t) goes_on.opens.opening.block.call.object level

-- The stretch that begins there is the event Call of GetResource.
abbrev pub GetResourceStretches : Type 0
GetResourceStretches = (b : Build) (view : View) (arrivals : List Arrival) (count : ℕ) (state : State) (s : System) (t level : ℕ)
    → HasFittingPlaces b → IsSetting (setting_of b view arrivals) → 0 < count → Stands b state s
    → OpensGetResource b view (state_with_arrivals arrivals count state) (with_admits (lines_at arrivals count) s) t level
    → HasStretch b view arrivals count state s

-- The stretch that begins at the opening mark of ReleaseResource is its event Call.
abbrev pub ReleaseResourceStretches : Type 0
ReleaseResourceStretches = GoingOnStretches service.ReleaseResource IsReleaseResourceCode

-- what holds at the opening mark of Schedule: the running task holds nothing, and has its internal resource where its scheduling is NON
pub record OpensSchedule (b : Build) (view : View) (state : State) (s : System) (t : ℕ) : Type 0 where
  pub goes_on : OpensGoingOn b view state s t service.Schedule (λ object. IsScheduleCode)
  pub may : MayGiveWay b t (task s t) goes_on.opens.block.offset

-- The stretch that begins there is the event Call of Schedule.
abbrev pub ScheduleStretches : Type 0
ScheduleStretches = (b : Build) (view : View) (arrivals : List Arrival) (count : ℕ) (state : State) (s : System) (t : ℕ)
    → HasFittingPlaces b → IsSetting (setting_of b view arrivals) → 0 < count → Stands b state s
    → OpensSchedule b view (state_with_arrivals arrivals count state) (with_admits (lines_at arrivals count) s) t
    → HasStretch b view arrivals count state s

-- the way back stands in the block of Schedule with this object, with its mark
pub record HasWayBack (b : Build) (view : View) (object : ℕ) : Type 0 where
  pub code : List InstrKind
  pub yields : IsScheduleCode code
  pub offset : ℕ
  pub block_is : block_address b.places service.Schedule object ≡ memory_base + offset
  pub placed : IsPlaced b offset code
  pub is : b.back ≡ memory_base + (offset + way_back)
  pub mark : Mark
  pub marked : mark_at view b.back ≡ Some mark
  pub is_back : mark.kind ≡ kind.Back

-- what holds where no line is taken and the running task owes the way back, with the arrivals of the count
pub record OpensWayBack (b : Build) (view : View) (state : State) (s : System) (t : ℕ) : Type 0 where
  pub none : choose state.core ≡ None
  pub current : word_at state.core.ram cur ≡ t + 1
  pub owes : (task s t).owed ≡ true
  pub holds_nothing : (task s t).held ≡ []
  pub object : ℕ
  pub way : HasWayBack b view object

-- The stretch that begins there is the event Back.
abbrev pub WayBackStretches : Type 0
WayBackStretches = (b : Build) (view : View) (arrivals : List Arrival) (count : ℕ) (state : State) (s : System) (t : ℕ)
    → HasFittingPlaces b → IsSetting (setting_of b view arrivals) → 0 < count → Stands b state s
    → OpensWayBack b view (state_with_arrivals arrivals count state) (with_admits (lines_at arrivals count) s) t
    → HasStretch b view arrivals count state s
