-- The services on events as stretches of a run, whatever lines arrive.
use Rattle.std.specs.Prelude.{ℕ, ◌^◌, ◌<◌, ◌≡◌, List, []}
use Rattle.sloth_base.specs.declared.service.Arrival.{Arrival}
use Rattle.sloth_base.specs.declared.service.Service.{Service}
use Rattle.sloth_base.specs.declared.service.Service.TheVariants as service
use Rattle.sloth_base.specs.Machine.{State}
use Rattle.rv32_instr.specs.declared.InstrKind.{InstrKind}
use Rattle.rv32_machine.specs.Run.{state_with_arrivals}
use Rattle.observe.specs.Observe.{View}
use Rattle.service_gen.specs.ClearEvent.{IsClearEventCode}
use Rattle.service_gen.specs.GetEvent.{IsGetEventCode}
use Rattle.service_gen.specs.SetEvent.{IsSetEventCode}
use Rattle.service_gen.specs.WaitEvent.{IsWaitEventCode}
use Rattle.osek_scheduler.specs.State.{System, task}
use Rattle.sim_induction.specs.Admits.{IsSetting, lines_at, with_admits}
use Rattle.sim_relation.specs.Bounds.{AreBelow}
use Rattle.sim_relation.specs.Build.{Build, HasFittingPlaces}
use Rattle.sim_relation.specs.Placed.{setting_of}
use Rattle.sim_relation.specs.Stands.{Stands}
use Rattle.sim_routines.specs.Stretch.{GoingOnStretches, OpensGoingOn, HasStretch}

-- The stretch that begins at the opening mark of GetEvent is its event Call.
abbrev pub GetEventStretches : Type 0
GetEventStretches = GoingOnStretches service.GetEvent IsGetEventCode

-- what holds at the opening mark of a service with a mask of events: the mask is a word
pub record OpensWithMask (b : Build) (view : View) (state : State) (s : System) (t : ℕ) (served : Service)
    (Contract : ℕ → List InstrKind → Type 0) : Type 0 where
  pub goes_on : OpensGoingOn b view state s t served Contract
  pub is_word : goes_on.opens.opening.block.call.mask < 2 ^ 32

-- from such a mark on there is a stretch
abbrev pub WithMaskStretches : Service → (ℕ → List InstrKind → Type 0) → Type 0
WithMaskStretches served Contract = (b : Build) (view : View) (arrivals : List Arrival) (count : ℕ) (state : State) (s : System) (t : ℕ)
    → HasFittingPlaces b → IsSetting (setting_of b view arrivals) → 0 < count → Stands b state s
    → OpensWithMask b view (state_with_arrivals arrivals count state) (with_admits (lines_at arrivals count) s) t served Contract
    → HasStretch b view arrivals count state s

-- The stretch that begins at the opening mark of ClearEvent is its event Call.
abbrev pub ClearEventStretches : Type 0
ClearEventStretches = WithMaskStretches service.ClearEvent (λ object. IsClearEventCode)

-- The stretch that begins at the opening mark of SetEvent is its event Call.
abbrev pub SetEventStretches : Type 0
SetEventStretches = WithMaskStretches service.SetEvent IsSetEventCode

-- what holds at the opening mark of WaitEvent: the running task holds nothing, and its registers hold words
pub record OpensWaitEvent (b : Build) (view : View) (state : State) (s : System) (t : ℕ) : Type 0 where
  pub goes_on : OpensGoingOn b view state s t service.WaitEvent (λ object. IsWaitEventCode)
  pub holds_nothing : (task s t).held ≡ []
  pub words : AreBelow (2 ^ 32) state.core.registers

-- The stretch that begins there is the event Call or Left of WaitEvent.
abbrev pub WaitEventStretches : Type 0
WaitEventStretches = (b : Build) (view : View) (arrivals : List Arrival) (count : ℕ) (state : State) (s : System) (t : ℕ)
    → HasFittingPlaces b → IsSetting (setting_of b view arrivals) → 0 < count → Stands b state s
    → OpensWaitEvent b view (state_with_arrivals arrivals count state) (with_admits (lines_at arrivals count) s) t
    → HasStretch b view arrivals count state s
