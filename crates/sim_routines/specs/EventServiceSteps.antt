-- The services on events as steps of the abstract scheduler, said without arrivals.
use Rattle.std.specs.Prelude.{ℕ, ◌+◌, ◌^◌, ◌<◌, ◌≡◌, List, [], slice_index}
use Rattle.sloth_base.specs.declared.service.Service.{Service}
use Rattle.sloth_base.specs.declared.service.Service.TheVariants as service
use Rattle.sloth_base.specs.Machine.{State}
use Rattle.sloth_base.specs.MemoryMap.{memory_base}
use Rattle.sloth_region.specs.Layout.{below_word, context_bytes}
use Rattle.rv32_instr.specs.Ram.{word_at}
use Rattle.service_gen.specs.ClearEvent.{ClearEventEffect}
use Rattle.service_gen.specs.GetEvent.{GetEventEffect}
use Rattle.service_gen.specs.SetEvent.{SetEventEffect}
use Rattle.service_gen.specs.WaitEvent.{WaitEventEffect}
use Rattle.osek_scheduler.specs.State.{Task, System}
use Rattle.sim_relation.specs.Bounds.{AreBelow}
use Rattle.sim_relation.specs.Build.{Build, HasFittingPlaces}
use Rattle.sim_routines.specs.ServiceSteps.{MayGoOn}
use Rattle.sim_routines.specs.Served.{IsServiceAnswer}

-- ClearEvent takes the events of its mask out of the running task's, and the task goes on.
abbrev pub ClearEventGoesOn : Type 0
ClearEventGoesOn = (b : Build) (state : State) (s : System) (t : ℕ) (own : Task) (object : ℕ) (touched : List ℕ) (end : State) → HasFittingPlaces b
    → MayGoOn b state s t own service.ClearEvent object → ClearEventEffect t touched state end → IsServiceAnswer b s t service.ClearEvent touched end

-- GetEvent answers the events of a task that is not Suspended, and the caller goes on.
abbrev pub GetEventGoesOn : Type 0
GetEventGoesOn = (b : Build) (state : State) (s : System) (t : ℕ) (own : Task) (object : ℕ) (touched : List ℕ) (end : State) → HasFittingPlaces b
    → MayGoOn b state s t own service.GetEvent object → GetEventEffect object touched state end → IsServiceAnswer b s t service.GetEvent touched end

-- what holds where a service with this mask of events begins: the mask is a word
pub record MayHaveEvents (b : Build) (state : State) (s : System) (t : ℕ) (own : Task) (served : Service) (object mask : ℕ) : Type 0 where
  pub goes_on : MayGoOn b state s t own served object
  pub mask_is : goes_on.is_served.opening.block.call.mask ≡ mask
  pub is_word : mask < 2 ^ 32

-- SetEvent sets the events of its mask for a task that is not Suspended, the caller too, and makes it Ready where it waits for one of
-- them; the caller goes on.
abbrev pub SetEventGoesOn : Type 0
SetEventGoesOn = (b : Build) (state : State) (s : System) (t : ℕ) (own : Task) (object mask : ℕ) (touched : List ℕ) (end : State) → HasFittingPlaces b
    → MayHaveEvents b state s t own service.SetEvent object mask → SetEventEffect object touched state end → IsServiceAnswer b s t service.SetEvent touched end

-- What holds where WaitEvent begins: the task holds no resource, the context below it stands at `place`, its own is to stand at `kept`,
-- directly below x2, and its registers hold words.
pub record MayWaitAt (b : Build) (state : State) (s : System) (t : ℕ) (own : Task) (object place kept : ℕ) : Type 0 where
  pub goes_on : MayGoOn b state s t own service.WaitEvent object
  pub holds_nothing : own.held ≡ []
  pub below : word_at state.core.ram below_word ≡ memory_base + place
  pub x2 : slice_index state.core.registers 2 ≡ memory_base + (kept + context_bytes)
  pub words : AreBelow (2 ^ 32) state.core.registers

-- WaitEvent goes on where one of the events of its mask is set; else the task waits for them, and what runs below it goes on.
abbrev pub WaitEventAnswers : Type 0
WaitEventAnswers = (b : Build) (state : State) (s : System) (t : ℕ) (own : Task) (object place kept : ℕ) (touched : List ℕ) (end : State) → HasFittingPlaces b
    → MayWaitAt b state s t own object place kept → WaitEventEffect t place kept touched state end → IsServiceAnswer b s t service.WaitEvent touched end
