-- The registers that `debug` shows of tasks, wherever interrupts are open.
use Rattle.std.specs.Prelude.{ℕ, ◌+◌, ◌-◌, ◌*◌, ◌<◌, ◌≤◌, ◌≡◌, ◌≢◌, ◌⊎◌, List, [], ◌∷◌, Some, None, true, false, filter, length, map, slice_index}
use Rattle.sloth_base.specs.Machine.{State}
use Rattle.sloth_base.specs.MemoryMap.{memory_base, vectors_base}
use Rattle.sloth_base.specs.Named.{function, operation}
use Rattle.sloth_base.specs.Owners.{owners_in}
use Rattle.sloth_base.specs.Take.{line_to_take}
use Rattle.sloth_base.specs.declared.app.App.{App}
use Rattle.sloth_base.specs.declared.app.Call.{Call}
use Rattle.sloth_base.specs.declared.app.Op.TheVariants as op
use Rattle.sloth_base.specs.declared.config.Config.{Config}
use Rattle.sloth_base.specs.declared.service.Arrival.{Arrival}
use Rattle.sloth_base.specs.declared.image.Image.{Image}
use Rattle.sloth_base.specs.declared.limits.Places.{Places}
use Rattle.sloth_base.specs.declared.service.Service.TheVariants as service
use Rattle.sloth_region.specs.declared.region.Map.{Map}
use Rattle.code_rules.specs.WellFormed.{WellFormed}
use Rattle.mem_map.specs.Stacks.{top_of}
use Rattle.rv32_instr.specs.Ram.{word_at}
use Rattle.rv32_expand.specs.Expansion.{block_address, expansion, item_address}
use Rattle.rv32_expand.specs.InPlace.{ItemsInPlace}
use Rattle.rv32_machine.specs.Run.{state_after, state_with_arrivals}
use Rattle.rv32_machine.specs.Start.{start}
use Rattle.service_gen.specs.Schedule.{way_back}
use Rattle.osek_scheduler.specs.Runs.{AreStepsTo}
use Rattle.osek_scheduler.specs.State.{Frame, System, Task, opening, task}
use Rattle.osek_scheduler.specs.declared.state.TaskState.TheVariants as mode
use Rattle.sim_induction.specs.Sound.{AreComing, Sound, events_of, stands_before}
use Rattle.sim_relation.specs.Build.{frame_bytes}
use Rattle.sim_relation.specs.Position.{AreWords, called_words}
use Rattle.sloth_build.specs.ImageOf.{HasPlannedMap}
use Rattle.debug_ways.specs.Runs.{Run}
use Rattle.debug_view.specs.ShownRun.{run_of}
use Rattle.debug_view.specs.RightValues.{IsHighestActive}

-- An address is where a task stands that is to execute the item of a frame: one of the item's instructions; where the item calls a service, the service's code; or,
-- where it owes the way back from Schedule, that.
abbrev pub IsAtItem : App → Map → Task → Frame → ℕ → Type 0
IsAtItem app m own frame pc =
    ((item_address m.places frame.func frame.item ≤ pc)
    × (pc < item_address m.places frame.func frame.item + 4 * length (expansion app m.places frame.func frame.item)))
    ⊎ (((call : Call) × (operation app frame.func frame.item ≡ op.Serve call) × (pc ≡ block_address m.places call.service call.object))
    ⊎ ((own.owed ≡ true) × (pc ≡ block_address m.places service.Schedule 0 + way_back)))

-- The words of the calls around the innermost one, from an offset in RAM up to the top: of each the address to which the call that it makes returns, and its words.
abbrev pub AreOuterCalls : App → Places → List ℕ → List Frame → (place top : ℕ) → Type 0
AreOuterCalls app places ram [] place top = place ≡ top
AreOuterCalls app places ram (frame ∷ outer) place top =
    (word_at ram place ≡ item_address places frame.func frame.item + 4 * (called_words app (operation app frame.func frame.item) + 1))
    × AreWords ram (place + 4) frame.words × AreOuterCalls app places ram outer (place + 4 + 4 * length frame.words) top

-- the words of calls in progress, the innermost first
abbrev pub AreCalls : App → Places → List ℕ → Frame → List Frame → (place top : ℕ) → Type 0
AreCalls app places ram frame outer place top = AreWords ram place frame.words × AreOuterCalls app places ram outer (place + 4 * length frame.words) top

-- a task at this pc is neither inside the item that calls a function nor at the jump of the item that returns
abbrev pub IsOutsideCall : App → Places → Task → Frame → ℕ → Type 0
IsOutsideCall app places own frame pc =
    (own.owed ≡ true)
    ⊎ ((((callee : ℕ) → operation app frame.func frame.item ≡ op.Invoke callee → pc ≡ item_address places frame.func frame.item)
    × (operation app frame.func frame.item ≡ op.Return → pc < item_address places frame.func frame.item + 8)))

-- The calls of an Active task, by its pc and the offset of its x2. They stand from there up to the top of its part of the stacks; where it is inside the item that calls a
-- function, behind that function's words and the return address; where it is at the jump of the item that returns, without the innermost one.
abbrev pub HasCalls : App → Places → List ℕ → Task → Frame → List Frame → (pc place top : ℕ) → Type 0
HasCalls app places ram own frame outer pc place top =
    (IsOutsideCall app places own frame pc × AreCalls app places ram frame outer place top)
    ⊎ ((own.owed ≡ false) × (((callee : ℕ) × (operation app frame.func frame.item ≡ op.Invoke callee) × (item_address places frame.func frame.item < pc)
    × AreCalls app places ram frame outer (place + 4 + 4 * (function app callee).frame_words) top)
    ⊎ ((caller : Frame) × (rest : List Frame) × (operation app frame.func frame.item ≡ op.Return) × (outer ≡ caller ∷ rest)
    × (pc ≡ item_address places frame.func frame.item + 8) × AreCalls app places ram caller rest place top)))

-- The registers of each task, whose thread has its number and 2 more, by the map of the image; and its calls in progress, in the RAM of the machine as it is now.
pub record AreTaskRegisters (config : Config) (app : App) (m : Map) (now : State) (run : Run) (count : ℕ) (s : System) : Type 0 where
  -- of a task that has begun and has not ended x5 to x29 are shown, and are those of the system; of any other task none of them is
  pub of_begun : (t i : ℕ) → t < length config.tasks → i < 25 → (task s t).frames ≢ []
      → run.register count (t + 2) (i + 5) ≡ Some (slice_index (task s t).registers i)
  pub of_others : (t i : ℕ) → t < length config.tasks → i < 25 → (task s t).frames ≡ [] → run.register count (t + 2) (i + 5) ≡ None
  -- so they are shown of each Active task, the running one or one that is preempted, and of each one that waits
  pub of_active : (t i : ℕ) → t < length config.tasks → i < 25 → (task s t).state ≡ mode.Active
      → run.register count (t + 2) (i + 5) ≡ Some (slice_index (task s t).registers i)
  pub of_waiting : (t i mask : ℕ) → t < length config.tasks → i < 25 → (task s t).state ≡ mode.Waiting mask
      → run.register count (t + 2) (i + 5) ≡ Some (slice_index (task s t).registers i)
  -- The pc, register 32, of a task that does not run: of an Active one where it stands, at its next item; of one that waits, or is Ready to go on from a wait, the
  -- address of its next item; of any other one the word of the vectors where it will be entered.
  pub preempted_pc : (r t : ℕ) (frame : Frame) (outer : List Frame) → IsHighestActive config s r → t ≢ r → t < length config.tasks → (task s t).state ≡ mode.Active
      → (task s t).frames ≡ frame ∷ outer → (pc : ℕ) × (run.register count (t + 2) 32 ≡ Some pc) × IsAtItem app m (task s t) frame pc
  pub waiting_pc : (t : ℕ) (frame : Frame) (outer : List Frame) → t < length config.tasks → (task s t).state ≢ mode.Active → (task s t).frames ≡ frame ∷ outer
      → run.register count (t + 2) 32 ≡ Some (item_address m.places frame.func frame.item)
  pub fresh_pc : (t : ℕ) → t < length config.tasks → (task s t).frames ≡ [] → run.register count (t + 2) 32 ≡ Some (vectors_base + 4 * t)
  -- from the x2 of one that waits, or is Ready to go on from a wait, up to the top of its part of the stacks stand its calls in progress
  pub waiting_x2 : (t : ℕ) (frame : Frame) (outer : List Frame) → t < length config.tasks → (task s t).state ≢ mode.Active → (task s t).frames ≡ frame ∷ outer
      → run.register count (t + 2) 2 ≡ Some (top_of m t - frame_bytes app frame.func (map (λ (x : Frame). x.func) outer))
  -- their words stand there
  pub waiting_calls : (t : ℕ) (frame : Frame) (outer : List Frame) → t < length config.tasks → (task s t).state ≢ mode.Active → (task s t).frames ≡ frame ∷ outer
      → (place : ℕ) × (run.register count (t + 2) 2 ≡ Some (memory_base + place))
      × AreCalls app m.places now.core.ram frame outer place (top_of m t - memory_base)
  -- so stand those of a preempted one, by the pc and x2 that are shown
  pub preempted_calls : (r t : ℕ) (frame : Frame) (outer : List Frame) → IsHighestActive config s r → t ≢ r → t < length config.tasks → (task s t).state ≡ mode.Active
      → (task s t).frames ≡ frame ∷ outer
      → (pc : ℕ) × (place : ℕ) × (run.register count (t + 2) 32 ≡ Some pc) × (run.register count (t + 2) 2 ≡ Some (memory_base + place))
      × HasCalls app m.places now.core.ram (task s t) frame outer pc place (top_of m t - memory_base)
  -- The running one is at its next item too. Its pc is shown where no line is taken; where one is, the address of the line's word of the vectors is shown as pc, and the
  -- task's as mepc, register 35.
  pub running_pc : (t : ℕ) (frame : Frame) (outer : List Frame) → IsHighestActive config s t → (task s t).frames ≡ frame ∷ outer
      → IsAtItem app m (task s t) frame now.pc
      × (line_to_take now ≡ None → run.register count (t + 2) 32 ≡ Some now.pc)
      × ((line : ℕ) → line_to_take now ≡ Some line
      → (run.register count (t + 2) 32 ≡ Some (vectors_base + 4 * line)) × (run.register count (t + 2) 35 ≡ Some now.pc))
  pub running_calls : (t : ℕ) (frame : Frame) (outer : List Frame) → IsHighestActive config s t → (task s t).frames ≡ frame ∷ outer
      → (place : ℕ) × (run.register count (t + 2) 2 ≡ Some (memory_base + place))
      × HasCalls app m.places now.core.ram (task s t) frame outer now.pc place (top_of m t - memory_base)

-- so it is at each count of a run that finds MIE 1, of the system to which the events before the count lead
pub record ShowsRegisters (config : Config) (app : App) (image : Image) (m : Map) : Type 0 where
  pub each : (arrivals : List Arrival) (n count : ℕ) (state : State) (s : System) → AreComing (owners_in config) arrivals
      → count < n → state_after count arrivals (start image) ≡ Some state → state.core.mie ≡ true
      → AreStepsTo config app (filter (stands_before count) (events_of image arrivals n)) (opening config app) s
      → AreTaskRegisters config app m (state_with_arrivals arrivals count state) (run_of image arrivals) count s

-- and it is of each image of a planned map
abbrev pub PlannedImagesShowRegisters : Type 0
PlannedImagesShowRegisters = (config : Config) (app : App) (image : Image) → WellFormed config app → Sound config app image → ItemsInPlace image config app
    → (has : HasPlannedMap config app image) → ShowsRegisters config app image has.by_map.map
