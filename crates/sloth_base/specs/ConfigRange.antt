-- When a configuration is in range: what its text may have declared.
use Rattle.std.specs.Prelude.{◌≡◌, ℕ, ◌<◌, ◌≤◌, ◌⊎◌, not, ◌==◌, bit_and, bit_or, IsTrue, List, [], ◌∷◌, cond, map, length, get_or, All, AllPairs, ◌≢◌}
use Rattle.sloth_base.specs.declared.config.TaskDecl.{TaskDecl}
use Rattle.sloth_base.specs.declared.config.EventDecl.{EventDecl}
use Rattle.sloth_base.specs.declared.config.CounterDecl.{CounterDecl}
use Rattle.sloth_base.specs.declared.config.Action.{Action}
use Rattle.sloth_base.specs.declared.config.Action.TheVariants as action
use Rattle.sloth_base.specs.declared.config.AlarmDecl.{AlarmDecl}
use Rattle.sloth_base.specs.declared.config.Config.{Config}
use Rattle.sloth_base.specs.ImageRange.{AreNames, AreNamesApart}
use Rattle.sloth_base.specs.Named.{declaration, counter_declaration}
use Rattle.sloth_base.specs.Limits.{task_limit, counter_limit, alarm_limit, resource_limit, event_limit, priority_limit, tick_limit}

-- "RES_SCHEDULER"
abbrev pub res_scheduler_name : List ℕ
res_scheduler_name = 82 ∷ 69 ∷ 83 ∷ 95 ∷ 83 ∷ 67 ∷ 72 ∷ 69 ∷ 68 ∷ 85 ∷ 76 ∷ 69 ∷ 82 ∷ []

-- the number of the resource RES_SCHEDULER, behind those of RESOURCE objects
abbrev pub scheduler_number : ℕ
scheduler_number = resource_limit

-- the name of a resource
abbrev pub resource_name : Config → ℕ → List ℕ
resource_name config r = cond (r == scheduler_number) res_scheduler_name (get_or config.resources r [])

-- The mask is the union of the masks of some of the events, of which no two share a bit.
abbrev pub IsUnionOf : List EventDecl → ℕ → Type 0
IsUnionOf [] mask = mask ≡ 0
IsUnionOf (event ∷ events) mask =
    IsUnionOf events mask ⊎ ((rest : ℕ) × IsUnionOf events rest × (bit_and event.mask rest ≡ 0) × (mask ≡ bit_or event.mask rest))

-- a task of a configuration with these resources and events
pub record IsTask (config : Config) (task : TaskDecl) : Type 0 where
  pub priority : task.priority ≤ priority_limit
  -- each is a RESOURCE object, or RES_SCHEDULER where that resource exists
  pub resources : All (λ r. (r < length config.resources) ⊎ ((r ≡ scheduler_number) × IsTrue config.res_scheduler)) task.resources
  pub events : IsUnionOf config.events task.events
  pub extended : task.extended ≡ not (task.events == 0)

-- the limits of a counter
pub record IsCounter (counter : CounterDecl) : Type 0 where
  pub max : (1 ≤ counter.max) × (counter.max ≤ tick_limit)
  pub min_cycle : (1 ≤ counter.min_cycle) × (counter.min_cycle ≤ tick_limit)

-- what stands in the place of an event that is not there
abbrev pub no_event : EventDecl
no_event = record { name = []; mask = 0 }

-- what an alarm may do: activate a task, or set one event that its task lists
abbrev pub IsAction : Config → Action → Type 0
IsAction config (action.Activate t) = t < length config.tasks
IsAction config (action.Set t mask) =
    (t < length config.tasks) × ((e : ℕ) × (e < length config.events) × (mask ≡ (get_or config.events e no_event).mask))
    × (bit_and mask (declaration config t).events ≡ mask)

-- the cycle of an alarm of this counter: 0 where it expires once
abbrev pub IsCycle : CounterDecl → ℕ → Type 0
IsCycle counter cycle = (cycle ≡ 0) ⊎ ((counter.min_cycle ≤ cycle) × (cycle ≤ counter.max))

-- an alarm of a configuration with these counters, tasks and events
pub record IsAlarm (config : Config) (alarm : AlarmDecl) : Type 0 where
  pub counter : alarm.counter < length config.counters
  pub action : IsAction config alarm.action
  pub time : alarm.time ≤ (counter_declaration config alarm.counter).max
  pub cycle : IsCycle (counter_declaration config alarm.counter) alarm.cycle
  -- one that does not start by itself has neither
  pub asleep : alarm.time ≡ 0 → alarm.cycle ≡ 0

-- the configuration is in range
pub record InRange (config : Config) : Type 0 where
  pub few_tasks : length config.tasks ≤ task_limit
  pub few_resources : length config.resources ≤ scheduler_number
  pub few_events : length config.events ≤ event_limit
  pub task_names : AreNames (map (λ t. t.name) config.tasks)
  pub resource_names : AreNames config.resources
  pub event_names : AreNames (map (λ e. e.name) config.events)
  pub priorities_differ : AllPairs (λ s t. s.priority ≢ t.priority) config.tasks
  pub masks : All (λ e. (0 < e.mask) × (e.mask < 4294967296)) config.events
  pub tasks : All (IsTask config) config.tasks
  -- where RES_SCHEDULER exists, no RESOURCE object has its name
  pub scheduler_alone : IsTrue config.res_scheduler → All (λ name. name ≢ res_scheduler_name) config.resources
  pub few_counters : length config.counters ≤ counter_limit
  pub few_alarms : length config.alarms ≤ alarm_limit
  pub counter_names : AreNames (map (λ c. c.name) config.counters)
  pub alarm_names : AreNames (map (λ a. a.name) config.alarms)
  -- no counter has a task's name
  pub counters_apart : AreNamesApart (map (λ c. c.name) config.counters) (map (λ t. t.name) config.tasks)
  pub counters : All IsCounter config.counters
  pub alarms : All (IsAlarm config) config.alarms
