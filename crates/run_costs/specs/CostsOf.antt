-- Parts of the costs of a configuration's tasks.
use Rattle.std.specs.Prelude.{ℕ, ◌<◌, ◌≤◌, ◌≡◌, ◌⊎◌, not, Bool, true, false, List, [], length, get_or, Option, Some, None, Decides}
use Rattle.sloth_base.specs.declared.config.Config.{Config}
use Rattle.sloth_base.specs.declared.config.Action.{Action}
use Rattle.sloth_base.specs.declared.config.Action.TheVariants as action
use Rattle.sloth_base.specs.declared.app.App.{App}
use Rattle.sloth_base.specs.declared.service.Service.{Service}
use Rattle.sloth_base.specs.declared.service.Service.TheVariants as service
use Rattle.sloth_base.specs.Named.{declaration, alarm_declaration, operation}
use Rattle.load_text.specs.Loads.{distance}
use Rattle.osek_blocking.specs.Sections.{IsSection, IsLower}
use Rattle.bound_rules.specs.declared.bound.BodyWeights.{BodyWeights}
use Rattle.walk_sums.specs.declared.sections.Sum.{Sum}
use Rattle.walk_sums.specs.declared.sections.RoundSums.{RoundSums}
use Rattle.walk_sums.specs.declared.counted.Counted.{Counted}
use Rattle.walk_sums.specs.declared.counted.Counted.TheVariants as counts
use Rattle.walk_sums.specs.Counted.{one_if, counted_weights, calls_for}
use Rattle.walk_sums.specs.Clears.{ReachesCounted}
use Rattle.walk_sums.specs.Told.{IsToldSum}
use Rattle.run_windows.specs.declared.costs.CounterCosts.{CounterCosts}
use Rattle.run_windows.specs.declared.costs.AlarmCosts.{AlarmCosts}
use Rattle.run_windows.specs.declared.costs.Services.{Services}
use Rattle.run_windows.specs.declared.costs.SectionCosts.{SectionCosts}
use Rattle.run_windows.specs.Costs.{no_section, no_services}
use Rattle.run_costs.specs.Rounds.{AreRounds, made, many}
use Rattle.run_costs.specs.Sections.{IsRaised, DoesRaised}
use Rattle.run_costs.specs.SectionSums.{is_endless}

-- n entries, each as it is said of its number
pub record AreEach {X : Type 0} (n : ℕ) (d : X) (Is : ℕ → X → Type 0) (list : List X) : Type 0 where
  pub count : length list ≡ n
  pub each : (i : ℕ) → i < n → Is i (get_or list i d)

-- ---- services

-- task t reaches a call of the service
abbrev pub ReachesService : App → (t : ℕ) → Service → Type 0
ReachesService app t s = ReachesCounted app t (counts.Calls s)

-- the greatest of the services that task t reaches, 0 where it reaches none
pub record IsGreatest (app : App) (t : ℕ) (path : Service → ℕ) (most : ℕ) : Type 0 where
  pub none_above : (s : Service) → ReachesService app t s → path s ≤ most
  pub attained : (most ≡ 0) ⊎ ((s : Service) × ReachesService app t s × (path s ≡ most))

-- which services that name task j are reached by task k
pub record AreServices (app : App) (j k : ℕ) (s : Services) : Type 0 where
  pub activates : Decides s.activates (ReachesCounted app k (counts.CallsFor service.ActivateTask j))
  pub chains : Decides s.chains (ReachesCounted app k (counts.Chains j))
  pub sets_events : Decides s.sets_events (ReachesCounted app k (counts.Settings j))

-- by all tasks
abbrev pub AreServiceRow : Config → App → (j : ℕ) → List Services → Type 0
AreServiceRow config app j row = AreEach (length config.tasks) no_services (AreServices app j) row

-- by the task that is named
abbrev pub AreServiceTable : Config → App → List (List Services) → Type 0
AreServiceTable config app table = AreEach (length config.tasks) [] (λ j. AreServiceRow config app j) table

-- ---- makings

-- how often the rounds of task k do what counts
abbrev pub AreMade : Config → App → (clean : Bool) → (k : ℕ) → Counted → (once : Bool) → (first next : Option ℕ) → Type 0
AreMade config app clean k c once first next =
    (told : RoundSums) × AreRounds app clean (declaration config k).extended k (counted_weights c app) told
    × (first ≡ made once told.first) × (next ≡ made once told.later)

-- ---- sections

-- the sections of a lower task k for h
pub record IsSectionCosts (config : Config) (app : App) (weights : List BodyWeights) (h k : ℕ) (s : SectionCosts) : Type 0 where
  pub exists : Decides s.exists (IsRaised config app h k)
  pub told : Sum
  pub is_told : IsToldSum (IsSection config app h k) weights told
  pub is_endless : s.is_endless ≡ is_endless told
  pub counts : s.counts ≡ many told

-- of any task: one that is not lower has none
abbrev pub IsTaskSection : Config → App → List BodyWeights → (h k : ℕ) → SectionCosts → Type 0
IsTaskSection config app weights h k s =
    (IsLower config h k → IsSectionCosts config app weights h k s) × (¬ (IsLower config h k) → s ≡ no_section)

-- how often a section of a lower task k for h does what counts: by walks, or once at most
abbrev pub IsSectionMade : Config → App → (h k : ℕ) → (once : Bool) → Counted → Option ℕ → Type 0
IsSectionMade config app h k true c m = (does : Bool) × Decides does (DoesRaised config app h k c) × (m ≡ Some (one_if does))
IsSectionMade config app h k false c m =
    (told : Sum) × IsToldSum (IsSection config app h k) (counted_weights c app) told × (m ≡ many told)

-- ---- counters and alarms

-- what stands in the place of a counter that is not there
abbrev pub no_counter : CounterCosts
no_counter = record { distance = None; tick = 0 }

-- an item of some body calls the service for the alarm
abbrev pub Names : App → Service → (alarm : ℕ) → Type 0
Names app s a = (f i : ℕ) × (calls_for a s (operation app f i) ≡ true)

abbrev pub task_of : Action → ℕ
task_of (action.Activate t) = t
task_of (action.Set t mask) = t

abbrev pub sets_events : Action → Bool
sets_events (action.Activate t) = false
sets_events (action.Set t mask) = true

abbrev pub no_alarm : AlarmCosts
no_alarm = record { counter = 0; task = 0; sets_events = false; time = 0; cycle = 0; is_set = false }

pub record IsAlarm (config : Config) (app : App) (a : ℕ) (costs : AlarmCosts) : Type 0 where
  pub counter : costs.counter ≡ (alarm_declaration config a).counter
  pub task : costs.task ≡ task_of (alarm_declaration config a).action
  pub sets_events : costs.sets_events ≡ sets_events (alarm_declaration config a).action
  pub time : costs.time ≡ (alarm_declaration config a).time
  pub cycle : costs.cycle ≡ (alarm_declaration config a).cycle
  pub is_set : Decides costs.is_set (Names app service.SetRelAlarm a ⊎ Names app service.SetAbsAlarm a)
