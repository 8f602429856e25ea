-- How soon ticks end: within how many counts of an arrival of their counter.
use Rattle.std.specs.Prelude.{ℕ, ◌+◌, ◌*◌, ◌<◌, ◌≤◌, ◌≡◌, List, ◌∷◌, ◌++◌, false, length, Some}
use Rattle.std.specs.List.{AllByRecursion}
use Rattle.sloth_base.specs.declared.config.Config.{Config}
use Rattle.sloth_base.specs.declared.app.App.{App}
use Rattle.sloth_base.specs.declared.service.Arrival.{Arrival}
use Rattle.sloth_base.specs.declared.service.Event.TheVariants as event
use Rattle.sloth_base.specs.declared.service.Stamped.{Stamped}
use Rattle.sloth_base.specs.Options.{is_number}
use Rattle.sloth_base.specs.Owners.{counter_line}
use Rattle.code_rules.specs.WellFormed.{WellFormed}
use Rattle.code_lengths.specs.LongestPaths.{tick_path}
use Rattle.load_text.specs.declared.load_line.Entry.{Entry}
use Rattle.load_text.specs.Loads.{distance, KeepDistances, arrivals_within}
use Rattle.osek_scheduler.specs.InTime.{InTime}
use Rattle.osek_scheduler.specs.State.{System, counter, opening}
use Rattle.osek_scheduler.specs.Runs.{AreStepsTo, OsekRun}
use Rattle.sim_induction.specs.Pace.{ItemSizes, AreAtMost}
use Rattle.sim_induction.specs.Spent.{SpendsOnItems}
use Rattle.sim_induction.specs.Weighed.{AreWithinWeights}
use Rattle.run_counts.specs.Stages.{run_stages}
use Rattle.run_counts.specs.OwnCounts.{IsShared}
use Rattle.response_laws.specs.Arrivals.{HasDistances, AreCharged, admission_window}
use Rattle.response_laws.specs.Response.{HasPace}
use Rattle.response_laws.specs.Sums.{sum_counters}
use Rattle.response_laws.specs.Turns.{ticking_counter}

-- the counts of all ticks whose counters arrive within so many counts
abbrev pub ticks_within : Config → List Entry → (counts : ℕ) → ℕ
ticks_within config load counts = sum_counters config (λ c. arrivals_within load counts (counter_line c) * tick_path config c)

-- So many counts have room for an item that a task has begun, and for all ticks whose counters arrive within them, or a stretch and an item before and a stretch after.
abbrev pub HasRoomForTicks : Config → List Entry → (longest late counts : ℕ) → Type 0
HasRoomForTicks config load longest late counts = longest + ticks_within config load (admission_window late (longest + late) counts) ≤ counts

-- counter c ticks among these events, and the first of its ticks ends before this count
pub record TicksBefore (c limit : ℕ) (events : List Stamped) : Type 0 where
  pub front : List Stamped
  pub tick : Stamped
  pub rest : List Stamped
  pub parts : events ≡ front ++ tick ∷ rest
  pub first : AllByRecursion (λ e. is_number c (ticking_counter e.event) ≡ false) front
  pub ticks : tick.event ≡ event.Tick c
  pub in_time : tick.stamp.at < limit

-- behind each arrival of a counter its next tick ends within r counts of it, if the run has so many instructions and `more`
abbrev pub TicksWithin : (n more r : ℕ) → List Stamped → Type 0
TicksWithin n more r events =
    (before behind : List Stamped) (arrival : Stamped) (c : ℕ) → events ≡ before ++ arrival ∷ behind → arrival.event ≡ event.Due c → arrival.stamp.at + r + more ≤ n
    → TicksBefore c (arrival.stamp.at + r) behind

-- So it is in every run of well-formed task code whose arrivals keep a load, whose stretches are within their weights, and in which no task spends more on an item than that
-- has, with r a stretch above counts that have room for ticks.
abbrev pub TicksEndInTime : Type 0
TicksEndInTime = (config : Config) (app : App) (size : ItemSizes) (load : List Entry) (n late more longest counts : ℕ) (arrivals : List Arrival) (events : List Stamped)
    → WellFormed config app → OsekRun config app events → InTime config n arrivals events → HasPace n late more events → more ≤ longest + late
    → AreCharged (longest + late) (run_stages config app events) → AreWithinWeights config app events → AllByRecursion (IsShared config) (run_stages config app events)
    → AreAtMost size longest → ((t : ℕ) → t < length config.tasks → SpendsOnItems config app size longest t events) → HasDistances load → KeepDistances load arrivals
    → HasRoomForTicks config load longest late counts → TicksWithin n more (counts + late) events

-- ---- arrivals that are not lost

-- each arrival of counter c finds it not due, if the run has so many instructions more
abbrev pub ArrivalsFindUndue : Config → App → (n more c : ℕ) → List Stamped → Type 0
ArrivalsFindUndue config app n more c events =
    (before behind : List Stamped) (arrival : Stamped) (found : System) → events ≡ before ++ arrival ∷ behind → AreStepsTo config app before (opening config app) found
    → arrival.event ≡ event.Due c → arrival.stamp.at + more ≤ n → (counter found c).due ≡ false

-- So it is in every run whose arrivals keep a load, where ticks end within the distance of the counter's arrivals.
abbrev pub ArrivalsAreServed : Type 0
ArrivalsAreServed = (config : Config) (app : App) (load : List Entry) (n late more r c d : ℕ) (arrivals : List Arrival) (events : List Stamped)
    → WellFormed config app → OsekRun config app events → InTime config n arrivals events → HasPace n late more events → HasDistances load → KeepDistances load arrivals
    → TicksWithin n more r events → distance load (counter_line c) ≡ Some d → late ≤ r → r ≤ d → ArrivalsFindUndue config app n more c events
