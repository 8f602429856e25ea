-- Response times of runs whose arrivals keep a load.
use Rattle.std.specs.List.{AllByRecursion}
use Rattle.std.specs.Prelude.{ℕ, ◌<◌, ◌≤◌, ◌≡◌, List, [], ◌++◌, Bool, true}
use Rattle.sloth_base.specs.declared.config.Config.{Config}
use Rattle.sloth_base.specs.declared.app.App.{App}
use Rattle.sloth_base.specs.declared.service.Arrival.{Arrival}
use Rattle.sloth_base.specs.declared.service.Stamped.{Stamped}
use Rattle.sloth_base.specs.Owners.{counter_line}
use Rattle.code_rules.specs.WellFormed.{WellFormed}
use Rattle.load_text.specs.declared.load_line.Entry.{Entry}
use Rattle.load_text.specs.Loads.{KeepDistances, arrivals_within}
use Rattle.osek_scheduler.specs.InTime.{InTime}
use Rattle.osek_scheduler.specs.Runs.{OsekRun}
use Rattle.run_counts.specs.Stages.{Stage, run_stages}
use Rattle.run_counts.specs.OwnCounts.{IsShared}
use Rattle.response_laws.specs.Shares.{LowerSpendWithin}
use Rattle.response_laws.specs.Sums.{total_where, count}
use Rattle.response_laws.specs.Turns.{at_tick, activated, was_set}
use Rattle.response_laws.specs.Demand.{Costs, Start, IsEnough}
use Rattle.response_laws.specs.Bounded.{BoundsRounds, BoundsJoining}
use Rattle.response_laws.specs.Arrivals.{HasDistances, AreCharged, admission_window}
use Rattle.response_laws.specs.Starts.{HaveStarts}
use Rattle.response_laws.specs.Response.{HasPace, EntersOnce, IsCounted, LastsWithin, RespondsWithin}

-- a start has at least the arrivals that fit into it
abbrev pub HasArrivals : (load : List Entry) (late heaviest : ℕ) → Start → Type 0
HasArrivals load late heaviest s = (line : ℕ) → arrivals_within load (admission_window late heaviest s.counts) line ≤ s.inflow.arrivals line

-- Where a counter ticks in a part of the run no more often than it has arrivals, its alarms activate a task and set its events no more often. Where the
-- start is boot, this is said of the beginnings of the run alone.
pub record HasAlarms (run : List Stage) (s : Start) : Type 0 where
  pub acts : (c j : ℕ) (before xs behind : List Stage) → run ≡ before ++ (xs ++ behind) → (s.is_boot ≡ true → before ≡ []) → count (at_tick c) xs ≤ s.inflow.arrivals (counter_line c)
      → total_where (at_tick c) (activated j) xs ≤ s.inflow.alarm_acts c j
  pub sets : (c j : ℕ) (before xs behind : List Stage) → run ≡ before ++ (xs ++ behind) → (s.is_boot ≡ true → before ≡ []) → count (at_tick c) xs ≤ s.inflow.arrivals (counter_line c)
      → total_where (at_tick c) (was_set j) xs ≤ s.inflow.alarm_sets c j

-- A start with the arrivals and alarms that fit into it, and with what the costs say of a task that joins; and with enough, and no longer than r with what stands in front where task h has a
-- round in it, if it counts.
pub record IsStartFor (config : Config) (load : List Entry) (late heaviest h r : ℕ) (cuts : ℕ → Bool) (once boot : Bool) (costs : Costs) (run : List Stage) (s : Start) : Type 0 where
  pub arrivals : HasArrivals load late heaviest s
  pub alarms : HasAlarms run s
  pub joining : BoundsJoining config h cuts costs run s
  pub enough : IsCounted boot s → IsEnough config h once costs s
  pub lasts : IsCounted boot s → LastsWithin h r s

-- In every run of well-formed task code whose arrivals keep a load, whose rounds are within the costs, and in which lower tasks come into busy periods as
-- one of the starts says, task h responds within the longest of the starts in which it has a round, and an event.
abbrev pub RespondsUnderLoad : Type 0
RespondsUnderLoad = (config : Config) (app : App) (load : List Entry) (n late more heaviest longest : ℕ) (arrivals : List Arrival) (events : List Stamped) (h r : ℕ)
    (cuts : ℕ → Bool) (costs : Costs) (once boot : Bool) (starts : ℕ) (start : ℕ → Start)
    → (once ≡ true → EntersOnce config h cuts) → WellFormed config app → OsekRun config app events → InTime config n arrivals events → HasPace n late more events → more ≤ heaviest
    → AreCharged heaviest (run_stages config app events) → HasDistances load → KeepDistances load arrivals
    → AllByRecursion (IsShared config) (run_stages config app events) → LowerSpendWithin config h longest (run_stages config app events)
    → BoundsRounds config h cuts costs (run_stages config app events) → HaveStarts config h longest late once starts start (run_stages config app events)
    → ((i : ℕ) → i < starts → IsStartFor config load late heaviest h r cuts once boot costs (run_stages config app events) (start i))
    → RespondsWithin config app n more h r boot events
