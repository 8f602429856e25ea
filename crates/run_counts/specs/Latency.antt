-- How long the task of highest priority may wait for its entry, by the weights of items and events.
use Rattle.std.specs.Prelude.{ℕ, ◌+◌, ◌<◌, ◌≤◌, ◌≡◌, ◌⊎◌, List, [], ◌∷◌, ◌++◌, true, false}
use Rattle.std.specs.List.{AllByRecursion}
use Rattle.sloth_base.specs.declared.config.Config.{Config}
use Rattle.sloth_base.specs.declared.app.App.{App}
use Rattle.sloth_base.specs.declared.service.Event.{Event}
use Rattle.sloth_base.specs.declared.service.Event.TheVariants as event
use Rattle.sloth_base.specs.declared.service.Stamped.{Stamped}
use Rattle.sloth_base.specs.Events.{is_boot}
use Rattle.code_lengths.specs.LongestPaths.{tick_path}
use Rattle.code_rules.specs.WellFormed.{WellFormed}
use Rattle.osek_scheduler.specs.State.{System, opening}
use Rattle.osek_scheduler.specs.InTime.{InTime, is_admit}
use Rattle.osek_scheduler.specs.Runs.{AreStepsTo, OsekRun}
use Rattle.osek_blocking.specs.Blocking.{events_up_to_entry, MakesReady}
use Rattle.bound_rules.specs.declared.bound.BodyWeights.{BodyWeights}
use Rattle.bound_rules.specs.Weights.{going_weight, ending_weight}
use Rattle.sim_induction.specs.Events.{enter_counts}
use Rattle.sim_induction.specs.Pace.{ItemSizes}
use Rattle.sim_induction.specs.Paced.{AreStretchesWithin, KeepsPace}
use Rattle.sim_induction.specs.Weighed.{AreWithinWeights}
use Rattle.run_counts.specs.EntryLatency.{IsHighest, EntersBefore}
use Rattle.run_counts.specs.Spending.{NoSumIsAbove, NoneIsLower, WeighsItems}
use Rattle.run_counts.specs.Rounds.{WeighsEndings}
use Rattle.sloth_base.specs.declared.service.Arrival.{Arrival}

-- ---- ticks

-- what a tick takes at most, with the longest item in front of it
abbrev pub tick_weight : Config → (longest : ℕ) → Event → ℕ
tick_weight config longest (event.Tick c) = longest + tick_path config c
tick_weight config longest _ = 0

-- what the ticks among these events take
abbrev pub tick_weights : Config → (longest : ℕ) → List Stamped → ℕ
tick_weights config longest [] = 0
tick_weights config longest (e ∷ events) = tick_weight config longest e.event + tick_weights config longest events

-- ---- what stands in front of the entry

-- What a lower task takes while task h, the highest, is Ready is no more than `lower`: an item behind which it goes on, and a section; or an item with
-- which it leaves. Nothing, where no task is lower.
pub record TakesWithin (config : Config) (app : App) (weights : List BodyWeights) (h lower : ℕ) : Type 0 where
  pub heaviest : ℕ
  pub most : ℕ
  pub items : (f i : ℕ) → going_weight weights f i ≤ heaviest
  pub none_above : NoSumIsAbove config app weights h most
  pub sum : heaviest + most ≤ lower
  pub leaves : (f i : ℕ) → ending_weight weights f i ≤ lower

-- so many counts may pass from an arrival to the end of the entry, ticks left out: the stretch that is running, what lower tasks take, and the entry
-- behind the longest item
abbrev pub weighed_latency : (running lower longest entry : ℕ) → ℕ
weighed_latency running lower longest entry = running + lower + (longest + entry)

-- an entry of the task takes no more
abbrev pub IsEntryLimit : Config → App → (h entry : ℕ) → Type 0
IsEntryLimit config app h entry = (enter_counts config app true h ≤ entry) × (enter_counts config app false h ≤ entry)

-- boot has ended before the moment
abbrev pub IsBehindBoot : (moment : ℕ) → List Stamped → Type 0
IsBehindBoot moment before = AllByRecursion (λ e. is_boot e.event ≡ true → e.stamp.at < moment) before

-- From the moment of an arrival behind boot that makes the task of highest priority Ready its entry ends within these counts and those of the ticks on
-- the way, if the run has those of one stretch more.
abbrev pub EntersByWeights : Config → App → (weights : List BodyWeights) → (longest n : ℕ) → List Stamped → Type 0
EntersByWeights config app weights longest n events =
    (before behind : List Stamped) (made : Stamped) (h running lower entry : ℕ) (found s : System) → events ≡ before ++ made ∷ behind
    → AreStepsTo config app before (opening config app) found → MakesReady config app h made.event found s → is_admit made ≡ true
    → IsHighest config h → IsBehindBoot made.stamp.at before
    → 1 < running → AreStretchesWithin config app running → TakesWithin config app weights h lower ⊎ (NoneIsLower config h × (lower ≡ 0)) → IsEntryLimit config app h entry
    → made.stamp.at + (weighed_latency running lower longest entry + tick_weights config longest (events_up_to_entry h behind)) + running ≤ n
    → EntersBefore h (made.stamp.at + (weighed_latency running lower longest entry + tick_weights config longest (events_up_to_entry h behind))) behind

-- in every run in time that keeps the pace, within the weights of its events
abbrev pub RunsEnterByWeights : Type 0
RunsEnterByWeights = (config : Config) (app : App) (size : ItemSizes) (longest n : ℕ) (weights : List BodyWeights) (arrivals : List Arrival) (events : List Stamped)
    → WellFormed config app → OsekRun config app events → InTime config n arrivals events
    → KeepsPace config app size longest n events → AreWithinWeights config app events
    → WeighsItems app size weights → WeighsEndings app size weights
    → EntersByWeights config app weights longest n events
