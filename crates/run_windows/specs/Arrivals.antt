-- Arrivals, expiries of alarms, and what they make within so many counts.
use Rattle.std.specs.Prelude.{ℕ, ◌+◌, ◌-◌, ◌*◌, ◌/◌, ◌==◌, ◌&&◌, not, nat_lt, min, cond, Bool, List, [], ◌∷◌, Option, Some, None}
use Rattle.run_windows.specs.declared.costs.CounterCosts.{CounterCosts}
use Rattle.run_windows.specs.declared.costs.AlarmCosts.{AlarmCosts}

-- the most arrivals within so many counts, where two are this far apart
abbrev pub arrivals : (counts : ℕ) → (distance : Option ℕ) → ℕ
arrivals counts None = 0
arrivals counts (Some d) = (counts + d - 1) / d

-- ---- alarms

-- the first expiries behind boot, within so many ticks, of an alarm that starts with the system
abbrev pub booted_expiries : (time cycle ticks : ℕ) → ℕ
booted_expiries time cycle ticks = cond (nat_lt ticks time) 0 (cond (cycle == 0) 1 (1 + (ticks - time) / cycle))

-- those within any so many ticks
abbrev pub cyclic_expiries : (cycle ticks : ℕ) → ℕ
cyclic_expiries cycle ticks = cond (cycle == 0) (min ticks 1) (arrivals ticks (Some cycle))

-- The most expiries of an alarm within so many ticks, behind boot or anywhere: each tick, where an item sets it; none, where it does not start with the system.
abbrev pub expiries : (boot : Bool) → AlarmCosts → (ticks : ℕ) → ℕ
expiries boot a ticks =
    cond a.is_set ticks (cond (a.time == 0) 0 (cond boot (booted_expiries a.time a.cycle ticks) (cyclic_expiries a.cycle ticks)))

-- an alarm of counter c that sets events of task j, or activates it
abbrev pub acts_on : (sets : Bool) → (c j : ℕ) → AlarmCosts → Bool
acts_on sets c j a = (a.counter == c) && ((a.task == j) && cond sets a.sets_events (not a.sets_events))

-- the expiries of these alarms that do
abbrev pub expiring : (boot sets : Bool) → (c j ticks : ℕ) → List AlarmCosts → ℕ
expiring boot sets c j ticks [] = 0
expiring boot sets c j ticks (a ∷ alarms) = cond (acts_on sets c j a) (expiries boot a ticks) 0 + expiring boot sets c j ticks alarms

-- ---- ticks

-- How often the ticks of these counters, from counter c on, set events of task j, or activate it: each tick once.
abbrev pub ticking : (boot sets : Bool) → (j counts : ℕ) → List AlarmCosts → (c : ℕ) → List CounterCosts → ℕ
ticking boot sets j counts alarms c [] = 0
ticking boot sets j counts alarms c (counter ∷ counters) =
    min (arrivals counts counter.distance) (expiring boot sets c j (arrivals counts counter.distance) alarms)
    + ticking boot sets j counts alarms (c + 1) counters

-- the counts of the ticks of these counters
abbrev pub tick_counts : (counts : ℕ) → List CounterCosts → ℕ
tick_counts counts [] = 0
tick_counts counts (counter ∷ counters) = arrivals counts counter.distance * counter.tick + tick_counts counts counters
