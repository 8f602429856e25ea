-- What of the counts of a stage is a task's own, what its entry's, and what lower tasks have.
use Rattle.std.specs.Prelude.{ℕ, ◌<◌, ◌≤◌, ◌≡◌, List, ◌++◌, cond, length}
use Rattle.sloth_base.specs.declared.config.Config.{Config}
use Rattle.sloth_base.specs.declared.app.App.{App}
use Rattle.sloth_base.specs.declared.service.Arrival.{Arrival}
use Rattle.sloth_base.specs.declared.service.Stamped.{Stamped}
use Rattle.code_rules.specs.WellFormed.{WellFormed}
use Rattle.osek_scheduler.specs.InTime.{InTime}
use Rattle.osek_scheduler.specs.Runs.{OsekRun}
use Rattle.sim_induction.specs.Pace.{ItemSizes, AreAtMost}
use Rattle.sim_induction.specs.Spent.{SpendsOnItems}
use Rattle.run_counts.specs.Stages.{Stage, charged, own, run_stages}
use Rattle.run_counts.specs.Rounds.{total}
use Rattle.response_laws.specs.Sums.{sum_below, count, is_over}
use Rattle.response_laws.specs.Turns.{at_entry, is_other}

-- what of a task's own counts a stage has; an entry of the task has none
abbrev pub share_of : Config → (t : ℕ) → Stage → ℕ
share_of config t x = cond (at_entry t x) 0 (own config t x)

-- the own counts of the tasks below the static priority of h
abbrev pub lower_own : Config → (h : ℕ) → Stage → ℕ
lower_own config h x = sum_below (length config.tasks) (λ t. cond (is_over config h t) 0 (own config t x))

-- the counts of a stage that no task of at least the static priority of h spends, nor an entry of such a task, nor a tick
abbrev pub lower_counts : Config → (h : ℕ) → Stage → ℕ
lower_counts config h x = cond (is_other config h x) (charged x) (lower_own config h x)

-- Where no event is a lower task's, lower tasks have no more counts than this: those of the item that one of them has begun, in front of the entries and
-- ticks that preempt it.
abbrev pub LowerSpendWithin : Config → (h most : ℕ) → List Stage → Type 0
LowerSpendWithin config h most run =
    (before xs behind : List Stage) → run ≡ before ++ (xs ++ behind) → count (is_other config h) xs ≤ 0 → total (lower_own config h) xs ≤ most

-- So it is in every run in time in which no task spends more on an item than that has instructions, where no item has more than these.
abbrev pub LowerTasksSpendOneItem : Type 0
LowerTasksSpendOneItem = (config : Config) (app : App) (size : ItemSizes) (longest n h : ℕ) (arrivals : List Arrival) (events : List Stamped)
    → WellFormed config app → OsekRun config app events → InTime config n arrivals events → AreAtMost size longest
    → ((t : ℕ) → t < length config.tasks → SpendsOnItems config app size longest t events) → LowerSpendWithin config h longest (run_stages config app events)
