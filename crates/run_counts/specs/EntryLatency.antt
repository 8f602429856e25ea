-- How long the task of highest priority may wait for its entry (OSEK OS 2.2.3, section 4.6).
use Rattle.std.specs.Prelude.{ℕ, ◌+◌, ◌*◌, ◌<◌, ◌≤◌, ◌≡◌, ◌≢◌, ◌&&◌, leb, max, List, [], ◌∷◌, ◌++◌, Bool, true, false, cond, length}
use Rattle.sloth_base.specs.declared.config.Config.{Config}
use Rattle.sloth_base.specs.declared.app.App.{App}
use Rattle.sloth_base.specs.declared.service.Event.{Event}
use Rattle.sloth_base.specs.declared.service.Event.TheVariants as event
use Rattle.sloth_base.specs.declared.service.Stamped.{Stamped}
use Rattle.sloth_base.specs.Events.{is_boot}
use Rattle.sloth_base.specs.declared.numbers.LineKind.TheVariants as line_of
use Rattle.sloth_base.specs.Stretches.{Boots, stretch_limit, entry_limit, longest_stretch}
use Rattle.sloth_base.specs.Limits.{item_counts}
use Rattle.osek_scheduler.specs.State.{System, opening}
use Rattle.osek_scheduler.specs.InTime.{is_admit}
use Rattle.osek_scheduler.specs.Runs.{AreStepsTo}
use Rattle.osek_scheduler.specs.Apart.{static_priority}
use Rattle.osek_blocking.specs.Blocking.{is_entry_of, events_up_to_entry, MakesReady}
use Rattle.osek_blocking.specs.Sections.{IsBound}
use Rattle.osek_blocking.specs.Pace.{entry_counts, own_counts}

-- every other task of the configuration is of lower static priority
abbrev pub IsHighest : Config → (h : ℕ) → Type 0
IsHighest config h = (t : ℕ) → t < length config.tasks → t ≢ h → static_priority config t < static_priority config h

-- the most counts of any stretch, that of boot too
abbrev pub any_stretch : Config → ℕ
any_stretch config = max (stretch_limit config Boots) (longest_stretch config)

-- The most counts of a stretch that may be running at a moment, behind these events: boot may be, where it ends at the moment or later.
abbrev pub running_limit : Config → (moment : ℕ) → List Stamped → ℕ
running_limit config moment [] = longest_stretch config
running_limit config moment (e ∷ before) =
    cond (is_boot e.event && leb moment e.stamp.at) (any_stretch config) (running_limit config moment before)

-- a counter ticks
abbrev pub is_tick : Event → Bool
is_tick (event.Tick c) = true
is_tick _ = false

-- the counts of the ticks among these events, and 40 for each
abbrev pub tick_counts : List Stamped → ℕ
tick_counts [] = 0
tick_counts (e ∷ events) = cond (is_tick e.event) (own_counts e) 0 + tick_counts events

-- A tick of a declared counter has no more counts than a stretch that begins with its line may have.
abbrev pub IsShortTick : Config → Stamped → Type 0
IsShortTick config e =
    (c : ℕ) → c < length config.counters → e.event ≡ event.Tick c → e.stamp.at < e.stamp.from + entry_limit config (line_of.Counter c)

-- the most counts from a moment to the end of the entry, ticks left out: the stretch that is running, an item for each event of the bound, and
-- the entry
abbrev pub latency : Config → (running bound : ℕ) → ℕ
latency config running bound = running + item_counts * bound + entry_counts config

-- the same with the ticks among the events up to the entry of task h, where the events `behind` follow one of the moment, and `before` come before it
abbrev pub latency_with_ticks : Config → (h bound moment : ℕ) → (before behind : List Stamped) → ℕ
latency_with_ticks config h bound moment before behind =
    latency config (running_limit config moment before) bound + tick_counts (events_up_to_entry h behind)

-- task h is entered among these events, for the first time, and its entry ends before this count
pub record EntersBefore (h limit : ℕ) (events : List Stamped) : Type 0 where
  pub entry : Stamped
  pub rest : List Stamped
  pub is_entry : is_entry_of h entry.event ≡ true
  pub first : events ≡ events_up_to_entry h events ++ entry ∷ rest
  pub in_time : entry.stamp.at < limit

-- From the moment of an arrival that makes the task of highest priority Ready its entry ends within its latency, the counts of the ticks on the
-- way and 40 for each of these, if the run has that many instructions.
abbrev pub EntersInTime : Config → App → (n : ℕ) → List Stamped → Type 0
EntersInTime config app n events =
    (before behind : List Stamped) (made : Stamped) (h b : ℕ) (found s : System) → events ≡ before ++ made ∷ behind
    → AreStepsTo config app before (opening config app) found → MakesReady config app h made.event found s → is_admit made ≡ true
    → IsHighest config h → IsBound config app h b → made.stamp.at + latency_with_ticks config h b made.stamp.at before behind ≤ n
    → EntersBefore h (made.stamp.at + latency_with_ticks config h b made.stamp.at before behind) behind
