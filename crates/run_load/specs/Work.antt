-- The first round that is above the work which a load says of its task.
use Rattle.std.specs.Prelude.{ℕ, zero, suc, ◌+◌, ◌&&◌, Bool, false, cond, ltb, List, [], ◌∷◌, Option, Some, None, unwrap_or}
use Rattle.sloth_base.specs.declared.config.Config.{Config}
use Rattle.sloth_base.specs.declared.app.App.{App}
use Rattle.sloth_base.specs.declared.service.Event.{Event}
use Rattle.sloth_base.specs.declared.service.Stamped.{Stamped}
use Rattle.load_text.specs.declared.load_line.Entry.{Entry}
use Rattle.load_text.specs.Loads.{work}
use Rattle.run_counts.specs.Stages.{is_entry}
use Rattle.run_counts.specs.Rounds.{goes_on_waiting, is_left}
use Rattle.run_load.specs.declared.watch.Watched.{Watched}
use Rattle.run_load.specs.declared.work.Excess.{Excess}
use Rattle.run_load.specs.Watched.{watched_run}

-- ---- one task

-- The own counts of the round of task t that is open behind an event, if one is; so many were open up to the event.
abbrev pub open_behind : (cuts : Bool) → (t : ℕ) → (begun : Option ℕ) → Event → Option ℕ
open_behind cuts t begun e =
    cond (cuts && goes_on_waiting t e) (Some 0) (cond (is_left t e) None (cond (is_entry t e) (Some (unwrap_or begun 0)) begun))

-- with those of one event more
abbrev pub with_own : (begun : Option ℕ) → (own : ℕ) → Option ℕ
with_own (Some counts) own = Some (counts + own)
with_own None own = None

-- a round is open, and above the limit
abbrev pub is_above : (begun : Option ℕ) → (limit : ℕ) → Bool
is_above (Some counts) limit = ltb limit counts
is_above None limit = false

-- the event, at this place, with which a round is above the limit
abbrev pub above : (t limit : ℕ) → (begun : Option ℕ) → (place : ℕ) → Watched → Excess
above t limit begun place w = record { task = t; place = place; at = w.event.stamp.at; own = unwrap_or begun 0; limit = limit }

-- the first such event, of these from this place on, where so many counts are open
abbrev pub first_above : (cuts : Bool) → (t limit : ℕ) → (begun : Option ℕ) → (place : ℕ) → List Watched → Option Excess
first_above cuts t limit begun place [] = None
first_above cuts t limit begun place (w ∷ ws) =
    cond (is_above (with_own begun w.own) limit) (Some (above t limit (with_own begun w.own) place w))
    (first_above cuts t limit (open_behind cuts t (with_own begun w.own) w.event.event) (place + 1) ws)

-- that of task t in a run, where the load limits its work
abbrev pub above_limit : Config → App → (cuts : Bool) → (t : ℕ) → List Stamped → Option ℕ → Option Excess
above_limit config app cuts t events (Some limit) = first_above cuts t limit None 0 (watched_run config app t events)
above_limit config app cuts t events None = None

abbrev pub task_above : Config → App → List Entry → (cuts : ℕ → Bool) → (t : ℕ) → List Stamped → Option Excess
task_above config app load cuts t events = above_limit config app (cuts t) t events (work load t)

-- ---- all

-- the earlier of both, if there is one; of one event the first
abbrev pub earlier : Option Excess → Option Excess → Option Excess
earlier (Some one) (Some other) = cond (ltb other.place one.place) (Some other) (Some one)
earlier (Some one) None = Some one
earlier None other = other

-- the earliest of those of the first tasks, so many of them
abbrev pub above_among : Config → App → List Entry → (cuts : ℕ → Bool) → List Stamped → (count : ℕ) → Option Excess
above_among config app load cuts events zero = None
above_among config app load cuts events (suc t) = earlier (above_among config app load cuts events t) (task_above config app load cuts t events)
