-- The pace of a run: how soon its events end behind one another.
use Rattle.std.specs.Prelude.{ℕ, ◌+◌, ◌-◌, ◌≤◌, ◌≡◌, List, [], ◌∷◌, Bool, true, false, cond}
use Rattle.sloth_base.specs.declared.config.Config.{Config}
use Rattle.sloth_base.specs.declared.service.Event.{Event}
use Rattle.sloth_base.specs.declared.service.Event.TheVariants as event
use Rattle.sloth_base.specs.declared.service.Stamped.{Stamped}
use Rattle.sloth_base.specs.Events.{is_boot}
use Rattle.sloth_base.specs.Stretches.{longest_stretch}
use Rattle.sloth_base.specs.Limits.{item_counts, unseen_counts}
use Rattle.osek_scheduler.specs.InTime.{is_admit}

-- an event whose stretch begins with the taking of a line
abbrev pub takes_line : Event → Bool
takes_line (event.Enter t) = true
takes_line (event.Tick c) = true
takes_line _ = false

-- the counts of an event, and the most before it that show none
abbrev pub own_counts : Stamped → ℕ
own_counts e = unseen_counts + (e.stamp.at + 1 - e.stamp.from)

-- the same of any event behind boot: the tick of the counter with the most alarms may be the longest
abbrev pub entry_counts : Config → ℕ
entry_counts config = unseen_counts + longest_stretch config

-- the most counts from behind an event to the end of this one
abbrev pub event_counts : Stamped → ℕ
event_counts e = cond (takes_line e.event) (own_counts e) item_counts

-- the last count of these events, admits left out; `at` was that of the events before
abbrev pub last_count : (at : ℕ) → List Stamped → ℕ
last_count at [] = at
last_count at (e ∷ events) = last_count (cond (is_admit e) at e.stamp.at) events

-- the event, where it is neither the boot nor an admit, ends soon behind count `at`
abbrev pub EndsSoon : (at : ℕ) → Stamped → Type 0
EndsSoon at e = is_admit e ≡ false → is_boot e.event ≡ false → e.stamp.at ≤ at + event_counts e

-- each event but the boot ends soon behind the event before it, admits left out
abbrev pub IsPaced : (at : ℕ) → List Stamped → Type 0
IsPaced at [] = Unit {0}
IsPaced at (e ∷ events) = EndsSoon at e × IsPaced (cond (is_admit e) at e.stamp.at) events
