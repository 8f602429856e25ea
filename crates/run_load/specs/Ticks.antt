-- How long ticks are seen to take in a run, from an arrival of their counter on.
use Rattle.std.specs.Prelude.{ℕ, ◌+◌, ◌-◌, ◌==◌, ◌&&◌, ◌||◌, not, max, Bool, false, cond, List, [], ◌∷◌}
use Rattle.sloth_base.specs.declared.service.Event.{Event}
use Rattle.sloth_base.specs.declared.service.Event.TheVariants as event
use Rattle.sloth_base.specs.declared.service.Stamped.{Stamped}
use Rattle.sloth_base.specs.Options.{is_number}
use Rattle.osek_scheduler.specs.InTime.{is_admit}
use Rattle.response_laws.specs.Turns.{ticking_counter}

-- the event is an arrival of counter c
abbrev pub arrives : (c : ℕ) → Event → Bool
arrives c (event.Due d) = d == c
arrives c _ = false

-- the event is a tick of counter c
abbrev pub ticks : (c : ℕ) → Event → Bool
ticks c e = is_number c (ticking_counter e)

-- after an event counter c is due: an arrival of it has come, and no tick since
abbrev pub is_due : (c : ℕ) → (due : Bool) → Event → Bool
is_due c due e = arrives c e || (due && not (ticks c e))

-- the count after an event, or, where it is an admission, which stands in another event, after those before it
abbrev pub end_count : (last : ℕ) → Stamped → ℕ
end_count last e = cond (is_admit e) last (e.stamp.at + 1)

-- The count after the first of these events that is a tick of counter c, or, where none is, after the last event; the events before these end before count `last`.
abbrev pub tick_end : (c last : ℕ) → List Stamped → ℕ
tick_end c last [] = last
tick_end c last (e ∷ es) = cond (ticks c e.event) (e.stamp.at + 1) (tick_end c (end_count last e) es)

-- from the first arrival of counter c since its last tick to that end, with these events behind it; 0 for another event
abbrev pub tick_time : (c : ℕ) → (due : Bool) → (last : ℕ) → Stamped → List Stamped → ℕ
tick_time c due last e es = cond (arrives c e.event && not due) (tick_end c last es - e.stamp.at) 0

-- the longest of these times
abbrev pub longest_tick : (c : ℕ) → (due : Bool) → (last : ℕ) → List Stamped → ℕ
longest_tick c due last [] = 0
longest_tick c due last (e ∷ es) = max (tick_time c due last e es) (longest_tick c (is_due c due e.event) (end_count last e) es)

-- that in a run
abbrev pub longest_tick_seen : (c : ℕ) → List Stamped → ℕ
longest_tick_seen c events = longest_tick c false 0 events
