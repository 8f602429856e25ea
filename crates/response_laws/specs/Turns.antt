-- What stages do: entries, ticks and admissions, rounds that begin, and what makes a task Ready.
use Rattle.std.specs.Prelude.{ℕ, ◌==◌, ◌&&◌, ◌||◌, not, List, [], ◌∷◌, Bool, true, false, cond, Option, Some, None, bit_or}
use Rattle.sloth_base.specs.Options.{is_number}
use Rattle.sloth_base.specs.declared.config.Config.{Config}
use Rattle.sloth_base.specs.declared.service.Event.{Event}
use Rattle.sloth_base.specs.declared.service.Event.TheVariants as event
use Rattle.sloth_base.specs.Events.{admitted_line, named_task}
use Rattle.osek_scheduler.specs.State.{Task, task}
use Rattle.osek_scheduler.specs.Next.{is_ready}
use Rattle.sim_induction.specs.Events.{has_frames}
use Rattle.run_counts.specs.Stages.{Stage, is_turn, is_entry}
use Rattle.run_counts.specs.Rounds.{goes_on_waiting}
use Rattle.response_laws.specs.Sums.{is_over}

-- ---- events

-- the counter that ticks
abbrev pub ticking_counter : Event → Option ℕ
ticking_counter (event.Tick c) = Some c
ticking_counter _ = None

-- the event comes in a turn of task t
abbrev pub in_turn : (t : ℕ) → Stage → Bool
in_turn t x = is_turn t x.stamped.event

-- the event enters task t
abbrev pub at_entry : (t : ℕ) → Stage → Bool
at_entry t x = is_entry t x.stamped.event

-- the event is a tick of counter c
abbrev pub at_tick : (c : ℕ) → Stage → Bool
at_tick c x = is_number c (ticking_counter x.stamped.event)

-- the event is an admission of this line
abbrev pub at_admission : (line : ℕ) → Stage → Bool
at_admission line x = is_number line (admitted_line x.stamped.event)

-- it is no task of at least the static priority of h
abbrev pub is_none_over : Config → (h : ℕ) → Option ℕ → Bool
is_none_over config h None = true
is_none_over config h (Some t) = not (is_over config h t)

-- the event is neither an admission nor a tick, nor the entry or in a turn of a task of at least the static priority of h
abbrev pub is_other_event : Config → (h : ℕ) → Event → Bool
is_other_event config h (event.Admit t) = false
is_other_event config h (event.Due c) = false
is_other_event config h (event.Tick c) = false
is_other_event config h e = is_none_over config h (named_task e)

abbrev pub is_other : Config → (h : ℕ) → Stage → Bool
is_other config h x = is_other_event config h x.stamped.event

-- ---- rounds

-- the second is as the first says
abbrev pub as_said : (again : Bool) → Bool → Bool
as_said true b = b
as_said false b = not b

-- the event enters task t anew, or behind a wait
abbrev pub at_entry_for : (again : Bool) → (t : ℕ) → Stage → Bool
at_entry_for again t x = at_entry t x && as_said again (has_frames (task x.found t).frames)

-- a first round of task t begins behind the event
abbrev pub begins_first : (t : ℕ) → Stage → Bool
begins_first t x = at_entry_for false t x

-- a round behind a WaitEvent begins: the task is entered behind it, or goes on in its turn where that cuts it into rounds
abbrev pub begins_next : (cuts : Bool) → (t : ℕ) → Stage → Bool
begins_next cuts t x = at_entry_for true t x || (cuts && goes_on_waiting t x.stamped.event)

-- The stages up to where the next round of task t begins. Those of them that are in a turn of t are what is left of the round that they begin in.
abbrev pub round_behind : (cuts : Bool) → (t : ℕ) → List Stage → List Stage
round_behind cuts t [] = []
round_behind cuts t (x ∷ xs) = cond (at_entry t x) [] (x ∷ cond (cuts && goes_on_waiting t x.stamped.event) [] (round_behind cuts t xs))

-- a number of each stage in a turn of task t
abbrev pub if_turn : (t : ℕ) → (Stage → ℕ) → Stage → ℕ
if_turn t f x = cond (in_turn t x) (f x) 0

-- of each entry of it
abbrev pub if_entry : (t : ℕ) → (Stage → ℕ) → Stage → ℕ
if_entry t f x = cond (at_entry t x) (f x) 0

-- ---- makings

-- the task is Ready, to begin anew or to go on behind a wait
abbrev pub is_ready_for : (again : Bool) → Task → Bool
is_ready_for again own = is_ready own.state && as_said again (has_frames own.frames)

-- the event makes task j so
abbrev pub is_made : (again : Bool) → (j : ℕ) → Stage → Bool
is_made again j x = not (is_ready_for again (task x.found j)) && is_ready_for again (task x.next j)

-- the event makes task j Ready, in either way
abbrev pub makes_ready : (j : ℕ) → Stage → Bool
makes_ready j x = not (is_ready (task x.found j).state) && is_ready (task x.next j).state

-- the event is the arrival of a counter
abbrev pub is_counter : Event → Bool
is_counter (event.Due c) = true
is_counter e = false

-- the event makes task j Ready, or a counter due
abbrev pub comes_at : (j : ℕ) → Stage → Bool
comes_at j x = makes_ready j x || is_counter x.stamped.event

-- 1 where the event makes task j Ready to begin anew, else 0
abbrev pub activated : (j : ℕ) → Stage → ℕ
activated j x = cond (is_made false j x) 1 0

-- the second mask of events has all of the first, and more
abbrev pub has_grown : (old new : ℕ) → Bool
has_grown old new = (bit_or old new == new) && not (new == old)

-- the event sets an event of task j that was not set, or makes it Ready to go on behind a wait
abbrev pub is_set : (j : ℕ) → Stage → Bool
is_set j x = is_made true j x || has_grown (task x.found j).events (task x.next j).events

-- 1 where it does, else 0
abbrev pub was_set : (j : ℕ) → Stage → ℕ
was_set j x = cond (is_set j x) 1 0
