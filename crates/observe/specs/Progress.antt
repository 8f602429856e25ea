-- An observer that is fed one step at a time.
use Rattle.std.specs.Prelude.{ℕ, Bool, true, false, ◌≡◌, ◌+◌, ◌-◌, ◌≤◌, ◌==◌, ◌&&◌, ◌||◌, nat_le, not, is_some, if◌then◌else◌, List, [], ◌∷◌, ◌++◌, map, filter, take_while, length, take, drop, replicate, Option, Some, None}
use Rattle.sloth_base.specs.declared.service.Arrival.{Arrival}
use Rattle.sloth_base.specs.declared.service.Stamped.{Stamped}
use Rattle.sloth_base.specs.declared.image.Mark.{Mark}
use Rattle.sloth_base.specs.declared.image.MarkKind.{MarkKind}
use Rattle.sloth_base.specs.declared.image.MarkKind.TheVariants as kind
use Rattle.sloth_base.specs.declared.numbers.Step.{Step}
use Rattle.sloth_base.specs.Arrivals.{AreRisingMoments}
use Rattle.observe.specs.declared.observing.Observer.{Observer}
use Rattle.observe.specs.Pieces.{begins, cut_off_steps}
use Rattle.observe.specs.Observe.{View, mark_at, outside_events, stretch_event, stamp, admission, first_masked_moment, observe}
use Rattle.observe.specs.Touches.{was_touched, noted_touches, IsTouchTable}

-- an observer without its references, its view and its list of arrivals
pub record Progress : Type 0 where
  -- the count that it expects next
  pub expected : ℕ
  -- the arrivals of that moment and of later ones
  pub coming : List Arrival
  -- the first step of the open stretch
  pub first : Option Step
  -- the arrivals from the first masked moment of that stretch on
  pub inside : List Arrival
  -- for each line the count after the last step of that stretch that touched it, or 0
  pub touched : List ℕ
  -- what is to be handed out: the admits of found arrivals, of early ones, the event, the admits of late ones
  pub found : List Arrival
  pub before : List Arrival
  pub event : Option Stamped
  pub after : List Arrival

-- what an observer keeps
abbrev pub progress_of : Observer → Progress
progress_of o = record {
  expected = o.expected;
  coming = o.coming.now;
  first = o.first;
  inside = o.inside.now;
  touched = o.touched;
  found = o.found.now;
  before = o.before.now;
  event = o.event;
  after = o.after.now;
}

-- ---- what other crates name of an observer

-- what an observer observes by
abbrev pub view_of : Observer → View
view_of o = o.view

-- the arrivals that an observer was made with
abbrev pub arrivals_of : Observer → List Arrival
arrivals_of o = o.arrivals.now

-- the count that it expects next
abbrev pub expected_count : Observer → ℕ
expected_count o = o.expected

-- ---- what is still to be handed out

-- the list of what there is
abbrev pub one_or_none : Option Stamped → List Stamped
one_or_none None = []
one_or_none (Some what) = what ∷ []

-- the events that are still to be told
abbrev pub left_over_events : View → Progress → List Stamped
left_over_events view p =
    map (admission view) p.found
    ++ (map (admission view) (filter (was_touched p.touched) p.before)
    ++ (one_or_none p.event
    ++ map (admission view) (filter (λ arrival. not (was_touched p.touched arrival)) p.after)))

-- the finished events that the observer has not handed out
abbrev pub remaining : Observer → List Stamped
remaining o = left_over_events (view_of o) (progress_of o)

-- ---- one step more

-- the arrivals of this moment or earlier, and those of later moments
abbrev pub arrivals_due : ℕ → List Arrival → List Arrival
arrivals_due count coming = take_while (λ arrival. nat_le arrival.at count) coming

-- the arrivals behind those of a count
abbrev pub arrivals_behind : ℕ → List Arrival → List Arrival
arrivals_behind count coming = drop (length (arrivals_due count coming)) coming

-- of the arrivals from the start of a stretch on those inside it, where these are coming behind it
abbrev pub arrivals_within : List Arrival → List Arrival → List Arrival
arrivals_within inside coming = take (length inside - length coming) inside

-- after the last step of a stretch
abbrev pub progress_behind_stretch : View → Progress → Step → Step → Progress
progress_behind_stretch view p first last = record p {
  first = None;
  before = arrivals_within p.inside p.coming;
  event = Some (stamp first.count last.count (stretch_event view first last));
  after = arrivals_within p.inside p.coming;
}

-- the step's line is noted
abbrev pub noted_progress : Progress → Step → Progress
noted_progress p step = record p { touched = noted_touches step.touched step.count p.touched }

-- the stretch of the first step goes on with this one
abbrev pub joined_progress : View → Progress → Step → Step → Progress
joined_progress view p first step =
    if step.enabled_after then progress_behind_stretch view (noted_progress p step) first step else record (noted_progress p step) { first = Some first }

-- a count and its arrivals have passed
abbrev pub passed_count : Progress → ℕ → Progress
passed_count p count = record p { expected = p.expected + 1; coming = arrivals_behind count p.coming; found = []; before = []; event = None; after = [] }

-- those of a step
abbrev pub passed_progress : Progress → Step → Progress
passed_progress p step = passed_count p step.count

-- after the first step of a stretch
abbrev pub begun_progress : Progress → Step → Progress
begun_progress p step = record (passed_progress p step) {
  touched = replicate 256 0;
  inside = if step.enabled_before then arrivals_behind step.count p.coming else p.coming;
  found = if step.enabled_before then arrivals_due step.count p.coming else [];
}

-- the only element
abbrev pub only_element : List Stamped → Option Stamped
only_element [] = None
only_element (what ∷ more) = Some what

-- a mark of this kind shows an event where no stretch is open
abbrev pub is_shown_kind : MarkKind → Bool
is_shown_kind kind.Item = true
is_shown_kind kind.Idle = true
is_shown_kind _ = false

-- a step at this mark shows an event where no stretch is open: that of an item, or of the idle loop
abbrev pub is_shown : Option Mark → Bool
is_shown None = false
is_shown (Some mark) = is_shown_kind mark.kind

-- after a step outside the stretches
abbrev pub outside_progress : View → Progress → Step → Progress
outside_progress view p step = record (passed_progress p step) {
  found = arrivals_due step.count p.coming;
  event = only_element (map (stamp step.count step.count) (outside_events (mark_at view step.pc) view step));
}

-- after a step; the first step of the stretch that it may be in is given
abbrev pub advanced_progress_from : Option Step → View → Progress → Step → Progress
advanced_progress_from None view p step = if begins step then joined_progress view (begun_progress p step) step step else outside_progress view p step
advanced_progress_from (Some first) view p step = joined_progress view (passed_progress p step) first step

-- after a step
abbrev pub advanced_progress : View → Progress → Step → Progress
advanced_progress view p step = advanced_progress_from p.first view p step

-- all but what is to be handed out
abbrev pub settled_progress : Progress → Progress
settled_progress p = record p { found = []; before = []; event = None; after = [] }

-- ---- a step by its parts

-- a stretch begins with a step of this count, line and MIE, where none is open
abbrev pub begins_by : (count : ℕ) → Option ℕ → (enabled_before enabled_after : Bool) → Bool
begins_by count entered enabled_before enabled_after = (count == 0) || is_some entered || (enabled_before && not enabled_after)

-- the step of these parts
abbrev pub step_of_parts : (count pc : ℕ) (entered : Option ℕ) (enabled_before enabled_after : Bool) (touched : Option ℕ) (cur_before cur_after : ℕ) → List ℕ → Step
step_of_parts count pc entered enabled_before enabled_after touched cur_before cur_after regs = record {
  count = count;
  pc = pc;
  entered = entered;
  enabled_before = enabled_before;
  enabled_after = enabled_after;
  cur_before = cur_before;
  cur_after = cur_after;
  touched = touched;
  regs = regs;
}

-- ---- what holds of an observer

-- the arrivals of this moment and of later ones
abbrev pub arrivals_from : ℕ → List Arrival → List Arrival
arrivals_from moment arrivals = filter (λ arrival. nat_le moment arrival.at) arrivals

-- what is kept of the stretch that began with `first`, after these steps of it
pub record IsStretch (arrivals : List Arrival) (p : Progress) (first : Step) (steps : List Step) : Type 0 where
  pub inside : p.inside ≡ arrivals_from (first_masked_moment first) arrivals
  pub begun : first_masked_moment first ≤ p.expected
  pub tells : IsTouchTable p.touched p.expected steps

-- the open stretch is that of these steps
abbrev pub IsOpen : List Arrival → Progress → Option Step → List Step → Type 0
IsOpen arrivals p None [] = Unit {0}
IsOpen arrivals p None (step ∷ steps) = ⊥
IsOpen arrivals p (Some first) [] = ⊥
IsOpen arrivals p (Some first) (step ∷ steps) = (first ≡ step) × IsStretch arrivals p first (step ∷ steps)

-- what is kept after these steps, when these events have been told
pub record IsProgress (view : View) (arrivals : List Arrival) (p : Progress) (steps : List Step) (events : List Stamped) : Type 0 where
  pub ordered : AreRisingMoments 0 arrivals
  pub told : events ++ left_over_events view p ≡ observe view arrivals steps
  pub expected : p.expected ≡ length steps
  pub coming : p.coming ≡ arrivals_from p.expected arrivals
  pub stretch : IsOpen arrivals p p.first (cut_off_steps [] steps)

-- The observer was fed these steps and has handed out these events: they are the front of the run's events, of
-- which the rest remains; it expects the next count; and its open stretch is that of the steps.
abbrev pub HasProgress : Observer → List Step → List Stamped → Type 0
HasProgress o steps events = IsProgress (view_of o) (arrivals_of o) (progress_of o) steps events
