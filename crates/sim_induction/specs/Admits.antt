-- Arrivals as the abstract scheduler sees them.
use Rattle.std.specs.Prelude.{ℕ, ◌+◌, ◌-◌, ◌≤◌, ◌≡◌, if◌then◌else◌, nat_lt, List, [], ◌∷◌, ◌++◌, map, length, All}
use Rattle.sloth_base.specs.declared.config.Config.{Config}
use Rattle.sloth_base.specs.declared.app.App.{App}
use Rattle.sloth_base.specs.declared.service.Arrival.{Arrival}
use Rattle.sloth_base.specs.declared.service.Event.{Event}
use Rattle.sloth_base.specs.declared.service.Event.TheVariants as event
use Rattle.sloth_base.specs.declared.service.Stamped.{Stamped}
use Rattle.sloth_base.specs.Arrivals.{moments, AreRisingMoments}
use Rattle.sloth_base.specs.Owners.{first_counter_line, owners_in, IsOwned}
use Rattle.observe.specs.Observe.{View, stamp}
use Rattle.osek_scheduler.specs.State.{System}
use Rattle.osek_scheduler.specs.Steps.{admitted_state, due_state}
use Rattle.sim_induction.specs.Pace.{ItemSizes}
use Rattle.masked_code.specs.Trace.{Trace, touched_lines_of, untouched_lines_of}

-- what is fixed in a run: the system, how long its items are, what the run is observed by, and what arrives
pub record Setting : Type 0 where
  pub config : Config
  pub app : App
  pub size : ItemSizes
  pub view : View
  pub arrivals : List Arrival

-- The run is observed by the owners of lines, each line that arrives has one, and the moments, from 1 on, never fall. No task's line is a counter's.
pub record IsSetting (given : Setting) : Type 0 where
  pub owners : given.view.owners ≡ owners_in given.config
  pub few_tasks : length given.config.tasks ≤ first_counter_line
  pub ordered : AreRisingMoments 1 given.arrivals
  pub lines : All (λ a. IsOwned (owners_in given.config) a.line) given.arrivals

-- the lines that arrive before the instruction of a count
abbrev pub lines_at : List Arrival → ℕ → List ℕ
lines_at arrivals count = map (λ a. a.line) (moments count (count + 1) arrivals)

-- the event of an arrival of a line that has an owner: its task is activated, or its counter is due
abbrev pub line_event : ℕ → Event
line_event line = if nat_lt line first_counter_line then event.Admit line else event.Due (line - first_counter_line)

-- the system after the line arrived
abbrev pub with_arrival : ℕ → System → System
with_arrival line s = if nat_lt line first_counter_line then admitted_state line s else due_state (line - first_counter_line) s

-- the same after these lines, in order
abbrev pub with_admits : List ℕ → System → System
with_admits [] s = s
with_admits (line ∷ lines) s = with_admits lines (with_arrival line s)

-- the event of an arrival
abbrev pub admit_event : Arrival → Stamped
admit_event a = stamp a.at a.at (line_event a.line)

-- the arrivals of these lines at a moment
abbrev pub arrivals_at_moment : ℕ → List ℕ → List Arrival
arrivals_at_moment count lines = map (λ line. record { at = count; line = line }) lines

-- Of the arrivals inside a stretch whose first instruction is that of the count: those whose line that instruction or a later
-- one of the stretch touches stand before its event, and the others behind it.
abbrev pub arrivals_before_event : ℕ → Trace → List Arrival
arrivals_before_event count [] = []
arrivals_before_event count (entry ∷ trace) = arrivals_at_moment count (touched_lines_of (entry ∷ trace) entry.0) ++ arrivals_before_event (count + 1) trace

-- the arrivals of a trace that stand behind the stretch's event, from this count on
abbrev pub arrivals_behind_event : ℕ → Trace → List Arrival
arrivals_behind_event count [] = []
arrivals_behind_event count (entry ∷ trace) = arrivals_at_moment count (untouched_lines_of (entry ∷ trace) entry.0) ++ arrivals_behind_event (count + 1) trace
