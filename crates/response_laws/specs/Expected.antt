-- Expiries of the only alarm that makes a task Ready: they find it Suspended, so that no activation is lost.
use Rattle.std.specs.Prelude.{ℕ, ◌*◌, ◌<◌, ◌≤◌, ◌≡◌, ◌⊎◌, List, ◌∷◌, ◌++◌, true, false, length, Some, None}
use Rattle.sloth_base.specs.declared.config.Config.{Config}
use Rattle.sloth_base.specs.declared.app.App.{App}
use Rattle.sloth_base.specs.declared.service.Arrival.{Arrival}
use Rattle.sloth_base.specs.declared.service.Event.TheVariants as event
use Rattle.sloth_base.specs.declared.service.Stamped.{Stamped}
use Rattle.sloth_base.specs.Named.{alarm_declaration, operation}
use Rattle.sloth_base.specs.Owners.{counter_line}
use Rattle.code_rules.specs.WellFormed.{WellFormed}
use Rattle.code_lengths.specs.LongestPaths.{tick_path}
use Rattle.load_text.specs.declared.load_line.Entry.{Entry}
use Rattle.load_text.specs.Loads.{distance, KeepDistances}
use Rattle.osek_scheduler.specs.declared.state.TaskState.TheVariants as mode
use Rattle.osek_scheduler.specs.State.{System, task, alarm, opening}
use Rattle.osek_scheduler.specs.InTime.{InTime}
use Rattle.osek_scheduler.specs.Runs.{AreStepsTo, OsekRun}
use Rattle.sim_induction.specs.Weighed.{AreWithinWeights}
use Rattle.response_laws.specs.Arrivals.{HasDistances}
use Rattle.response_laws.specs.Expiries.{sets_alarm}
use Rattle.response_laws.specs.Made.{is_made_from_outside}
use Rattle.response_laws.specs.Response.{RespondsWithin}
use Rattle.response_laws.specs.Ticks.{activates}

-- the line of an alarm's counter
abbrev pub line_of : Config → (a : ℕ) → ℕ
line_of config a = counter_line (alarm_declaration config a).counter

-- Nothing but alarm a makes task t Ready: no other alarm activates it, the load has no arrivals of it, and nothing inside does. No item sets the alarm.
pub record IsMadeByAlarm (config : Config) (app : App) (load : List Entry) (t a : ℕ) : Type 0 where
  pub outside : is_made_from_outside config app t ≡ true
  pub never_arrives : distance load t ≡ None
  pub inside : a < length config.alarms
  pub only : (b : ℕ) → b < length config.alarms → activates t (alarm_declaration config b).action ≡ true → b ≡ a
  pub unset : (f i : ℕ) → sets_alarm a (operation app f i) ≡ false

-- Task t responds within a cycle of alarm a, whose counter arrives so seldom that a tick takes no longer than from one arrival to the next.
pub record LeavesInCycle (config : Config) (app : App) (load : List Entry) (n more t a r : ℕ) (events : List Stamped) : Type 0 where
  pub apart : ℕ
  pub is_distance : distance load (line_of config a) ≡ Some apart
  pub brief : tick_path config (alarm_declaration config a).counter ≤ apart
  pub within : r ≤ (alarm_declaration config a).cycle * apart
  pub responds : RespondsWithin config app n more t r true events

-- the alarm expires once, or the task leaves within its cycle
abbrev pub IsExpected : Config → App → List Entry → (n more t a r : ℕ) → List Stamped → Type 0
IsExpected config app load n more t a r events = ((alarm_declaration config a).cycle ≡ 0) ⊎ LeavesInCycle config app load n more t a r events

-- each tick with which alarm a expires finds task t Suspended
abbrev pub ExpiriesFindSuspended : Config → App → (t a : ℕ) → List Stamped → Type 0
ExpiriesFindSuspended config app t a events =
    (before behind : List Stamped) (tick : Stamped) (found : System) → events ≡ before ++ tick ∷ behind → AreStepsTo config app before (opening config app) found
    → tick.event ≡ event.Tick (alarm_declaration config a).counter → (alarm found a).left ≡ 1 → (task found t).state ≡ mode.Suspended

-- So it is in every run of well-formed task code whose arrivals keep a load, and whose stretches are within their weights.
abbrev pub ExpectedExpiriesFindSuspended : Type 0
ExpectedExpiriesFindSuspended = (config : Config) (app : App) (load : List Entry) (n more t a r : ℕ) (arrivals : List Arrival) (events : List Stamped)
    → WellFormed config app → OsekRun config app events → InTime config n arrivals events → AreWithinWeights config app events → HasDistances load → KeepDistances load arrivals
    → IsMadeByAlarm config app load t a → IsExpected config app load n more t a r events → ExpiriesFindSuspended config app t a events
