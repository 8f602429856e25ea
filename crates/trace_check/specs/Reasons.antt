-- What stands behind a verdict.
use Rattle.std.specs.Prelude.{ℕ, ◌≡◌, ◌≢◌, List, [], ◌++◌, length}
use Rattle.sloth_base.specs.declared.config.DeclaredNames.{DeclaredNames}
use Rattle.sloth_base.specs.declared.config.Config.{Config}
use Rattle.sloth_base.specs.declared.app.App.{App}
use Rattle.sloth_base.specs.declared.service.Arrival.{Arrival}
use Rattle.sloth_base.specs.declared.service.Stamped.{Stamped}
use Rattle.sloth_base.specs.DeclaredNames.{AreNamesOf, counter_names, function_names, task_names}
use Rattle.osek_scheduler.specs.State.{System, opening}
use Rattle.osek_scheduler.specs.Runs.{AreStepsTo}
use Rattle.trace_check.specs.TraceText.{IsEventText}
use Rattle.run_inputs.specs.Inputs.{IsRefusal}
use Rattle.trace_check.specs.TraceAnswers.{IsJudged}
use Rattle.trace_check.specs.declared.rows.Verdict.{Verdict}
use Rattle.trace_check.specs.declared.rows.Verdict.TheVariants as verdict
use Rattle.trace_check.specs.Front.{AreEventsBefore}
use Rattle.trace_check.specs.NextEvents.{AreNextEvents}
use Rattle.trace_check.specs.Lateness.{IsLateness}
use Rattle.trace_check.specs.LatenessLines.{lateness_lines}
use Rattle.trace_check.specs.declared.late.Lateness.{Lateness}
use Rattle.trace_check.specs.ReasonLines.{row_lines, state_lines, verdict_line}
use Rattle.trace_check.specs.declared.rows.NextEvent.{NextEvent}
use Rattle.trace_check.specs.declared.lines.TraceReason.{TraceReason}
use Rattle.trace_check.specs.declared.lines.TraceReason.TheVariants as reason

-- behind line k, with which the events are no run any more: the states of the tasks in front of it, and the events that may stand there
pub record IsStepReason (config : Config) (app : App) (trace : List ℕ) (k : ℕ) (lines : List ℕ) : Type 0 where
  pub names : DeclaredNames
  pub past : List Stamped
  pub before : AreEventsBefore config app names trace k past
  pub state : System
  pub leads : AreStepsTo config app past (opening config app) state
  pub rows : List NextEvent
  pub next : AreNextEvents config app past rows
  pub is : lines ≡ state_lines names.tasks state (length config.tasks) ++ row_lines names rows

-- the lines of why these events are not in time
pub record AreLatenessLines (names : DeclaredNames) (n : ℕ) (arrivals : List Arrival) (events : List Stamped) (lines : List ℕ) : Type 0 where
  pub reason : Lateness
  pub explains : IsLateness n arrivals events reason
  pub is : lines ≡ lateness_lines names reason

-- behind events that are not in time: why they are not
pub record IsTimeReason (config : Config) (app : App) (arrivals : List Arrival) (trace : List ℕ) (n : ℕ) (lines : List ℕ) : Type 0 where
  pub names : DeclaredNames
  pub named : AreNamesOf config app names
  pub events : List Stamped
  pub shows : IsEventText (task_names config) (function_names app) (counter_names config) events trace
  pub told : AreLatenessLines names n arrivals events lines

-- the lines behind a verdict
abbrev pub AreReasons : Config → App → List Arrival → (trace : List ℕ) → ℕ → Verdict → List ℕ → Type 0
AreReasons config app arrivals trace n verdict.Yes lines = lines ≡ []
AreReasons config app arrivals trace n (verdict.Line k) lines = lines ≡ []
AreReasons config app arrivals trace n (verdict.Step k) lines = IsStepReason config app trace k lines
AreReasons config app arrivals trace n verdict.Time lines = IsTimeReason config app arrivals trace n lines

-- a verdict other than yes, and the lines behind it
pub record IsNo (oil src arr trace : List ℕ) (n : ℕ) (text : List ℕ) : Type 0 where
  pub answer : Verdict
  pub judged : IsJudged oil src arr trace n answer
  pub other : answer ≢ verdict.Yes
  pub lines : List ℕ
  pub reasons : AreReasons judged.config judged.app judged.arrivals trace n answer lines
  pub is : text ≡ verdict_line answer ++ lines

-- the inputs are refused so, or the text has this verdict, and behind one other than yes stands this
abbrev pub IsTraceReason : (oil src arr trace : List ℕ) → ℕ → TraceReason → Type 0
IsTraceReason oil src arr trace n (reason.Refused refusal) = IsRefusal oil src arr refusal
IsTraceReason oil src arr trace n reason.Yes = IsJudged oil src arr trace n verdict.Yes
IsTraceReason oil src arr trace n (reason.No text) = IsNo oil src arr trace n text
