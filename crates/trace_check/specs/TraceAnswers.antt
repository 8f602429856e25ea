-- What is said of a configuration, its task source, arrivals and a text of events.
use Rattle.std.specs.Prelude.{ℕ, List}
use Rattle.sloth_base.specs.declared.app.App.{App}
use Rattle.sloth_base.specs.declared.config.Config.{Config}
use Rattle.sloth_base.specs.declared.service.Arrival.{Arrival}
use Rattle.code_rules.specs.WellFormed.{WellFormed}
use Rattle.sloth_source.specs.Texts.{AreAccepted}
use Rattle.trace_check.specs.Answer.{IsVerdict}
use Rattle.trace_check.specs.declared.rows.Verdict.{Verdict}
use Rattle.run_inputs.specs.Inputs.{AreArrivalsOf, IsRefusal}
use Rattle.sloth_base.specs.DeclaredNames.{task_names, counter_names}
use Rattle.trace_check.specs.declared.lines.TraceAnswer.{TraceAnswer}
use Rattle.trace_check.specs.declared.lines.TraceAnswer.TheVariants as answer

-- the inputs are accepted, and this is the verdict on the text
pub record IsJudged (oil src arr trace : List ℕ) (n : ℕ) (verdict : Verdict) : Type 0 where
  pub config : Config
  pub app : App
  pub accepted : AreAccepted oil src config app
  pub well_formed : WellFormed config app
  pub arrivals : List Arrival
  pub read : AreArrivalsOf (task_names config) (counter_names config) arr arrivals
  pub is : IsVerdict config app arrivals trace n verdict

-- the inputs are refused so, or the text has this verdict
abbrev pub IsTraceAnswer : (oil src arr trace : List ℕ) → ℕ → TraceAnswer → Type 0
IsTraceAnswer oil src arr trace n (answer.Refused refusal) = IsRefusal oil src arr refusal
IsTraceAnswer oil src arr trace n (answer.Judged verdict) = IsJudged oil src arr trace n verdict
