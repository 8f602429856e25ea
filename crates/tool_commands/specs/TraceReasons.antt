-- The answers of `why` of a text of events.
use Rattle.std.specs.Prelude.{ℕ, ◌≡◌, List, [], codes}
use Rattle.trace_check.specs.declared.rows.Verdict.TheVariants as verdict
use Rattle.trace_check.specs.TraceAnswers.{IsJudged}
use Rattle.run_inputs.specs.Inputs.{IsRefusal}
use Rattle.trace_check.specs.Reasons.{IsNo}
use Rattle.command_line.specs.declared.answer.ToolAnswer.{ToolAnswer}
use Rattle.command_line.specs.declared.answer.ToolAnswer.TheVariants as answer
use Rattle.command_line.specs.declared.answer.Explanation.TheVariants as explanation

-- that the text of events is that of a run with these arrivals, or where it fails to be and what could stand there; or the first refusal of the other texts
abbrev pub IsTraceReasonAnswer : (oil src arr text : List ℕ) → ℕ → ToolAnswer → Type 0
IsTraceReasonAnswer oil src arr text n (answer.Done outcome) =
    IsJudged oil src arr text n verdict.Yes × (outcome.file ≡ []) × (outcome.text ≡ codes "yes\n")
IsTraceReasonAnswer oil src arr text n (answer.Refused refusal) = IsRefusal oil src arr refusal
IsTraceReasonAnswer oil src arr text n (answer.Explained kind lines) = (kind ≡ explanation.BadTrace) × IsNo oil src arr text n lines
IsTraceReasonAnswer oil src arr text n (answer.Stopped pc stop) = ⊥
IsTraceReasonAnswer oil src arr text n (answer.NotAnImage fault) = ⊥
IsTraceReasonAnswer oil src arr text n (answer.NotAnElf fault) = ⊥
IsTraceReasonAnswer oil src arr text n (answer.BadTrace fault) = ⊥
IsTraceReasonAnswer oil src arr text n answer.NoHolds = ⊥
IsTraceReasonAnswer oil src arr text n (answer.Unmet lines) = ⊥
IsTraceReasonAnswer oil src arr text n answer.NoTask = ⊥
