-- The answer of `check`.
use Rattle.std.specs.Prelude.{ℕ, ◌≡◌, List, [], codes}
use Rattle.trace_check.specs.declared.rows.Verdict.{Verdict}
use Rattle.trace_check.specs.declared.rows.Verdict.TheVariants as verdict
use Rattle.trace_check.specs.TraceAnswers.{IsJudged}
use Rattle.run_inputs.specs.Inputs.{IsRefusal}
use Rattle.command_line.specs.declared.answer.ToolAnswer.{ToolAnswer}
use Rattle.command_line.specs.declared.answer.ToolAnswer.TheVariants as answer
use Rattle.command_line.specs.declared.answer.TraceFault.{TraceFault}
use Rattle.command_line.specs.declared.answer.TraceFault.TheVariants as trace

-- the verdict that tells a fault
abbrev pub verdict_of : TraceFault → Verdict
verdict_of (trace.Line k) = verdict.Line k
verdict_of (trace.Step k) = verdict.Step k
verdict_of trace.Time = verdict.Time

-- `check`: the text of events is that of a run with these arrivals, or its fault; or the first refusal of the other texts
abbrev pub IsCheckAnswer : (oil src arr text : List ℕ) → ℕ → ToolAnswer → Type 0
IsCheckAnswer oil src arr text n (answer.Done outcome) =
    IsJudged oil src arr text n verdict.Yes × (outcome.file ≡ []) × (outcome.text ≡ codes "yes\n")
IsCheckAnswer oil src arr text n (answer.Refused refusal) = IsRefusal oil src arr refusal
IsCheckAnswer oil src arr text n (answer.BadTrace fault) = IsJudged oil src arr text n (verdict_of fault)
IsCheckAnswer oil src arr text n (answer.Stopped pc stop) = ⊥
IsCheckAnswer oil src arr text n (answer.NotAnImage fault) = ⊥
IsCheckAnswer oil src arr text n (answer.NotAnElf fault) = ⊥
IsCheckAnswer oil src arr text n answer.NoHolds = ⊥
IsCheckAnswer oil src arr text n (answer.Unmet lines) = ⊥
IsCheckAnswer oil src arr text n (answer.Explained kind lines) = ⊥
IsCheckAnswer oil src arr text n answer.NoTask = ⊥
