-- The answers of `response`.
use Rattle.std.specs.Prelude.{ℕ, ◌≡◌, List, [], Some, None, true, false, cond}
use Rattle.response_text.specs.declared.task_text.Told.{Told}
use Rattle.response_text.specs.Inputs.{IsRefusal}
use Rattle.response_text.specs.ResponseText.{IsResponseText}
use Rattle.response_text.specs.TaskText.{IsTaskText}
use Rattle.run_load.specs.declared.lines.ToldRun.{ToldRun}
use Rattle.run_load.specs.RunText as run
use Rattle.run_load.specs.RunText.{IsRunText}
use Rattle.command_line.specs.declared.answer.ToolAnswer.{ToolAnswer}
use Rattle.command_line.specs.declared.answer.ToolAnswer.TheVariants as answer

-- the lines of the responses of all tasks, with no deadline that is open; those with one; or the first refusal of the three texts
abbrev pub IsResponseAnswer : (oil src load : List ℕ) → ToolAnswer → Type 0
IsResponseAnswer oil src load (answer.Done outcome) =
    IsResponseText oil src load (record { text = outcome.text; is_open = false }) × (outcome.file ≡ [])
IsResponseAnswer oil src load (answer.Unmet lines) = IsResponseText oil src load (record { text = lines; is_open = true })
IsResponseAnswer oil src load (answer.Refused refusal) = IsRefusal oil src load refusal
IsResponseAnswer oil src load (answer.Stopped pc stop) = ⊥
IsResponseAnswer oil src load (answer.NotAnImage fault) = ⊥
IsResponseAnswer oil src load (answer.NotAnElf fault) = ⊥
IsResponseAnswer oil src load (answer.BadTrace fault) = ⊥
IsResponseAnswer oil src load answer.NoHolds = ⊥
IsResponseAnswer oil src load (answer.Explained kind lines) = ⊥
IsResponseAnswer oil src load answer.NoTask = ⊥

-- `response` of one task: its line and of what it is made, where no deadline is open, or is; the first refusal; or no task has the name
abbrev pub IsTaskResponseAnswer : (oil src load name : List ℕ) → ToolAnswer → Type 0
IsTaskResponseAnswer oil src load name (answer.Done outcome) =
    IsTaskText oil src load name (Some (record { text = outcome.text; is_open = false })) × (outcome.file ≡ [])
IsTaskResponseAnswer oil src load name (answer.Unmet lines) = IsTaskText oil src load name (Some (record { text = lines; is_open = true }))
IsTaskResponseAnswer oil src load name (answer.Refused refusal) = IsRefusal oil src load refusal
IsTaskResponseAnswer oil src load name answer.NoTask = IsTaskText oil src load name None
IsTaskResponseAnswer oil src load name (answer.Stopped pc stop) = ⊥
IsTaskResponseAnswer oil src load name (answer.NotAnImage fault) = ⊥
IsTaskResponseAnswer oil src load name (answer.NotAnElf fault) = ⊥
IsTaskResponseAnswer oil src load name (answer.BadTrace fault) = ⊥
IsTaskResponseAnswer oil src load name answer.NoHolds = ⊥
IsTaskResponseAnswer oil src load name (answer.Explained kind lines) = ⊥

-- the answer that says what is told
abbrev pub response_answer : Told → ToolAnswer
response_answer told = cond told.is_open (answer.Unmet told.text) (answer.Done (record { file = []; text = told.text }))

-- `response` of a run: its lines, where it keeps the load; those of one that does not; or the first refusal of the four texts
abbrev pub IsRunResponseAnswer : (oil src load arr : List ℕ) → ℕ → ToolAnswer → Type 0
IsRunResponseAnswer oil src load arr n (answer.Done outcome) =
    IsRunText oil src load arr n (record { text = outcome.text; keeps = true }) × (outcome.file ≡ [])
IsRunResponseAnswer oil src load arr n (answer.Unmet lines) = IsRunText oil src load arr n (record { text = lines; keeps = false })
IsRunResponseAnswer oil src load arr n (answer.Refused refusal) = run.IsRefusal oil src load arr refusal
IsRunResponseAnswer oil src load arr n (answer.Stopped pc stop) = ⊥
IsRunResponseAnswer oil src load arr n (answer.NotAnImage fault) = ⊥
IsRunResponseAnswer oil src load arr n (answer.NotAnElf fault) = ⊥
IsRunResponseAnswer oil src load arr n (answer.BadTrace fault) = ⊥
IsRunResponseAnswer oil src load arr n answer.NoHolds = ⊥
IsRunResponseAnswer oil src load arr n (answer.Explained kind lines) = ⊥
IsRunResponseAnswer oil src load arr n answer.NoTask = ⊥

-- what is told of a run, as an answer
abbrev pub run_answer : ToldRun → ToolAnswer
run_answer told = cond told.keeps (answer.Done (record { file = []; text = told.text })) (answer.Unmet told.text)
