-- The answers of tools that print what two texts, a configuration and its task code, mean, as `bounds`, alone and with `latency` or `counts`, and `map`;
-- and of those that write it to a file.
use Rattle.std.specs.Prelude.{ℕ, ◌≡◌, List, [], length}
use Rattle.sloth_source.specs.Texts.{FirstRefusal}
use Rattle.tool_commands.specs.Lines.{written_line}
use Rattle.command_line.specs.declared.answer.ToolAnswer.{ToolAnswer}
use Rattle.command_line.specs.declared.answer.ToolAnswer.TheVariants as answer

-- lines of which this is said, or the first refusal
abbrev pub IsSourceAnswer : (Says : List ℕ → Type 0) (oil src : List ℕ) → ToolAnswer → Type 0
IsSourceAnswer Says oil src (answer.Done outcome) = Says outcome.text × (outcome.file ≡ [])
IsSourceAnswer Says oil src (answer.Refused refusal) = FirstRefusal oil src refusal
IsSourceAnswer Says oil src (answer.Stopped pc stop) = ⊥
IsSourceAnswer Says oil src (answer.NotAnImage fault) = ⊥
IsSourceAnswer Says oil src (answer.NotAnElf fault) = ⊥
IsSourceAnswer Says oil src (answer.BadTrace fault) = ⊥
IsSourceAnswer Says oil src answer.NoHolds = ⊥
IsSourceAnswer Says oil src (answer.Unmet lines) = ⊥
IsSourceAnswer Says oil src (answer.Explained kind lines) = ⊥
IsSourceAnswer Says oil src answer.NoTask = ⊥

-- the same of a file
abbrev pub IsFileAnswer : (Says : List ℕ → Type 0) (oil src : List ℕ) → ToolAnswer → Type 0
IsFileAnswer Says oil src (answer.Done outcome) = Says outcome.file × (outcome.text ≡ written_line (length outcome.file))
IsFileAnswer Says oil src (answer.Refused refusal) = FirstRefusal oil src refusal
IsFileAnswer Says oil src (answer.Stopped pc stop) = ⊥
IsFileAnswer Says oil src (answer.NotAnImage fault) = ⊥
IsFileAnswer Says oil src (answer.NotAnElf fault) = ⊥
IsFileAnswer Says oil src (answer.BadTrace fault) = ⊥
IsFileAnswer Says oil src answer.NoHolds = ⊥
IsFileAnswer Says oil src (answer.Unmet lines) = ⊥
IsFileAnswer Says oil src (answer.Explained kind lines) = ⊥
IsFileAnswer Says oil src answer.NoTask = ⊥
