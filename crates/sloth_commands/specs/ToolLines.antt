-- That each line of a tool's answer is one put.
use Rattle.std.specs.Prelude.{ℕ, ◌≡◌, ◌⊎◌, List, ◌++◌}
use Rattle.sloth_io.specs.Sink.{Output, output_with, FailsToPassOn}
use Rattle.sloth_io.specs.Lines.{lines_in, BreaksOffInLine}
use Rattle.command_line.specs.Command.{Uses, IsCommand}
use Rattle.command_line.specs.Tools.{ToolUse}
use Rattle.command_line.specs.declared.answer.Status.{Status}
use Rattle.command_line.specs.declared.answer.Status.TheVariants as status
use Rattle.sloth_commands.specs.ToolFiles.{IsToolAnswer}
use Rattle.core_commands.specs.Top.{World, IsRequired, IsTextTaken, IsToolEnd}
use Rattle.core_commands.specs.declared.failure.Failure.{Failure}
use Rattle.core_commands.specs.declared.failure.Failure.TheVariants as failure

-- a line broke off, or all of them were put, and what the sink holds back was not handed on
abbrev pub AreLinesBroken : Output → Output → List (List ℕ) → List (List ℕ) → List ℕ → Type 0
AreLinesBroken old new before after text =
    BreaksOffInLine old new before after text ⊎ (FailsToPassOn (output_with old text) new × (after ≡ before ++ lines_in text))

-- each line of the text was one put, with this answer; or they were not all put and handed on, which is answered by WriteFault
abbrev pub ArePutByLine : Status → Status → Output → Output → List (List ℕ) → List (List ℕ) → List ℕ → Type 0
ArePutByLine wanted answer old new before after text =
    ((answer ≡ wanted) × IsTextTaken old new text × (after ≡ before ++ lines_in text))
    ⊎ ((answer ≡ status.WriteFault) × AreLinesBroken old new before after text)

-- What was put in a call, from `before` on, are the lines of the text that the answer requires, each by itself; or, where a put failed, the first of
-- them, and the sink took whole lines and a part of the last one.
pub record IsLineAnswer (words : List (List ℕ)) (old new : World) (before after : List (List ℕ)) (answer : Status) : Type 0 where
  pub wanted : Status
  pub text : List ℕ
  pub required : IsRequired IsToolAnswer wanted words old.files new.files text
  pub puts : ArePutByLine wanted answer old.sink new.sink before after text

-- a tool has such an answer
abbrev pub HasToolLines : List (List ℕ) → World → World → List (List ℕ) → List (List ℕ) → Status → Type 0
HasToolLines words old new before after answer = (u : ToolUse) → IsCommand words (Uses u) → IsLineAnswer words old new before after answer

-- ---- before the last line

-- the answer of a tool was told, each line of its text by one put
abbrev pub IsToldByLine : Status → World → World → List (List ℕ) → List (List ℕ) → ToolUse → Type 0
IsToldByLine status old new before after u =
    (text : List ℕ) × IsToolEnd IsToolAnswer status old.files new.files u text × IsTextTaken old.sink new.sink text × (after ≡ before ++ lines_in text)

-- the text of a tool's answer broke off in one of its lines
abbrev pub IsToolBrokenOff : World → World → List (List ℕ) → List (List ℕ) → ToolUse → Type 0
IsToolBrokenOff old new before after u =
    (status : Status) × (text : List ℕ) × IsToolEnd IsToolAnswer status old.files new.files u text × BreaksOffInLine old.sink new.sink before after text

-- a tool was not done for this reason, and nothing was put, but where a put failed
abbrev pub IsToolUntold : Failure → World → World → List (List ℕ) → List (List ℕ) → ToolUse → Type 0
IsToolUntold (failure.Refused refusal) old new before after u = ⊥
IsToolUntold failure.ReadFault old new before after u = after ≡ before
IsToolUntold failure.TooLong old new before after u = after ≡ before
IsToolUntold (failure.NotAnImage fault) old new before after u = ⊥
IsToolUntold failure.NoMemory old new before after u = after ≡ before
IsToolUntold failure.WriteFile old new before after u = after ≡ before
IsToolUntold failure.Put old new before after u = IsToolBrokenOff old new before after u

-- an answer was not told for this reason: its file was not written, or its text broke off in a line
abbrev pub IsAnswerUntold : Failure → Output → Output → List (List ℕ) → List (List ℕ) → List ℕ → Type 0
IsAnswerUntold failure.Put old new before after text = BreaksOffInLine old new before after text
IsAnswerUntold failure.WriteFile old new before after text = after ≡ before
IsAnswerUntold _ old new before after text = ⊥
