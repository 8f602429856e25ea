-- Which answer a tool has.
use Rattle.std.specs.Prelude.{ℕ, ◌≡◌, ◌⊎◌, List, Option, Some, IsTrue, codes, length}
use Rattle.sloth_io.specs.Counts.{Rose}
use Rattle.sloth_io.specs.Store.{Files}
use Rattle.command_line.specs.Command.{Uses, IsCommand}
use Rattle.command_line.specs.Tools.{ToolUse, file_names}
use Rattle.command_line.specs.declared.tool.Tool.{Tool}
use Rattle.tool_commands.specs.Answers.{IsAnswer, is_determined}
use Rattle.command_line.specs.Lines.{tool_text}
use Rattle.command_line.specs.declared.answer.ToolAnswer.{ToolAnswer}
use Rattle.command_line.specs.declared.answer.ToolAnswer.TheVariants as tool_answer
use Rattle.command_line.specs.Statuses.{tool_status}
use Rattle.core_commands.specs.CommandFiles.{HasOwnOutput}
use Rattle.core_commands.specs.ToolInputs.{AreToolInputs}
use Rattle.sloth_commands.specs.ToolFiles.{IsToolAnswer}
use Rattle.core_commands.specs.Top.{World, IsTextTaken, FilesAfter, IsFullAnswer, IsBrokenOff, ReadsWork, WritesWork, PutsWork}
use Rattle.command_line.specs.declared.answer.Status.{Status}
use Rattle.command_line.specs.declared.answer.Status.TheVariants as status

-- this is the tool's answer: its status, its text whole, and what it leaves in the files
pub record IsToolTold (a : ToolAnswer) (output : Option (List ℕ)) (old new : World) (answer : Status) : Type 0 where
  pub status_is : answer ≡ tool_status a
  pub text : IsTextTaken old.sink new.sink (tool_text a)
  pub files : FilesAfter a old.files new.files output

-- a write failed
abbrev pub IsNotWritten : World → World → Status → Type 0
IsNotWritten old new answer = (answer ≡ status.WriteFault) × Rose old.files.failed_writes new.files.failed_writes

-- this answer, unless memory was wanting, the tool's file was not written or the text could not be put
abbrev pub IsToolStatus : List (List ℕ) → ToolAnswer → Option (List ℕ) → World → World → Status → Type 0
IsToolStatus words a output old new answer =
    IsToolTold a output old new answer ⊎ (IsFullAnswer IsToolAnswer status.NoMemory words old new answer ⊎ (IsNotWritten old new answer ⊎ IsBrokenOff old new answer))

-- no write of the file of a tool that was done failed, or none is to fail
abbrev pub OutputWorks : ToolAnswer → Option (List ℕ) → Files → Files → Type 0
OutputWorks (tool_answer.Done outcome) (Some name) old new = WritesWork old new name (length outcome.file)
OutputWorks _ output old new = Unit {0}

-- no read, no write and no put of the text or of a last line for want of memory failed, or none is to fail
pub record ToolWorks (a : ToolAnswer) (output : Option (List ℕ)) (old new : World) : Type 0 where
  pub reads : ReadsWork old.files new.files
  pub write : OutputWorks a output old.files new.files
  pub text : PutsWork old.sink new.sink (tool_text a)
  pub last_line : PutsWork old.sink new.sink (codes "no memory\n")

-- one answer stands for another: they are the same, unless the tool's answer is not determined by what it reads
abbrev pub StandsFor : Tool → (one other : ToolAnswer) → Type 0
StandsFor tool one other = IsTrue (is_determined tool) → one ≡ other

-- The files are there, the tool's output is none of them, and this is the tool's answer to them: this answer, or that of one which stands for it.
abbrev pub HasToolAnswer : List (List ℕ) → World → World → Status → Type 0
HasToolAnswer words old new answer =
    (u : ToolUse) → IsCommand words (Uses u) → IsTrue old.files.tells → HasOwnOutput (Uses u) → (inputs : List (List ℕ))
    → AreToolInputs old.files (file_names u) inputs
    → ReadsWork old.files new.files → (a : ToolAnswer) → IsAnswer u.tool u.counts u.inputs inputs a
    → (b : ToolAnswer) × IsAnswer u.tool u.counts u.inputs inputs b × StandsFor u.tool b a × IsToolStatus words b u.output old new answer

-- no call fails for any answer of the tool to these files
abbrev pub EachWorks : ToolUse → (inputs : List (List ℕ)) → World → World → Type 0
EachWorks u inputs old new = (b : ToolAnswer) → IsAnswer u.tool u.counts u.inputs inputs b → ToolWorks b u.output old new

-- And no call failed: this answer, or memory was wanting.
abbrev pub HasToolDoneAnswer : List (List ℕ) → World → World → Status → Type 0
HasToolDoneAnswer words old new answer =
    (u : ToolUse) → IsCommand words (Uses u) → IsTrue old.files.tells → HasOwnOutput (Uses u) → (inputs : List (List ℕ))
    → AreToolInputs old.files (file_names u) inputs
    → (a : ToolAnswer) → IsAnswer u.tool u.counts u.inputs inputs a → EachWorks u inputs old new
    → ((b : ToolAnswer) × IsAnswer u.tool u.counts u.inputs inputs b × StandsFor u.tool b a × IsToolTold b u.output old new answer)
    ⊎ IsFullAnswer IsToolAnswer status.NoMemory words old new answer
