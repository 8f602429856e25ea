-- What a program did, by what the system delivered to it and what it gave to the system.
use Rattle.std.specs.Prelude.{◌≡◌, ◌≢◌, ◌⊎◌, ℕ, List, []}
use Rattle.sloth_io.specs.Counts.{Rose}
use Rattle.sloth_io.specs.Store.{Files}
use Rattle.sloth_io.specs.Buffered.{IsPrefix}
use Rattle.sloth_io.specs.FileStore.{untold_files}
use Rattle.core_commands.specs.CommandFiles.{ReadsInOrder}
use Rattle.core_commands.specs.ToolTables.{ToolTable}
use Rattle.core_commands.specs.Top.{IsRequired}
use Rattle.command_line.specs.Statuses.{exit_status}
use Rattle.command_line.specs.declared.answer.Status.{Status}
use Rattle.command_line.specs.declared.answer.Status.TheVariants as status

-- With these words, where the files show these reads, writes and counts of failures at the end, the program with these tools gave `printed` to standard
-- output, of whose calls `faults` failed, and answered so: an answer is required by exactly what was read, with this text and these writes. Either this
-- answer was told, and all of its text was printed; or a put failed, the answer is WriteFault, and a first part of the text was printed. Where a command's
-- words require `usage`, the store said in this run that the file which it writes is one that it reads (`same`).
pub record IsProgramRun (IsToolAnswer : ToolTable) (words : List (List ℕ)) (files : Files) (printed : List ℕ) (faults : ℕ) (answer : Status) : Type 0 where
  pub wanted : Status
  pub text : List ℕ
  -- of the command's files the first were read, in the order of the words, and nothing else
  pub in_order : ReadsInOrder words (untold_files 0 0 0 [] [] []) files
  pub required : IsRequired IsToolAnswer wanted words (untold_files 0 0 0 files.reads [] []) files text
  pub told : (answer ≡ wanted) ⊎ ((answer ≡ status.WriteFault) × Rose 0 faults)
  pub front : IsPrefix printed text
  pub whole : answer ≢ status.WriteFault → printed ≡ text
  -- so was it where a file could not be written, if no call of standard output failed
  pub handed : faults ≡ 0 → printed ≡ text

-- such a run ended with this answer
abbrev pub HasTopRun : ToolTable → List (List ℕ) → Status → Type 0
HasTopRun IsToolAnswer words answer =
    (files : Files) × (printed : List ℕ) × (faults : ℕ) × IsProgramRun IsToolAnswer words files printed faults answer

-- a program answered some words, of which its runs say what it did; or it had none: a word was no text, or memory was wanting
abbrev pub HasGivenRun : (List (List ℕ) → Status → Type 0) → Status → Type 0
HasGivenRun HasRun answer = ((words : List (List ℕ)) × HasRun words answer) ⊎ ((answer ≡ status.Usage) ⊎ (answer ≡ status.NoMemory))

-- its process ended with the number of such an answer
abbrev pub IsProcessEnd : (List (List ℕ) → Status → Type 0) → ℕ → Type 0
IsProcessEnd HasRun code = (answer : Status) × (code ≡ exit_status answer) × HasGivenRun HasRun answer
