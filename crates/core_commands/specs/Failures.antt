-- Why a command was not done, phase by phase, before its last line is put.
use Rattle.std.specs.Prelude.{ℕ, ◌≡◌, List, [], ◌∷◌, Option, codes, length}
use Rattle.sloth_base.specs.declared.refusal.BuildError.{BuildError}
use Rattle.sloth_base.specs.declared.refusal.BuildError.TheVariants as error
use Rattle.sloth_io.specs.Sink.{Output}
use Rattle.sloth_io.specs.Store.{Files, KeepsOthers, IsMissing, IsTooLong, IsUnwritten}
use Rattle.sloth_io.specs.declared.store.StoreFault.{StoreFault}
use Rattle.sloth_io.specs.declared.store.StoreFault.TheVariants as fault
use Rattle.sloth_base.specs.declared.image.Image.{Image}
use Rattle.sloth_base.specs.Limits.{file_limit}
use Rattle.sloth_base.specs.Order.{IsLeast}
use Rattle.trace_text.specs.ArrivalsText.{ArrivalsFault}
use Rattle.image_file.specs.ImageText.{ImageText}
use Rattle.image_file.specs.Faults.{IsFirstImageFault}
use Rattle.image_file.specs.declared.read.ImageFault.{ImageFault}
use Rattle.image_file.specs.declared.read.FileError.{FileError}
use Rattle.image_file.specs.declared.read.FileError.TheVariants as image_error
use Rattle.sloth_source.specs.Texts.{FirstRefusal}
use Rattle.command_line.specs.Command.{Command, Builds, Executes, Lists, Samples, Uses}
use Rattle.command_line.specs.Lines.{tool_text}
use Rattle.command_line.specs.declared.answer.ToolAnswer.{ToolAnswer}
use Rattle.command_line.specs.declared.answer.ToolAnswer.TheVariants as tool_answer
use Rattle.core_commands.specs.ImageFiles.{IsNoImage}
use Rattle.command_line.specs.LastLine.{refusal_line, no_image_line}
use Rattle.core_commands.specs.Samples.{sample_oil, sample_source}
use Rattle.core_commands.specs.Top.{World, FirstUnread, IsFailedRead, IsLongRead, AreFilesSame, IsWritten, IsTextTaken, IsTextBrokenOff, IsPutAnswer}
use Rattle.core_commands.specs.ToolTables.{ToolTable}
use Rattle.run_inputs.specs.Inputs.{IsRefusal}
use Rattle.core_commands.specs.Top.{IsCommandDone, IsCommandRefused, IsCommandUnwritten, IsCommandStopped, FilesAfter, IsToolEnd, IsUnwrittenOutput}
use Rattle.command_line.specs.declared.answer.Status.{Status}
use Rattle.command_line.specs.declared.answer.Status.TheVariants as status
use Rattle.core_commands.specs.declared.failure.Failure.{Failure}
use Rattle.core_commands.specs.declared.failure.Failure.TheVariants as failure

-- the failure of a read that was refused so
abbrev pub read_failure : StoreFault → Failure
read_failure fault.Failed = failure.ReadFault
read_failure fault.TooLong = failure.TooLong
read_failure fault.Memory = failure.NoMemory

-- the failure of a judgement that ended so
abbrev pub judge_failure : BuildError → Failure
judge_failure (error.Refused refusal) = failure.Refused refusal
judge_failure error.Memory = failure.NoMemory

-- the failure of reading an image that ended so
abbrev pub image_failure : FileError ImageFault → Failure
image_failure (image_error.Fault fault) = failure.NotAnImage fault
image_failure image_error.Memory = failure.NoMemory

-- the file of this name was not read for this reason
abbrev pub IsFetchFailure : Failure → Files → Files → List ℕ → Type 0
IsFetchFailure failure.ReadFault old new name = IsMissing old new name
IsFetchFailure failure.TooLong old new name = IsTooLong old new name file_limit
IsFetchFailure failure.NoMemory old new name = Unit {0}
IsFetchFailure _ old new name = ⊥

-- not all of these files were read for this reason, which is that of the first that was not
abbrev pub IsReadFailure : Failure → Files → Files → List (List ℕ) → Type 0
IsReadFailure failure.ReadFault old new names = FirstUnread old (IsMissing old new) names
IsReadFailure failure.TooLong old new names = FirstUnread old (λ name. IsTooLong old new name file_limit) names
IsReadFailure failure.NoMemory old new names = Unit {0}
IsReadFailure _ old new names = ⊥

-- nothing was built of these texts for this reason
abbrev pub IsJudgeFailure : Failure → List ℕ → List ℕ → List ℕ → Type 0
IsJudgeFailure (failure.Refused refusal) oil src arr = IsRefusal oil src arr refusal
IsJudgeFailure failure.NoMemory oil src arr = Unit {0}
IsJudgeFailure _ oil src arr = ⊥

-- nothing was built of the texts that are generated from this seed for this reason
abbrev pub IsSampleFailure : Failure → ℕ → Type 0
IsSampleFailure (failure.Refused refusal) seed = FirstRefusal sample_oil (sample_source seed) refusal
IsSampleFailure failure.NoMemory seed = Unit {0}
IsSampleFailure _ seed = ⊥

-- no image and no arrivals were read of these files for this reason
abbrev pub IsLoadFailure : Failure → List ℕ → List ℕ → Type 0
IsLoadFailure (failure.NotAnImage fault) file arr = IsFirstImageFault fault file
IsLoadFailure (failure.Refused refusal) file arr = (image : Image) × ImageText file image × IsLeast (ArrivalsFault image.tasks image.counters arr) refusal
IsLoadFailure failure.NoMemory file arr = Unit {0}
IsLoadFailure _ file arr = ⊥

-- the lines of an image that is not written were not all put for this reason
abbrev pub IsLinesFailure : Failure → Output → Output → List ℕ → Type 0
IsLinesFailure failure.NoMemory old new text = new ≡ old
IsLinesFailure failure.Put old new text = IsTextBrokenOff old new text
IsLinesFailure _ old new text = ⊥

-- The image was not run, or its lines were not put, for this reason. The image's file was to hold these bytes, and the sink to take this text.
abbrev pub IsPerformFailure : Failure → World → World → List ℕ → List ℕ → List ℕ → Type 0
IsPerformFailure failure.NoMemory old new img bytes text = AreFilesSame old.files new.files × (new.sink ≡ old.sink)
IsPerformFailure failure.WriteFile old new img bytes text =
    IsUnwritten old.files new.files img (length bytes) × KeepsOthers old.files new.files img × (new.sink ≡ old.sink)
IsPerformFailure failure.Put old new img bytes text = IsWritten old.files new.files img bytes × IsTextBrokenOff old.sink new.sink text
IsPerformFailure _ old new img bytes text = ⊥

-- a command that is no tool ended with this status and had this text: it was done, or its run stopped
abbrev pub IsPlainEnd : ToolTable → Status → Files → Files → Command → List ℕ → Type 0
IsPlainEnd IsToolAnswer status.Done old new c text = IsCommandDone IsToolAnswer old new c text
IsPlainEnd IsToolAnswer status.Stopped old new c text = IsCommandStopped IsToolAnswer old new c text
IsPlainEnd IsToolAnswer _ old new c text = ⊥

-- a command that ended with this status had this text; a tool has its own statuses
abbrev pub IsCommandEnd : ToolTable → Status → Files → Files → Command → List ℕ → Type 0
IsCommandEnd IsToolAnswer status old new (Builds b) text = IsPlainEnd IsToolAnswer status old new (Builds b) text
IsCommandEnd IsToolAnswer status old new (Executes e) text = IsPlainEnd IsToolAnswer status old new (Executes e) text
IsCommandEnd IsToolAnswer status old new (Lists img) text = IsPlainEnd IsToolAnswer status old new (Lists img) text
IsCommandEnd IsToolAnswer status old new (Samples seed img) text = IsPlainEnd IsToolAnswer status old new (Samples seed img) text
IsCommandEnd IsToolAnswer status old new (Uses u) text = IsToolEnd IsToolAnswer status old new u text

-- the file of a tool that was done was not written
abbrev pub IsOutputFailure : Failure → Files → Files → Option (List ℕ) → List ℕ → Type 0
IsOutputFailure failure.WriteFile old new output bytes = IsUnwrittenOutput old new output bytes
IsOutputFailure _ old new output bytes = ⊥

-- a line was not put
abbrev pub IsLineFailure : Failure → Output → Output → List ℕ → Type 0
IsLineFailure failure.Put old new line = IsTextBrokenOff old new line
IsLineFailure _ old new line = ⊥

-- The answer of a tool was not told for this reason: its file was not written, or its text was not put.
abbrev pub IsTellFailure : Failure → ToolAnswer → World → World → Option (List ℕ) → Type 0
IsTellFailure failure.Put answer old new output = FilesAfter answer old.files new.files output × IsTextBrokenOff old.sink new.sink (tool_text answer)
IsTellFailure failure.WriteFile (tool_answer.Done outcome) old new output =
    IsUnwrittenOutput old.files new.files output outcome.file × (new.sink ≡ old.sink)
IsTellFailure _ answer old new output = ⊥

-- The command was not done for this reason; no last line is put yet.
abbrev pub IsCommandFailure : ToolTable → Failure → World → World → Command → Type 0
IsCommandFailure IsToolAnswer (failure.Refused refusal) old new c = IsCommandRefused IsToolAnswer old.files c refusal × AreFilesSame old.files new.files × (new.sink ≡ old.sink)
IsCommandFailure IsToolAnswer failure.ReadFault old new c = IsFailedRead old.files new.files c × AreFilesSame old.files new.files × (new.sink ≡ old.sink)
IsCommandFailure IsToolAnswer failure.TooLong old new c = IsLongRead old.files new.files c × AreFilesSame old.files new.files × (new.sink ≡ old.sink)
IsCommandFailure IsToolAnswer (failure.NotAnImage fault) old new c = IsNoImage old.files c fault × AreFilesSame old.files new.files × (new.sink ≡ old.sink)
IsCommandFailure IsToolAnswer failure.NoMemory old new c = AreFilesSame old.files new.files × (new.sink ≡ old.sink)
IsCommandFailure IsToolAnswer failure.WriteFile old new c = IsCommandUnwritten IsToolAnswer old.files new.files c × (new.sink ≡ old.sink)
IsCommandFailure IsToolAnswer failure.Put old new c =
    (status : Status) × (text : List ℕ) × IsCommandEnd IsToolAnswer status old.files new.files c text × IsTextBrokenOff old.sink new.sink text

-- the command ended with this status
abbrev pub IsPerformed : ToolTable → Status → World → World → Command → Type 0
IsPerformed IsToolAnswer status old new c = (text : List ℕ) × IsCommandEnd IsToolAnswer status old.files new.files c text × IsTextTaken old.sink new.sink text

-- the failure's last line was put, or broke off; where a put failed before, there is none
abbrev pub IsFailureEnd : Failure → Status → Output → Output → Type 0
IsFailureEnd (failure.Refused refusal) answer old new = IsPutAnswer status.Refused answer old new (refusal_line refusal)
IsFailureEnd failure.ReadFault answer old new = IsPutAnswer status.ReadFault answer old new (codes "read fault\n")
IsFailureEnd failure.TooLong answer old new = IsPutAnswer status.TooLong answer old new (codes "too long\n")
IsFailureEnd (failure.NotAnImage fault) answer old new = IsPutAnswer status.NotAnImage answer old new (no_image_line fault)
IsFailureEnd failure.NoMemory answer old new = IsPutAnswer status.NoMemory answer old new (codes "no memory\n")
IsFailureEnd failure.WriteFile answer old new = IsPutAnswer status.WriteFault answer old new (codes "write fault\n")
IsFailureEnd failure.Put answer old new = (answer ≡ status.WriteFault) × (new ≡ old)

-- the last lines of a failure: one, but for a put that failed
abbrev pub last_lines : Failure → List (List ℕ)
last_lines (failure.Refused refusal) = refusal_line refusal ∷ []
last_lines failure.ReadFault = codes "read fault\n" ∷ []
last_lines failure.TooLong = codes "too long\n" ∷ []
last_lines (failure.NotAnImage fault) = no_image_line fault ∷ []
last_lines failure.NoMemory = codes "no memory\n" ∷ []
last_lines failure.WriteFile = codes "write fault\n" ∷ []
last_lines failure.Put = []
