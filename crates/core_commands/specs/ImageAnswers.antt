-- Which answer a command on an image file has.
use Rattle.std.specs.Prelude.{ℕ, ◌≡◌, ◌⊎◌, List, IsTrue, codes}
use Rattle.sloth_base.specs.declared.service.Arrival.{Arrival}
use Rattle.sloth_base.specs.declared.image.Image.{Image}
use Rattle.sloth_base.specs.declared.refusal.Refusal.{Refusal}
use Rattle.sloth_base.specs.Order.{IsLeast}
use Rattle.image_file.specs.ImageText.{ImageText}
use Rattle.image_file.specs.Faults.{IsFirstImageFault}
use Rattle.image_file.specs.declared.read.ImageFault.{ImageFault}
use Rattle.trace_text.specs.ArrivalsText.{ArrivalsFault}
use Rattle.trace_text.specs.Listing.{listing}
use Rattle.command_line.specs.Command.{Command, Execution, Executes, Lists, IsCommand, IsNoTool}
use Rattle.run_inputs.specs.Inputs.{AreArrivalsOf}
use Rattle.core_commands.specs.FileInputs.{IsInput}
use Rattle.core_commands.specs.ImageFiles.{AreExecInputs, ReadsImageFile, exec_text}
use Rattle.command_line.specs.LastLine.{no_image_line}
use Rattle.sloth_runner.specs.Runner.{run_end}
use Rattle.core_commands.specs.CommandFiles.{HasOwnOutput}
use Rattle.core_commands.specs.ToolTables.{ToolTable}
use Rattle.core_commands.specs.Top.{World, IsTextTaken, IsFullAnswer, IsBrokenOff, IsRefusalAnswer, ReadsWork, PutsWork}
use Rattle.sloth_runner.specs.declared.runner.RunEnd.{RunEnd}
use Rattle.sloth_runner.specs.declared.runner.RunEnd.TheVariants as ends
use Rattle.command_line.specs.declared.answer.Status.{Status}
use Rattle.command_line.specs.declared.answer.Status.TheVariants as status

-- the answer where a run ends so
abbrev pub end_status : RunEnd → Status
end_status ends.Whole = status.Done
end_status (ends.Stopped pc stop) = status.Stopped

-- no read failed, and no put of this text or of a last line for want of memory
pub record LinesWork (old new : World) (text : List ℕ) : Type 0 where
  pub reads : ReadsWork old.files new.files
  pub lines : PutsWork old.sink new.sink text
  pub last_line : PutsWork old.sink new.sink (codes "no memory\n")

-- no image, unless memory was wanting or the line could not be put
abbrev pub IsNoImageAnswer : World → World → Status → Type 0
IsNoImageAnswer old new answer = (answer ≡ status.NotAnImage) ⊎ ((answer ≡ status.NoMemory) ⊎ IsBrokenOff old new answer)

-- the same with the line of this fault
abbrev pub IsImageFaultAnswer : World → World → ImageFault → Status → Type 0
IsImageFaultAnswer old new fault answer =
    ((answer ≡ status.NotAnImage) × IsTextTaken old.sink new.sink (no_image_line fault)) ⊎ ((answer ≡ status.NoMemory) ⊎ IsBrokenOff old new answer)

-- The words are those of this command, its inputs are there, its output is none of them, and this is the first fault of the image file: NotAnImage, with
-- the line that says it.
abbrev pub IsImageFaultTold : List (List ℕ) → World → World → Status → Command → Type 0
IsImageFaultTold words old new answer c =
    IsCommand words c → IsTrue old.files.tells → HasOwnOutput c → (file : List ℕ) → ReadsImageFile old.files c file → ReadsWork old.files new.files
    → (fault : ImageFault) → IsFirstImageFault fault file → IsImageFaultAnswer old new fault answer

-- The same, and no image has the bytes of the image file: NotAnImage.
abbrev pub IsNoImageTold : List (List ℕ) → World → World → Status → Command → Type 0
IsNoImageTold words old new answer c =
    IsCommand words c → IsTrue old.files.tells → HasOwnOutput c → (file : List ℕ) → ReadsImageFile old.files c file → ReadsWork old.files new.files
    → ((image : Image) → ImageText file image → ⊥) → IsNoImageAnswer old new answer

-- that of any command
abbrev pub HasImageFaultAnswer : List (List ℕ) → World → World → Status → Type 0
HasImageFaultAnswer words old new answer = (c : Command) → IsImageFaultTold words old new answer c

abbrev pub HasNoImageAnswer : List (List ℕ) → World → World → Status → Type 0
HasNoImageAnswer words old new answer = (c : Command) → IsNoImageTold words old new answer c

-- and of any that is no tool
abbrev pub HasPlainImageFaultAnswer : List (List ℕ) → World → World → Status → Type 0
HasPlainImageFaultAnswer words old new answer = (c : Command) → IsNoTool c → IsImageFaultTold words old new answer c

abbrev pub HasPlainNoImageAnswer : List (List ℕ) → World → World → Status → Type 0
HasPlainNoImageAnswer words old new answer = (c : Command) → IsNoTool c → IsNoImageTold words old new answer c

-- `exec`: the inputs are there, the image file is one, and this is the least fault of the arrivals: Refused, with the line that says it.
abbrev pub HasExecRefusedAnswer : List (List ℕ) → World → World → Status → Type 0
HasExecRefusedAnswer words old new answer =
    (e : Execution) → IsCommand words (Executes e) → IsTrue old.files.tells → (file arr : List ℕ) → AreExecInputs old.files e file arr
    → ReadsWork old.files new.files → (image : Image) → ImageText file image
    → (refusal : Refusal) → IsLeast (ArrivalsFault image.tasks image.counters arr) refusal → IsRefusalAnswer old new refusal answer

-- `exec`: the inputs are there and accepted, and no read or put failed: Done, or Stopped where the run stops, or memory was wanting.
abbrev pub HasExecutedAnswer : ToolTable → List (List ℕ) → World → World → Status → Type 0
HasExecutedAnswer IsToolAnswer words old new answer =
    (e : Execution) → IsCommand words (Executes e) → IsTrue old.files.tells → (file arr : List ℕ) → AreExecInputs old.files e file arr
    → (image : Image) → ImageText file image → (arrivals : List Arrival) → AreArrivalsOf image.tasks image.counters arr arrivals
    → LinesWork old new (exec_text image arrivals e.n)
    → IsFullAnswer IsToolAnswer (end_status (run_end image arrivals e.n)) words old new answer ⊎ IsFullAnswer IsToolAnswer status.NoMemory words old new answer

-- `list`: the image file is there and is one, and no read or put failed: Done, or memory was wanting.
abbrev pub HasListedAnswer : ToolTable → List (List ℕ) → World → World → Status → Type 0
HasListedAnswer IsToolAnswer words old new answer =
    (img : List ℕ) → IsCommand words (Lists img) → IsTrue old.files.tells → (file : List ℕ) → IsInput old.files img file
    → (image : Image) → ImageText file image → LinesWork old new (listing image)
    → IsFullAnswer IsToolAnswer status.Done words old new answer ⊎ IsFullAnswer IsToolAnswer status.NoMemory words old new answer
