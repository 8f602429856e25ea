-- What a program does, and why it does not: its commands, and what its tools answer (`IsToolAnswer`). What the store shows before a call has, as its
-- reads, those of this call (`call_files`).
use Rattle.std.specs.Prelude.{ℕ, ◌≡◌, ◌+◌, ◌≤◌, ◌⊎◌, List, [], ◌∷◌, Option, Some, None, IsTrue, codes, length}
use Rattle.sloth_base.specs.declared.config.Config.{Config}
use Rattle.sloth_base.specs.declared.app.App.{App}
use Rattle.sloth_base.specs.declared.service.Arrival.{Arrival}
use Rattle.sloth_base.specs.declared.image.Image.{Image}
use Rattle.sloth_base.specs.declared.refusal.Refusal.{Refusal}
use Rattle.sloth_base.specs.Arrivals.{AreArrivals}
use Rattle.sloth_base.specs.ImageRange.{InFormat}
use Rattle.sloth_base.specs.Owners.{owners_in}
use Rattle.sloth_base.specs.Limits.{file_limit, count_limit}
use Rattle.code_rules.specs.WellFormed.{WellFormed}
use Rattle.rv32_expand.specs.InPlace.{ItemsInPlace}
use Rattle.osek_blocking.specs.Protocol.{KeepsCeilingProtocol}
use Rattle.osek_blocking.specs.NextEvents.{IsOnlyRun}
use Rattle.sim_induction.specs.Sound.{AreComing, Sound, events_of}
use Rattle.sim_induction.specs.Weighed.{Weighed}
use Rattle.sim_induction.specs.Paced.{InPace}
use Rattle.sim_laws.specs.TaskStates.{HasTaskStates}
use Rattle.sloth_io.specs.Counts.{Rose, Stays}
use Rattle.sloth_io.specs.Sink.{Output, output_with, GainsPart, FailsToPassOn}
use Rattle.sloth_io.specs.Store.{Files, Holds, IsFileWritten, KeepsOthers, IsMissing, IsTooLong, IsUnwritten}
use Rattle.sloth_io.specs.Slots.{is_space_for}
use Rattle.sloth_build.specs.ImageOf.{HasPlannedMap}
use Rattle.image_file.specs.ImageText.{image_bytes}
use Rattle.image_file.specs.declared.read.ImageFault.{ImageFault}
use Rattle.rv32_instr.specs.declared.encoding.Stop.{Stop}
use Rattle.sloth_source.specs.Texts.{AreAccepted, FirstRefusal}
use Rattle.command_line.specs.Command.{Command, Building, Run, Builds, Executes, Lists, Samples, Uses, IsCommand, NoCommand}
use Rattle.command_line.specs.Tools.{ToolUse}
use Rattle.image_file.specs.declared.read.ElfFault.{ElfFault}
use Rattle.command_line.specs.Lines.{no_elf_line, bad_trace_line, tool_text}
use Rattle.command_line.specs.declared.answer.ToolAnswer.{ToolAnswer}
use Rattle.command_line.specs.declared.answer.ToolAnswer.TheVariants as tool_answer
use Rattle.command_line.specs.declared.answer.Outcome.{Outcome}
use Rattle.command_line.specs.declared.answer.TraceFault.{TraceFault}
use Rattle.run_inputs.specs.Inputs.{IsRefusal}
use Rattle.sloth_base.specs.DeclaredNames.{task_names, counter_names}
use Rattle.run_inputs.specs.Inputs.{AreArrivalsOf}
use Rattle.command_line.specs.Statuses.{tool_status}
use Rattle.core_commands.specs.CommandFiles.{inputs_of, HasOwnOutput, IsUsageCause}
use Rattle.core_commands.specs.ToolTables.{ToolTable}
use Rattle.core_commands.specs.ImageFiles.{IsExecuted, IsExecRefused, IsListed, IsNoImage}
use Rattle.command_line.specs.LastLine.{refusal_line, built_line, no_image_line}
use Rattle.sloth_runner.specs.Runner.{run_text, run_end}
use Rattle.core_commands.specs.Samples.{sample_oil, sample_source, sample_arrivals, sample_text}
use Rattle.sloth_runner.specs.declared.runner.RunEnd.TheVariants as ends
use Rattle.command_line.specs.declared.answer.Status.{Status}
use Rattle.command_line.specs.declared.answer.Status.TheVariants as status

-- what the store and the sink show at one moment
pub record World : Type 0 where
  pub files : Files
  pub sink : Output

-- a store's and a sink's part of it together
abbrev pub world : Files → Output → World
world files sink = record { files = files; sink = sink }

-- ---- the inputs

-- the arrivals are read from this text; a command that runs nothing has none
abbrev pub HoldsArrivals : Files → Option Run → List ℕ → Type 0
HoldsArrivals files None arr = arr ≡ []
HoldsArrivals files (Some run) arr = Holds files run.arr arr

-- what is read of the arrivals
abbrev pub arrival_deliveries : Option Run → List ℕ → List (List ℕ × List ℕ)
arrival_deliveries None arr = []
arrival_deliveries (Some run) arr = (run.arr, arr) ∷ []

-- what is read where these are the texts of the files that the words name
abbrev pub text_deliveries : Building → List ℕ → List ℕ → List ℕ → List (List ℕ × List ℕ)
text_deliveries c oil src arr = (c.oil, oil) ∷ (c.src, src) ∷ arrival_deliveries c.run arr

-- these are the files that the words name, where the store tells its files, each of at most 4 MiB
pub record AreInputs (files : Files) (c : Building) (oil src arr : List ℕ) : Type 0 where
  pub oil_read : Holds files c.oil oil
  pub src_read : Holds files c.src src
  pub arr_read : HoldsArrivals files c.run arr
  pub oil_short : length oil ≤ file_limit
  pub src_short : length src ≤ file_limit
  pub arr_short : length arr ≤ file_limit

-- a file of at most 4 MiB is there, where the store tells its files
abbrev pub IsReadable : Files → List ℕ → Type 0
IsReadable files name = (bytes : List ℕ) × Holds files name bytes × (length bytes ≤ file_limit)

-- the first of these files that is not read is so; those before it are readable
abbrev pub FirstUnread : Files → (List ℕ → Type 0) → List (List ℕ) → Type 0
FirstUnread files P [] = ⊥
FirstUnread files P (name ∷ rest) = P name ⊎ (IsReadable files name × FirstUnread files P rest)

-- the first input that is not read is missing, or its read failed
abbrev pub IsFailedRead : Files → Files → Command → Type 0
IsFailedRead old new c = FirstUnread old (IsMissing old new) (inputs_of c)

-- the first input that is not read is longer than 4 MiB
abbrev pub IsLongRead : Files → Files → Command → Type 0
IsLongRead old new c = FirstUnread old (λ name. IsTooLong old new name file_limit) (inputs_of c)

-- ---- what stands after an answer

-- no file has changed, and nothing was written
abbrev pub AreFilesSame : Files → Files → Type 0
AreFilesSame old new = ((name : List ℕ) → new.holds name ≡ old.holds name) × (new.writes ≡ old.writes)

-- these bytes were written to the image's file, and nothing else, and no other file has changed
abbrev pub IsWritten : Files → Files → List ℕ → List ℕ → Type 0
IsWritten old new img bytes = IsFileWritten old new img bytes × KeepsOthers old new img

-- the text of a command that was done: that of the run with these arrivals, or the length of the image's file
abbrev pub done_text : Image → List Arrival → Option Run → List ℕ
done_text image arrivals None = built_line (length (image_bytes image))
done_text image arrivals (Some run) = run_text image arrivals run.form run.n

-- the inputs are accepted, with this meaning
pub record IsAccepted (old : Files) (c : Building) (config : Config) (app : App) (arrivals : List Arrival) : Type 0 where
  pub oil : List ℕ
  pub src : List ℕ
  pub arr : List ℕ
  pub inputs : AreInputs old c oil src arr
  -- and exactly they were read, in this order
  pub delivered : old.reads ≡ text_deliveries c oil src arr
  pub accepted : AreAccepted oil src config app
  pub read : AreArrivalsOf (task_names config) (counter_names config) arr arrivals
  -- so they are among those of which an image is sound
  pub in_range : AreArrivals (owners_in config) arrivals

-- in every run of an image, whatever lines arrive, the observed events keep the priority ceiling protocol
abbrev pub RunsKeepProtocol : Config → App → Image → Type 0
RunsKeepProtocol config app image =
    (arrivals : List Arrival) (n : ℕ) → AreComing (owners_in config) arrivals
    → KeepsCeilingProtocol config app (events_of image arrivals n)

-- in every run of an image in which no line arrives, the observed events are the only run of their number of the abstract scheduler
abbrev pub RunsAreOnly : Config → App → Image → Type 0
RunsAreOnly config app image = (n : ℕ) → IsOnlyRun config app (events_of image [] n)

-- an image of a configuration and its task code
pub record IsBuiltImage (config : Config) (app : App) (image : Image) : Type 0 where
  -- the configuration and the task code are in range and keep every rule
  pub well_formed : WellFormed config app
  -- every run of the image, whatever lines arrive, is one of the abstract scheduler
  pub sound : Sound config app image
  -- no stretch of it takes more counts than its weight, by its event and the state that it finds
  pub weighed : Weighed config app image
  -- and each event ends soon behind the one before it, by its weight and the lengths of the items
  pub paced : InPace config app image
  -- and the machine shows the tasks, counters and alarms of the abstract scheduler at each count that finds interrupts open
  pub shows : HasTaskStates config app image
  -- so a Ready task is blocked by one lower task at most, and resources are held by one task at a time
  pub protocol : RunsKeepProtocol config app image
  -- where no line arrives, what happens is determined by the configuration and its task code alone
  pub only : RunsAreOnly config app image
  -- the items of the task code stand in the image, each with its mark on its last instruction
  pub items : ItemsInPlace image config app
  -- its numbers and names are those of an image file
  pub format : InFormat image
  -- its tasks and counters have the names of the configuration
  pub names : image.tasks ≡ task_names config
  pub counters : image.counters ≡ counter_names config
  -- each of its pieces stands where the map that is planned for the task code has it
  pub planned : HasPlannedMap config app image

-- the events that a run of the image shows keep the priority ceiling protocol; a command that runs nothing shows none
abbrev pub ShownKeepProtocol : Config → App → Image → List Arrival → Option Run → Type 0
ShownKeepProtocol config app image arrivals None = Unit {0}
ShownKeepProtocol config app image arrivals (Some run) = KeepsCeilingProtocol config app (events_of image arrivals run.n)

-- The inputs are accepted, IMG holds the image's file, and this is the text of the image's run with the arrivals, or of its file's length.
pub record IsDone (old new : Files) (c : Building) (text : List ℕ) : Type 0 where
  pub config : Config
  pub app : App
  pub arrivals : List Arrival
  pub image : Image
  pub accepted : IsAccepted old c config app arrivals
  pub is_image : IsBuiltImage config app image
  pub written : IsWritten old new c.img (image_bytes image)
  pub text_is : text ≡ done_text image arrivals c.run
  -- and the events of this text keep the priority ceiling protocol
  pub protocol : ShownKeepProtocol config app image arrivals c.run

-- the inputs are refused so
pub record IsRefused (old : Files) (c : Building) (refusal : Refusal) : Type 0 where
  pub oil : List ℕ
  pub src : List ℕ
  pub arr : List ℕ
  pub inputs : AreInputs old c oil src arr
  pub delivered : old.reads ≡ text_deliveries c oil src arr
  pub is : IsRefusal oil src arr refusal

-- the inputs are accepted, the write of the image's file failed, and no other file has changed
pub record IsUnwrittenBuild (old new : Files) (c : Building) : Type 0 where
  pub config : Config
  pub app : App
  pub arrivals : List Arrival
  pub image : Image
  pub accepted : IsAccepted old c config app arrivals
  pub is_image : IsBuiltImage config app image
  pub failed : IsUnwritten old new c.img (length (image_bytes image))
  pub others : KeepsOthers old new c.img

-- The texts that are generated from the seed are accepted, IMG holds the image's file, and this is the summary of the image's run with the
-- generated arrivals.
pub record IsSampled (old new : Files) (seed : ℕ) (img text : List ℕ) : Type 0 where
  pub config : Config
  pub app : App
  pub image : Image
  pub accepted : AreAccepted sample_oil (sample_source seed) config app
  pub is_image : IsBuiltImage config app image
  pub written : IsWritten old new img (image_bytes image)
  pub text_is : text ≡ sample_text image (sample_arrivals seed)
  -- so all its instructions are run
  pub whole : run_end image (sample_arrivals seed) count_limit ≡ ends.Whole
  -- and the events that are counted keep the priority ceiling protocol
  pub protocol : KeepsCeilingProtocol config app (events_of image (sample_arrivals seed) count_limit)

-- the generated texts are accepted, the write of the image's file failed, and no other file has changed
pub record IsUnwrittenSample (old new : Files) (seed : ℕ) (img : List ℕ) : Type 0 where
  pub config : Config
  pub app : App
  pub image : Image
  pub accepted : AreAccepted sample_oil (sample_source seed) config app
  pub is_image : IsBuiltImage config app image
  pub failed : IsUnwritten old new img (length (image_bytes image))
  pub others : KeepsOthers old new img

-- the file of a tool, if it writes one, holds these bytes, and no other file has changed
abbrev pub IsOutputWritten : Files → Files → Option (List ℕ) → List ℕ → Type 0
IsOutputWritten old new None bytes = AreFilesSame old new
IsOutputWritten old new (Some name) bytes = IsWritten old new name bytes

-- what the files hold behind the answer of a tool: only one that was done writes a file
abbrev pub FilesAfter : ToolAnswer → Files → Files → Option (List ℕ) → Type 0
FilesAfter (tool_answer.Done outcome) old new output = IsOutputWritten old new output outcome.file
FilesAfter (tool_answer.Refused refusal) old new output = AreFilesSame old new
FilesAfter (tool_answer.Stopped pc stop) old new output = AreFilesSame old new
FilesAfter (tool_answer.NotAnImage fault) old new output = AreFilesSame old new
FilesAfter (tool_answer.NotAnElf fault) old new output = AreFilesSame old new
FilesAfter (tool_answer.BadTrace fault) old new output = AreFilesSame old new
FilesAfter tool_answer.NoHolds old new output = AreFilesSame old new
FilesAfter (tool_answer.Unmet lines) old new output = AreFilesSame old new
FilesAfter (tool_answer.Explained kind text) old new output = AreFilesSame old new
FilesAfter tool_answer.NoTask old new output = AreFilesSame old new

-- the tool has an answer with this status and this text, and the files hold what it says
pub record IsToolEnd (IsToolAnswer : ToolTable) (wanted : Status) (old new : Files) (u : ToolUse) (text : List ℕ) : Type 0 where
  pub answer : ToolAnswer
  pub is : IsToolAnswer old u answer
  pub status_is : wanted ≡ tool_status answer
  pub text_is : text ≡ tool_text answer
  pub files : FilesAfter answer old new u.output

-- the write of a tool's file failed, and no other file has changed
abbrev pub IsUnwrittenOutput : Files → Files → Option (List ℕ) → List ℕ → Type 0
IsUnwrittenOutput old new None bytes = ⊥
IsUnwrittenOutput old new (Some name) bytes = IsUnwritten old new name (length bytes) × KeepsOthers old new name

-- the tool was done, but for the write of its file
pub record IsUnwrittenTool (IsToolAnswer : ToolTable) (old new : Files) (u : ToolUse) : Type 0 where
  pub outcome : Outcome
  pub is : IsToolAnswer old u (tool_answer.Done outcome)
  pub failed : IsUnwrittenOutput old new u.output outcome.file

-- the command was done, and this is its text; a command on an image file changes no file
abbrev pub IsCommandDone : ToolTable → Files → Files → Command → List ℕ → Type 0
IsCommandDone IsToolAnswer old new (Builds b) text = IsDone old new b text
IsCommandDone IsToolAnswer old new (Executes e) text = IsExecuted old e ends.Whole text × AreFilesSame old new
IsCommandDone IsToolAnswer old new (Lists img) text = IsListed old img text × AreFilesSame old new
IsCommandDone IsToolAnswer old new (Samples seed img) text = IsSampled old new seed img text
IsCommandDone IsToolAnswer old new (Uses u) text = IsToolEnd IsToolAnswer status.Done old new u text

-- its inputs or its generated texts are refused so; of one that lists an image there are none to be refused
abbrev pub IsCommandRefused : ToolTable → Files → Command → Refusal → Type 0
IsCommandRefused IsToolAnswer old (Builds b) refusal = IsRefused old b refusal
IsCommandRefused IsToolAnswer old (Executes e) refusal = IsExecRefused old e refusal
IsCommandRefused IsToolAnswer old (Lists img) refusal = ⊥
IsCommandRefused IsToolAnswer old (Samples seed img) refusal = FirstRefusal sample_oil (sample_source seed) refusal
IsCommandRefused IsToolAnswer old (Uses u) refusal = IsToolAnswer old u (tool_answer.Refused refusal)

-- its file was to be written, and the write failed
abbrev pub IsCommandUnwritten : ToolTable → Files → Files → Command → Type 0
IsCommandUnwritten IsToolAnswer old new (Builds b) = IsUnwrittenBuild old new b
IsCommandUnwritten IsToolAnswer old new (Executes e) = ⊥
IsCommandUnwritten IsToolAnswer old new (Lists img) = ⊥
IsCommandUnwritten IsToolAnswer old new (Samples seed img) = IsUnwrittenSample old new seed img
IsCommandUnwritten IsToolAnswer old new (Uses u) = IsUnwrittenTool IsToolAnswer old new u

-- the machine stopped before the last instruction that was to be run; an image that was built never does
abbrev pub IsCommandStopped : ToolTable → Files → Files → Command → List ℕ → Type 0
IsCommandStopped IsToolAnswer old new (Builds b) text = ⊥
IsCommandStopped IsToolAnswer old new (Executes e) text = (pc : ℕ) × (stop : Stop) × IsExecuted old e (ends.Stopped pc stop) text × AreFilesSame old new
IsCommandStopped IsToolAnswer old new (Lists img) text = ⊥
IsCommandStopped IsToolAnswer old new (Samples seed img) text = ⊥
IsCommandStopped IsToolAnswer old new (Uses u) text = IsToolEnd IsToolAnswer status.Stopped old new u text

-- the sink took the text, and no put failed
abbrev pub IsTextTaken : Output → Output → List ℕ → Type 0
IsTextTaken old new text = new ≡ output_with old text

-- a put failed, and the sink took a part of the text
abbrev pub IsTextBrokenOff : Output → Output → List ℕ → Type 0
IsTextBrokenOff old new text = GainsPart old new text

-- the text was put, with this answer; or it broke off, which is answered by WriteFault
abbrev pub IsPutAnswer : Status → Status → Output → Output → List ℕ → Type 0
IsPutAnswer wanted answer old new text = ((answer ≡ wanted) × IsTextTaken old new text) ⊎ ((answer ≡ status.WriteFault) × IsTextBrokenOff old new text)

-- what the sink holds back was handed on, with this answer; or it was not, which is answered by WriteFault
abbrev pub IsCloseAnswer : Status → Status → Output → Output → Type 0
IsCloseAnswer wanted answer old new = ((answer ≡ wanted) × (new ≡ old)) ⊎ ((answer ≡ status.WriteFault) × FailsToPassOn old new)

-- no task has the name that the words of a tool say, or the program has no tools
abbrev pub LacksTask : ToolTable → List (List ℕ) → Files → Type 0
LacksTask IsToolAnswer words old = (u : ToolUse) × IsCommand words (Uses u) × IsToolAnswer old u tool_answer.NoTask

-- What an answer requires: its cause, this text, and what the files hold.
abbrev pub IsRequired : ToolTable → Status → List (List ℕ) → Files → Files → List ℕ → Type 0
IsRequired IsToolAnswer status.Done words old new text = (c : Command) × IsCommand words c × IsCommandDone IsToolAnswer old new c text
IsRequired IsToolAnswer status.Usage words old new text =
    (IsUsageCause words old new ⊎ LacksTask IsToolAnswer words old) × (text ≡ codes "usage\n") × AreFilesSame old new
IsRequired IsToolAnswer status.Refused words old new text =
    (c : Command) × IsCommand words c × (refusal : Refusal) × IsCommandRefused IsToolAnswer old c refusal × (text ≡ refusal_line refusal) × AreFilesSame old new
IsRequired IsToolAnswer status.ReadFault words old new text =
    (c : Command) × IsCommand words c × IsFailedRead old new c × (text ≡ codes "read fault\n") × AreFilesSame old new
IsRequired IsToolAnswer status.WriteFault words old new text =
    (c : Command) × IsCommand words c × IsCommandUnwritten IsToolAnswer old new c × (text ≡ codes "write fault\n")
IsRequired IsToolAnswer status.NoMemory words old new text = (c : Command) × IsCommand words c × (text ≡ codes "no memory\n") × AreFilesSame old new
IsRequired IsToolAnswer status.TooLong words old new text =
    (c : Command) × IsCommand words c × IsLongRead old new c × (text ≡ codes "too long\n") × AreFilesSame old new
IsRequired IsToolAnswer status.Stopped words old new text = (c : Command) × IsCommand words c × IsCommandStopped IsToolAnswer old new c text
IsRequired IsToolAnswer status.NotAnImage words old new text =
    (c : Command) × IsCommand words c × (fault : ImageFault) × IsNoImage old c fault × (text ≡ no_image_line fault) × AreFilesSame old new
IsRequired IsToolAnswer status.NotAnElf words old new text =
    (u : ToolUse) × IsCommand words (Uses u) × (fault : ElfFault) × IsToolAnswer old u (tool_answer.NotAnElf fault) × (text ≡ no_elf_line fault)
    × AreFilesSame old new
IsRequired IsToolAnswer status.BadTrace words old new text =
    (u : ToolUse) × IsCommand words (Uses u) × (fault : TraceFault) × IsToolAnswer old u (tool_answer.BadTrace fault) × (text ≡ bad_trace_line fault)
    × AreFilesSame old new
IsRequired IsToolAnswer status.NoHolds words old new text =
    (u : ToolUse) × IsCommand words (Uses u) × IsToolAnswer old u tool_answer.NoHolds × (text ≡ codes "no holds\n") × AreFilesSame old new
IsRequired IsToolAnswer status.Unmet words old new text =
    (u : ToolUse) × IsCommand words (Uses u) × (lines : List ℕ) × IsToolAnswer old u (tool_answer.Unmet lines) × (text ≡ lines)
    × AreFilesSame old new
IsRequired IsToolAnswer (status.Explained kind) words old new text =
    (u : ToolUse) × IsCommand words (Uses u) × (lines : List ℕ) × IsToolAnswer old u (tool_answer.Explained kind lines) × (text ≡ lines) × AreFilesSame old new

-- The sink took the text that the answer requires, and the files hold what it requires; or a put failed, the answer is WriteFault, and
-- this holds of another answer and a part of its text.
pub record IsTopAnswer (IsToolAnswer : ToolTable) (words : List (List ℕ)) (old new : World) (answer : Status) : Type 0 where
  pub wanted : Status
  pub text : List ℕ
  pub required : IsRequired IsToolAnswer wanted words old.files new.files text
  pub puts : IsPutAnswer wanted answer old.sink new.sink text

-- this is the answer, and all that it requires stands
abbrev pub IsFullAnswer : ToolTable → Status → List (List ℕ) → World → World → Status → Type 0
IsFullAnswer IsToolAnswer wanted words old new answer =
    (answer ≡ wanted) × ((text : List ℕ) × IsRequired IsToolAnswer wanted words old.files new.files text × IsTextTaken old.sink new.sink text)

-- ---- which answer comes

-- the store tells its files, these are the inputs, and the image's file is none of them
pub record AreThere (old : Files) (c : Building) (oil src arr : List ℕ) : Type 0 where
  pub tells : IsTrue old.tells
  pub inputs : AreInputs old c oil src arr
  pub own_output : HasOwnOutput (Builds c)

-- this answer for want of a line, since a put failed
abbrev pub IsBrokenOff : World → World → Status → Type 0
IsBrokenOff old new answer = (answer ≡ status.WriteFault) × Rose old.sink.faults new.sink.faults

-- usage, unless the line could not be put
abbrev pub IsUsageAnswer : World → World → Status → Type 0
IsUsageAnswer old new answer = (answer ≡ status.Usage) ⊎ IsBrokenOff old new answer

-- this refusal, unless memory was wanting or the line could not be put
abbrev pub IsRefusalAnswer : World → World → Refusal → Status → Type 0
IsRefusalAnswer old new refusal answer =
    ((answer ≡ status.Refused) × IsTextTaken old.sink new.sink (refusal_line refusal)) ⊎ ((answer ≡ status.NoMemory) ⊎ IsBrokenOff old new answer)

-- no read failed in this call, or none is to fail
abbrev pub ReadsWork : Files → Files → Type 0
ReadsWork old new = Stays old.failed_reads new.failed_reads ⊎ IsTrue old.sure

-- no write failed in this call, or none is to fail and the file has space for so many bytes
abbrev pub WritesWork : Files → Files → List ℕ → ℕ → Type 0
WritesWork old new name size = Stays old.failed_writes new.failed_writes ⊎ (IsTrue old.sure × IsTrue (is_space_for (old.space name) size))

-- a sink that tells its space has enough for a text
abbrev pub HasSpace : Option (List ℕ) → Option ℕ → List ℕ → Type 0
HasSpace taken None text = ⊥
HasSpace None (Some space) text = ⊥
HasSpace (Some taken) (Some space) text = length taken + length text ≤ space

-- no put failed in this call, or the sink has space for this text
abbrev pub PutsWork : Output → Output → List ℕ → Type 0
PutsWork old new text = Stays old.faults new.faults ⊎ HasSpace old.taken old.space text

-- No call of the store or of the sink failed: their counts stay, or they tell before that what they are asked for will be done.
pub record CallsWork (c : Building) (config : Config) (app : App) (arrivals : List Arrival) (old new : World) : Type 0 where
  pub reads : ReadsWork old.files new.files
  pub write : (image : Image) → IsBuiltImage config app image → WritesWork old.files new.files c.img (length (image_bytes image))
  pub lines : (image : Image) → IsBuiltImage config app image → PutsWork old.sink new.sink (done_text image arrivals c.run)
  pub last_line : PutsWork old.sink new.sink (codes "no memory\n")

-- The words are those of no command: Usage.
abbrev pub HasUsageAnswer : List (List ℕ) → World → World → Status → Type 0
HasUsageAnswer words old new answer = NoCommand words → IsUsageAnswer old new answer

-- The store tells its files, and the file that the command would write has the name of one that it reads: Usage.
abbrev pub HasOverwriteAnswer : List (List ℕ) → World → World → Status → Type 0
HasOverwriteAnswer words old new answer =
    (c : Command) → IsCommand words c → IsTrue old.files.tells → (HasOwnOutput c → ⊥) → IsUsageAnswer old new answer

-- The inputs are there and are refused so: Refused, with the line that says it.
abbrev pub HasRefusalAnswer : List (List ℕ) → World → World → Status → Type 0
HasRefusalAnswer words old new answer =
    (c : Building) → IsCommand words (Builds c) → (oil src arr : List ℕ) → AreThere old.files c oil src arr → ReadsWork old.files new.files
    → (refusal : Refusal) → IsRefusal oil src arr refusal → IsRefusalAnswer old new refusal answer

-- The inputs are there and accepted, and no read, write or put failed: all was done, or memory was wanting, with all that this requires.
abbrev pub IsComplete : ToolTable → List (List ℕ) → World → World → Status → Type 0
IsComplete IsToolAnswer words old new answer =
    (c : Building) → IsCommand words (Builds c) → (oil src arr : List ℕ) → AreThere old.files c oil src arr
    → (config : Config) (app : App) → AreAccepted oil src config app → (arrivals : List Arrival) → AreArrivalsOf (task_names config) (counter_names config) arr arrivals
    → CallsWork c config app arrivals old new → IsFullAnswer IsToolAnswer status.Done words old new answer ⊎ IsFullAnswer IsToolAnswer status.NoMemory words old new answer
