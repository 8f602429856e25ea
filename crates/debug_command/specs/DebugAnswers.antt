-- What the command answers, and why.
use Rattle.std.specs.Prelude.{ℕ, ◌≡◌, ◌≢◌, ◌⊎◌, List, Option, Result, Ok, Err, codes}
use Rattle.sloth_base.specs.declared.service.Arrival.{Arrival}
use Rattle.sloth_base.specs.declared.image.Image.{Image}
use Rattle.sloth_io.specs.Sink.{Output, output_with, GainsPart, FailsToPassOn}
use Rattle.sloth_io.specs.Store.{Files}
use Rattle.command_line.specs.LastLine.{refusal_line, no_image_line}
use Rattle.debug_session.specs.Input.{Coming}
use Rattle.debug_ways.specs.Runs.{Run}
use Rattle.debug_view.specs.ShownRun.{run_of}
use Rattle.debug_session.specs.Serving.{IsBrokenOff, IsAllAnswered}
use Rattle.debug_session.specs.Transcripts.{Act}
use Rattle.debug_session.specs.declared.serving.SessionFault.{SessionFault}
use Rattle.debug_session.specs.declared.serving.SessionFault.TheVariants as faults
use Rattle.command_line.specs.declared.answer.Status.{Status}
use Rattle.command_line.specs.declared.answer.Status.TheVariants as status
use Rattle.debug_command.specs.Inputs.{AreRead, AreFirstRead, AreUnread, AreMeant, AreNotMeant}
use Rattle.debug_command.specs.Words.{Debugging}
use Rattle.debug_command.specs.declared.command.Cause.{Cause}
use Rattle.debug_command.specs.declared.command.Cause.TheVariants as cause

-- ---- what came

-- of an input: what it tells of what comes, where it does, and the bytes that it gave before a call and behind it; and the transcript before and behind
pub record Heard : Type 0 where
  pub coming : Option Coming
  pub before : List ℕ
  pub behind : List ℕ
  pub first : List Act
  pub last : List Act

-- these five together
abbrev pub heard : Option Coming → (before behind : List ℕ) → (first last : List Act) → Heard
heard coming before behind first last = record { coming = coming; before = before; behind = behind; first = first; last = last }

-- ---- no session

-- the line was put, with this answer; or it broke off, which is answered by WriteFault
abbrev pub IsLineAnswer : (wanted answer : Status) → (before now : Output) → List ℕ → Type 0
IsLineAnswer wanted answer before now line =
    ((answer ≡ wanted) × (now ≡ output_with before line)) ⊎ ((answer ≡ status.WriteFault) × GainsPart before now line)

-- what is held back was handed on, with this answer; or it was not, which is answered by WriteFault
abbrev pub IsCloseAnswer : (wanted answer : Status) → (before now : Output) → Type 0
IsCloseAnswer wanted answer before now = ((answer ≡ wanted) × (now ≡ before)) ⊎ ((answer ≡ status.WriteFault) × FailsToPassOn before now)

-- the line of a cause was
abbrev pub IsSaid : Cause → Status → (before now : Output) → Type 0
IsSaid cause.ReadFault answer before now = IsLineAnswer status.ReadFault answer before now (codes "read fault\n")
IsSaid cause.TooLong answer before now = IsLineAnswer status.TooLong answer before now (codes "too long\n")
IsSaid (cause.NotAnImage fault) answer before now = IsLineAnswer status.NotAnImage answer before now (no_image_line fault)
IsSaid (cause.Refused refusal) answer before now = IsLineAnswer status.Refused answer before now (refusal_line refusal)
IsSaid cause.NoMemory answer before now = IsLineAnswer status.NoMemory answer before now (codes "no memory\n")

-- why there is no session was told, and handed on; no byte was read of the input
pub record IsUnserved (why : Cause) (bytes : Heard) (before now : Output) (passed : Type 0) (answer : Status) : Type 0 where
  pub said : IsSaid why answer before now
  pub unheard : bytes.behind ≡ bytes.before
  pub passed_on : answer ≢ status.WriteFault → passed

-- ---- a session

-- the status of a session's end
abbrev pub end_status : {T : Type 0} → Result T SessionFault → Status
end_status (Ok _) = status.Done
end_status (Err faults.Read) = status.ReadFault
end_status (Err faults.Write) = status.WriteFault
end_status (Err faults.NoMemory) = status.NoMemory

-- A session over a run ended so: all was answered that came; a read failed behind it; a write failed, and a first part of what is due was written; or
-- memory was wanting behind a first part.
abbrev pub IsSessionEnd : Run → List (List ℕ) → Heard → (before now : Output) → Status → Type 0
IsSessionEnd run names bytes before now status.Done = IsAllAnswered run names bytes.coming bytes.before bytes.behind bytes.first bytes.last before now
IsSessionEnd run names bytes before now status.ReadFault = IsBrokenOff run names bytes.coming bytes.before bytes.behind bytes.first bytes.last before now faults.Read
IsSessionEnd run names bytes before now status.WriteFault = IsBrokenOff run names bytes.coming bytes.before bytes.behind bytes.first bytes.last before now faults.Write
IsSessionEnd run names bytes before now status.NoMemory = IsBrokenOff run names bytes.coming bytes.before bytes.behind bytes.first bytes.last before now faults.NoMemory
IsSessionEnd run names bytes before now _ = ⊥

-- a session over the run of the image and the arrivals that two texts mean was served, and what was written handed on, unless a write broke it off
pub record IsServed (img arr : List ℕ) (bytes : Heard) (before now : Output) (passed : Type 0) (answer : Status) : Type 0 where
  pub image : Image
  pub arrivals : List Arrival
  pub meant : AreMeant img arr image arrivals
  pub ended : IsSessionEnd (run_of image arrivals) image.tasks bytes before now answer
  pub passed_on : answer ≢ status.WriteFault → passed

-- ---- bytes of it

-- the texts mean no run, for a cause that was told; or their session was served
abbrev pub IsTextsAnswer : (img arr : List ℕ) → Heard → (before now : Output) → (passed : Type 0) → Status → Type 0
IsTextsAnswer img arr bytes before now passed answer =
    ((why : Cause) × AreNotMeant why img arr × IsUnserved why bytes before now passed answer) ⊎ IsServed img arr bytes before now passed answer

-- The first of both files that could not be read was told; or exactly both were read, and what they mean was answered. `passed`: what was put was handed on.
abbrev pub IsDebugAnswer : Debugging → (old new : Files) → Heard → (before now : Output) → (passed : Type 0) → Status → Type 0
IsDebugAnswer d old new bytes before now passed answer =
    ((why : Cause) × AreUnread why old new d × AreFirstRead old new d × IsUnserved why bytes before now passed answer)
    ⊎ ((img arr : List ℕ) × AreRead old new d img arr × IsTextsAnswer img arr bytes before now passed answer)
