-- What a session did, by what the system delivered to it and what it gave to the system.
use Rattle.std.specs.Prelude.{◌≡◌, ℕ, List, [], Some, None}
use Rattle.sloth_io.specs.Buffered.{IsPrefix}
use Rattle.sloth_io.specs.FileStore.{untold_files}
use Rattle.sloth_io.specs.Sink.{Output}
use Rattle.sloth_io.specs.Store.{Files}
use Rattle.debug_session.specs.Transcripts.{Act}
use Rattle.debug_command.specs.DebugAnswers.{Heard, IsDebugAnswer, heard}
use Rattle.debug_command.specs.Words.{Debugging}
use Rattle.command_line.specs.declared.answer.Status.{Status}

-- standard output to which this was put, with so many failed calls
abbrev pub put_output : List ℕ → ℕ → Output
put_output text faults = record { taken = Some text; space = None; faults = faults }

-- With these names, of an input that gave these bytes, where the files show these reads at the end, the program gave `printed` to standard output, of
-- whose calls `faults` failed, and answered so: the answer is that over what was read, and what was put is what is due there, or a first part of it. A first
-- part of what was put was printed; unless a write failed, all of it. No file was written.
pub record IsDebugRun (d : Debugging) (bytes : Heard) (files : Files) (printed : List ℕ) (faults : ℕ) (answer : Status) : Type 0 where
  pub text : List ℕ
  pub answered : IsDebugAnswer d (untold_files 0 0 0 [] [] []) files bytes (put_output [] 0) (put_output text faults) (printed ≡ text) answer
  pub front : IsPrefix printed text
  pub unwritten : files.writes ≡ []

-- such a session ended with this answer, behind the bytes that standard input gave; it does not tell what comes
abbrev pub HasDebugRun : Debugging → Status → Type 0
HasDebugRun d answer =
    (given : List ℕ) × (acts : List Act) × (files : Files) × (printed : List ℕ) × (faults : ℕ) × IsDebugRun d (heard None [] given [] acts) files printed faults answer
