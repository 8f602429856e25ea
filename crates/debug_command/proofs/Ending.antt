-- How the command ends.
use Rattle.std.proofs.Common.{◌≡◌, ◌≢◌, inl, inr, ℕ, List, [], Option, Some, None, refl, sym, ◌∙◌, append-nil}
use Rattle.std.specs.Prelude.{Result, Ok, Err, IfErr}
use Rattle.sloth_io.specs.Sink.{Output, output_with, FailsToPassOn}
use Rattle.sloth_io.proofs.Gains.{gains-nil, part-whole, part-behind}
use Rattle.debug_session.specs.Input.{Coming}
use Rattle.debug_ways.specs.Runs.{Run}
use Rattle.debug_session.specs.Serving.{session_text, BrokeOff, IsAnsweredInPart, IsHandedOn, IsTranscribedUpTo, HasEnded}
use Rattle.debug_session.specs.Transcripts.{Act}
use Rattle.debug_session.proofs.Transcribed.{none_yet}
use Rattle.debug_session.specs.declared.serving.SessionFault.{SessionFault}
use Rattle.debug_session.specs.declared.serving.SessionFault.TheVariants as faults
use Rattle.command_line.specs.declared.answer.Status.{Status}
use Rattle.command_line.specs.declared.answer.Status.TheVariants as status
use Rattle.debug_command.specs.DebugAnswers.{Heard, IsCloseAnswer, IsLineAnswer, IsSessionEnd, end_status}

-- what holds anyway holds of an error
pub err_anyway : {T E : Type 0} (r : Result T E) (P : Type 0) → P → IfErr r (λ _. P)
err_anyway (Ok t) P p = tt
err_anyway (Err e) P p = p

-- a line that was put and then handed on or not
pub closed_line : (wanted answer : Status) (before mid now : Output) (line : List ℕ) → mid ≡ output_with before line → IsCloseAnswer wanted answer mid now
    → IsLineAnswer wanted answer before now line
closed_line wanted answer before mid now line took (inl done) = inl (done.0, done.1 ∙ took)
closed_line wanted answer before mid now line took (inr failed) = inr (failed.0, part-whole before mid now line took failed.1)

-- a session's end, by its status
pub session_ended : {T : Type 0} (run : Run) (names : List (List ℕ)) (bytes : Heard) (before now : Output) (end : Result T SessionFault)
    → HasEnded run names bytes.coming bytes.before bytes.behind bytes.first bytes.last before now end → IsSessionEnd run names bytes before now (end_status end)
session_ended run names bytes before now (Ok t) ended = ended
session_ended run names bytes before now (Err faults.Read) ended = ended
session_ended run names bytes before now (Err faults.Write) ended = ended
session_ended run names bytes before now (Err faults.NoMemory) ended = ended

-- what was handed on in front of a session, and by it
pub handed_behind : {T : Type 0} (end : Result T SessionFault) (P Q : Type 0) → P → IsHandedOn end P Q → IsHandedOn end (Unit {0}) Q
handed_behind (Ok t) P Q first passed = λ none. passed first
handed_behind (Err faults.Read) P Q first passed = λ none. passed first
handed_behind (Err faults.Write) P Q first passed = tt
handed_behind (Err faults.NoMemory) P Q first passed = λ none. passed first

pub passed_by_status : {T : Type 0} (end : Result T SessionFault) (Q : Type 0) → IsHandedOn end (Unit {0}) Q → end_status end ≢ status.WriteFault → Q
passed_by_status (Ok t) Q passed other = passed tt
passed_by_status (Err faults.Read) Q passed other = passed tt
passed_by_status (Err faults.Write) Q passed other = absurd (other refl)
passed_by_status (Err faults.NoMemory) Q passed other = passed tt

-- nothing was written, since what was held back could not be handed on
pub broke_before : (run : Run) (names : List (List ℕ)) (all : Option Coming) (before now : Output) → FailsToPassOn before now
    → BrokeOff run names all before now faults.Write
broke_before run names None before now failed = ([], ([], refl), part-whole before before now [] (sym (gains-nil before)) failed)
broke_before run names (Some all) before now failed =
    let text = session_text run names all.bytes in
    let none = part-whole before before now [] (sym (gains-nil before)) failed in
    (text, refl, part-behind before before now [] [] text text (sym (gains-nil before)) none refl)

-- the same, told by the bytes that were given
pub answered_before : (run : Run) (names : List (List ℕ)) (given : List ℕ) (before now : Output) → FailsToPassOn before now
    → IsAnsweredInPart run names given given before now faults.Write
answered_before run names given before now failed =
    let text = session_text run names [] in
    let none = part-whole before before now [] (sym (gains-nil before)) failed in
    ([], sym (append-nil given), part-behind before before now [] [] text text (sym (gains-nil before)) none refl)

-- the same, by the transcript
pub transcribed_before : (run : Run) (names : List (List ℕ)) (given : List ℕ) (first : List Act) (before now : Output) → FailsToPassOn before now
    → IsTranscribedUpTo run names given given first first before now faults.Write
transcribed_before run names given first before now failed =
    (before, [], none_yet run names given first before, part-whole before before now [] (sym (gains-nil before)) failed)
