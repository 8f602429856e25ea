-- A session over bytes that come.
use Rattle.std.specs.Prelude.{◌≡◌, ◌≤◌, ◌+◌, ◌⊎◌, ℕ, List, [], ◌∷◌, ◌++◌, length, Option, None, Some, Result, Ok, Err, true}
use Rattle.sloth_io.specs.Sink.{Output, output_with, GainsPart}
use Rattle.debug_session.specs.Input.{Coming}
use Rattle.debug_session.specs.Messages.{Packet, Wrong, Again, Interrupt, messages}
use Rattle.debug_session.specs.Reading.{Reading, fresh}
use Rattle.debug_session.specs.declared.session.Event.{Event}
use Rattle.debug_session.specs.declared.session.Event.TheVariants as events
use Rattle.debug_ways.specs.Runs.{Run}
use Rattle.debug_session.specs.declared.serving.SessionFault.{SessionFault}
use Rattle.debug_session.specs.declared.serving.SessionFault.TheVariants as faults
use Rattle.debug_session.specs.Sessions.{Session, first_session, behind_message, answer, answers}
use Rattle.debug_session.specs.Transcripts.{Act, Read, bytes_read, bytes_written}

-- what is written for bytes behind others
abbrev pub bytes_answer : Run → List (List ℕ) → Session → Reading → List ℕ → List ℕ
bytes_answer run names session reading bytes = answers run names session (messages reading bytes)

-- what is written for the bytes of a session: the answers to the messages among them, up to the end of the session
abbrev pub session_text : Run → List (List ℕ) → List ℕ → List ℕ
session_text run names bytes = bytes_answer run names first_session fresh bytes

-- ---- a byte

-- a session behind what a byte completes
abbrev pub behind_event : Run → List (List ℕ) → Session → Event → List ℕ → Session
behind_event run names session events.Nothing content = session
behind_event run names session events.Interrupt content = behind_message run names session Interrupt
behind_event run names session events.Again content = behind_message run names session Again
behind_event run names session events.Wrong content = behind_message run names session Wrong
behind_event run names session events.Packet content = behind_message run names session (Packet content)

-- what is written for it
abbrev pub event_answer : Run → List (List ℕ) → Session → Event → List ℕ → List ℕ
event_answer run names session events.Nothing content = []
event_answer run names session events.Interrupt content = answer run names session Interrupt
event_answer run names session events.Again content = answer run names session Again
event_answer run names session events.Wrong content = answer run names session Wrong
event_answer run names session events.Packet content = answer run names session (Packet content)

-- ---- all of it

-- a text is what is due: of an input that tells what comes, what is written for that, of another what is written for some bytes
abbrev pub IsDue : Run → List (List ℕ) → Option Coming → List ℕ → Type 0
IsDue run names None text = (bytes : List ℕ) × (text ≡ session_text run names bytes)
IsDue run names (Some all) text = text ≡ session_text run names all.bytes

-- all that is due was written, and nothing else
abbrev pub IsWhole : Run → List (List ℕ) → Option Coming → (before now : Output) → Type 0
IsWhole run names all before now = (text : List ℕ) × IsDue run names all text × (now ≡ output_with before text)

-- a fault stands behind the bytes that come
abbrev pub IsBroken : Option Coming → Type 0
IsBroken None = Unit {0}
IsBroken (Some all) = all.broken ≡ true

-- more bytes come than are read
abbrev pub IsTooLong : Option Coming → Type 0
IsTooLong None = Unit {0}
IsTooLong (Some all) = 18446744073709551615 ≤ length all.bytes

-- Why a session broke off, and what it wrote. A read failed: all was answered that came before. A write failed: of what is due some first part was
-- written. Memory was wanting: so many answers were written.
abbrev pub BrokeOff : Run → List (List ℕ) → Option Coming → (before now : Output) → SessionFault → Type 0
BrokeOff run names all before now faults.Read = (IsWhole run names all before now × IsBroken all) ⊎ IsTooLong all
BrokeOff run names all before now faults.Write = (text : List ℕ) × IsDue run names all text × GainsPart before now text
BrokeOff run names all before now faults.NoMemory = (part rest : List ℕ) × IsDue run names all (part ++ rest) × (now ≡ output_with before part)

-- ---- by the bytes that an input gave

-- what was written is the text for the bytes that an input gave meanwhile
abbrev pub IsAnswered : Run → List (List ℕ) → (old new : List ℕ) → (before now : Output) → Type 0
IsAnswered run names old new before now = (read : List ℕ) × (new ≡ old ++ read) × (now ≡ output_with before (session_text run names read))

-- Where a session broke off: behind a read that failed all of that text was written. Where a write failed, or memory was wanting, some first part of it was.
abbrev pub IsAnsweredInPart : Run → List (List ℕ) → (old new : List ℕ) → (before now : Output) → SessionFault → Type 0
IsAnsweredInPart run names old new before now faults.Read = IsAnswered run names old new before now
IsAnsweredInPart run names old new before now faults.Write =
    (read : List ℕ) × (new ≡ old ++ read) × GainsPart before now (session_text run names read)
IsAnsweredInPart run names old new before now faults.NoMemory =
    (read part rest : List ℕ) × (new ≡ old ++ read) × (session_text run names read ≡ part ++ rest) × (now ≡ output_with before part)

-- ---- in what order

-- each time that the input was asked for a byte, all that is due for the bytes before had been handed on
abbrev pub IsPrompt : Run → List (List ℕ) → List Act → Type 0
IsPrompt run names acts =
    (before behind : List Act) (bytes : List ℕ) → acts ≡ before ++ Read bytes ∷ behind → bytes_written before ≡ session_text run names (bytes_read before)

-- what a transcript has more: the bytes that an input gave meanwhile and all that was written, each reply handed on before the next byte was asked for
pub record IsTranscribed (run : Run) (names : List (List ℕ)) (old new : List ℕ) (first last : List Act) (before now : Output) : Type 0 where
  pub acts : List Act
  pub noted : last ≡ first ++ acts
  pub given : new ≡ old ++ bytes_read acts
  pub taken : now ≡ output_with before (bytes_written acts)
  pub prompt : IsPrompt run names acts

-- where a session broke off; behind a write that failed stands some first part of one more reply
abbrev pub IsTranscribedUpTo : Run → List (List ℕ) → (old new : List ℕ) → (first last : List Act) → (before now : Output) → SessionFault → Type 0
IsTranscribedUpTo run names old new first last before now faults.Read = IsTranscribed run names old new first last before now
IsTranscribedUpTo run names old new first last before now faults.Write =
    (mid : Output) × (text : List ℕ) × IsTranscribed run names old new first last before mid × GainsPart mid now text
IsTranscribedUpTo run names old new first last before now faults.NoMemory = IsTranscribed run names old new first last before now

-- ---- how it ended

-- a session over a run broke off so, by what comes, by the bytes that an input gave and by the transcript
pub record IsBrokenOff (run : Run) (names : List (List ℕ)) (coming : Option Coming) (old new : List ℕ) (first last : List Act) (before now : Output) (fault : SessionFault) : Type 0 where
  pub broke : BrokeOff run names coming before now fault
  pub partly : IsAnsweredInPart run names old new before now fault
  pub transcribed : IsTranscribedUpTo run names old new first last before now fault

-- it did not: all was answered
pub record IsAllAnswered (run : Run) (names : List (List ℕ)) (coming : Option Coming) (old new : List ℕ) (first last : List Act) (before now : Output) : Type 0 where
  pub whole : IsWhole run names coming before now
  pub answered : IsAnswered run names old new before now
  pub transcribed : IsTranscribed run names old new first last before now

-- one of both
abbrev pub HasEnded : {T : Type 0} → Run → List (List ℕ) → Option Coming → (old new : List ℕ) → (first last : List Act) → (before now : Output) → Result T SessionFault → Type 0
HasEnded run names coming old new first last before now (Ok _) = IsAllAnswered run names coming old new first last before now
HasEnded run names coming old new first last before now (Err fault) = IsBrokenOff run names coming old new first last before now fault

-- what was put was handed on, if what was put before had been, unless a write broke the session off
abbrev pub IsHandedOn : {T : Type 0} → Result T SessionFault → (before now : Type 0) → Type 0
IsHandedOn (Ok _) before now = before → now
IsHandedOn (Err faults.Read) before now = before → now
IsHandedOn (Err faults.Write) before now = Unit {0}
IsHandedOn (Err faults.NoMemory) before now = before → now

-- ---- on the way

-- the transcript so far, and what is to be written for more bytes
pub record HasAnswered (run : Run) (names : List (List ℕ)) (old new : List ℕ) (first last : List Act) (before now : Output) (session : Session) (reading : Reading) : Type 0 where
  pub so_far : IsTranscribed run names old new first last before now
  pub answered : (more : List ℕ) → session_text run names (bytes_read so_far.acts ++ more)
      ≡ bytes_written so_far.acts ++ bytes_answer run names session reading more

-- Of an input that tells what comes: behind so many bytes this is left, and what is written for it stands behind what was written. Of another: what is
-- written for any more stands behind that.
abbrev pub IsRest : Run → List (List ℕ) → (all : Option Coming) → Session → Reading → (rest : Option Coming) → (count : ℕ) → (written : List ℕ) → Type 0
IsRest run names None session reading rest count written =
    (read : List ℕ) × ((more : List ℕ) → written ++ bytes_answer run names session reading more ≡ session_text run names (read ++ more))
IsRest run names (Some all) session reading rest count written =
    (left : Coming) × (rest ≡ Some left) × (left.broken ≡ all.broken) × (count + length left.bytes ≡ length all.bytes)
    × (written ++ bytes_answer run names session reading left.bytes ≡ session_text run names all.bytes)

-- behind so many bytes this was written
pub record IsOwed (run : Run) (names : List (List ℕ)) (all : Option Coming) (before : Output) (session : Session) (reading : Reading) (rest : Option Coming)
    (count : ℕ) (now : Output) : Type 0 where
  pub written : List ℕ
  pub taken : now ≡ output_with before written
  pub left : IsRest run names all session reading rest count written
