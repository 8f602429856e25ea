-- One byte of a session after the other.
use Rattle.std.proofs.Common.{◌≡◌, ◌≤◌, ◌+◌, inl, inr, ◌==◌, ℕ, List, [], ◌∷◌, ◌++◌, length, Option, None, Some, Bool, true, false, if◌then◌else◌, suc, refl, sym, ◌∙◌, ap, arith, append_assoc, append-nil}
use Rattle.sloth_io.specs.Sink.{GainsPart, Output, output_with}
use Rattle.sloth_io.proofs.Gains.{gains-gains, gains-nil, part-behind}
use Rattle.debug_session.specs.Input.{Coming, Gives, Ends}
use Rattle.debug_session.specs.Messages.{Message, Packet, Wrong, Again, Interrupt, messages, message_of}
use Rattle.debug_session.specs.Reading.{Reading, fresh, reading_after, reading_at, event_after, event_at}
use Rattle.debug_session.specs.declared.session.Place.{Place}
use Rattle.debug_session.specs.declared.session.Place.TheVariants as places
use Rattle.debug_session.specs.declared.session.Event.{Event}
use Rattle.debug_session.specs.declared.session.Event.TheVariants as events
use Rattle.debug_ways.specs.Runs.{Run}
use Rattle.debug_session.specs.declared.serving.SessionFault.TheVariants as faults
use Rattle.debug_session.specs.Sessions.{Session, first_session, behind_message, answer, answers}
use Rattle.debug_session.specs.Serving.{bytes_answer, session_text, behind_event, event_answer, IsDue, IsRest, IsOwed, IsWhole, IsBroken, IsTooLong, BrokeOff}

-- a message of a session that is not over
one-answer : (run : Run) (names : List (List ℕ)) (session : Session) (message : Message) (more : List Message) → session.standing.over ≡ false
    → answers run names session (message ∷ more) ≡ answer run names session message ++ answers run names (behind_message run names session message) more
one-answer run names session message more on =
    ap (λ b. if b then [] else answer run names session message ++ answers run names (behind_message run names session message) more) on

-- what a byte completes, and what comes behind it
event-answers : (run : Run) (names : List (List ℕ)) (session : Session) (event : Event) (content : List ℕ) (more : List Message) → session.standing.over ≡ false
    → answers run names session (message_of event content ++ more)
    ≡ event_answer run names session event content ++ answers run names (behind_event run names session event content) more
event-answers run names session events.Nothing content more on = refl
event-answers run names session events.Interrupt content more on = one-answer run names session Interrupt more on
event-answers run names session events.Again content more on = one-answer run names session Again more on
event-answers run names session events.Wrong content more on = one-answer run names session Wrong more on
event-answers run names session events.Packet content more on = one-answer run names session (Packet content) more on

-- a session that is over
over-answers : (run : Run) (names : List (List ℕ)) (session : Session) (more : List Message) → session.standing.over ≡ true → answers run names session more ≡ []
over-answers run names session [] over = refl
over-answers run names session (message ∷ more) over =
    ap (λ b. if b then [] else answer run names session message ++ answers run names (behind_message run names session message) more) over

-- what a byte more of a session is: the byte comes, and completes this
pub record IsByte (run : Run) (names : List (List ℕ)) (old new : Option Coming) (session next : Session) (reading further : Reading) (event : Event) (byte : ℕ) : Type 0 where
  pub on : session.standing.over ≡ false
  pub gives : Gives old new (byte ∷ [])
  pub event_is : event ≡ event_after reading byte
  pub reading_is : further ≡ reading_after reading byte
  pub next_is : next ≡ behind_event run names session event further.content

-- the content of a packet that a byte completes is that from before the byte
content-by : (place : Place) (reading : Reading) (byte : ℕ) → event_at place reading byte ≡ events.Packet → (reading_at place reading byte).content ≡ reading.content
content-by places.Outside reading byte packet = absurd (none (byte == 3) (byte == 45) packet) where
  none : (a b : Bool) → (if a then events.Interrupt else if b then events.Again else events.Nothing) ≡ events.Packet → ⊥
  none true b e = cc
  none false true e = cc
  none false false e = cc
content-by places.Inside reading byte packet = absurd cc
content-by places.Behind reading byte packet = absurd cc
content-by (places.Half first) reading byte packet = refl

content-kept : (reading : Reading) (byte : ℕ) → event_after reading byte ≡ events.Packet → (reading_after reading byte).content ≡ reading.content
content-kept reading byte packet = content-by reading.place reading byte packet

message-same : (event : Event) (one other : List ℕ) → (event ≡ events.Packet → one ≡ other) → message_of event one ≡ message_of event other
message-same events.Nothing one other same = refl
message-same events.Interrupt one other same = refl
message-same events.Again one other same = refl
message-same events.Wrong one other same = refl
message-same events.Packet one other same = ap (λ content. Packet content ∷ []) (same refl)

-- what is written for it, and for what comes behind it
pub byte-answer : (run : Run) (names : List (List ℕ)) (old new : Option Coming) (session next : Session) (reading further : Reading) (event : Event) (byte : ℕ) (rest : List ℕ)
    → IsByte run names old new session next reading further event byte
    → bytes_answer run names session reading (byte ∷ rest) ≡ event_answer run names session event further.content ++ bytes_answer run names next further rest
byte-answer run names old new session next reading further event byte rest is =
    ap (λ e. answers run names session (message_of e reading.content ++ messages (reading_after reading byte) rest)) (sym is.event_is)
    ∙ ap (λ r. answers run names session (message_of event reading.content ++ messages r rest)) (sym is.reading_is)
    ∙ ap (λ m. answers run names session (m ++ messages further rest)) (message-same event reading.content further.content
    (λ packet. sym (ap (λ (r : Reading). r.content) is.reading_is ∙ content-kept reading byte (sym is.event_is ∙ packet))))
    ∙ event-answers run names session event further.content (messages further rest) is.on
    ∙ ap (λ s. event_answer run names session event further.content ++ answers run names s (messages further rest)) (sym is.next_is)

-- nothing is owed yet
pub owed_first : (run : Run) (names : List (List ℕ)) (all : Option Coming) (before : Output) (session : Session) (reading : Reading)
    → session ≡ first_session → reading ≡ fresh → IsOwed run names all before session reading all 0 before
owed_first run names all before session reading first new = record { written = []; taken = sym (gains-nil before); left = by all } where
  by : (all : Option Coming) → IsRest run names all session reading all 0 []
  by None = ([], λ more. ap (λ s. bytes_answer run names s reading more) first ∙ ap (λ r. bytes_answer run names first_session r more) new)
  by (Some all) = (
    all,
    refl,
    refl,
    omega arith,
    ap (λ s. bytes_answer run names s reading all.bytes) first ∙ ap (λ r. bytes_answer run names first_session r all.bytes) new,
  )

-- what is left behind a byte more
rest-more : (run : Run) (names : List (List ℕ)) (all old new : Option Coming) (session next : Session) (reading further : Reading) (event : Event) (byte count : ℕ) (written : List ℕ)
    → IsByte run names old new session next reading further event byte → IsRest run names all session reading old count written
    → IsRest run names all next further new (count + 1) (written ++ event_answer run names session event further.content)
rest-more run names None old new session next reading further event byte count written is left =
    let text : List ℕ = event_answer run names session event further.content in (
      left.0 ++ byte ∷ [],
      λ more. append_assoc written text (bytes_answer run names next further more)
          ∙ ap (λ t. written ++ t) (sym (byte-answer run names old new session next reading further event byte more is)) ∙ left.1 (byte ∷ more)
          ∙ ap (session_text run names) (sym (append_assoc left.0 (byte ∷ []) more)),
    )
rest-more run names (Some all) None new session next reading further event byte count written is left = let e = left.1 in cc
rest-more run names (Some all) (Some coming) new session next reading further event byte count written is left =
    let same : coming ≡ left.0 = (let e = left.1 in cc) in
    let rest : List ℕ = is.gives.0 in
    let text : List ℕ = event_answer run names session event further.content in
    let split : left.0.bytes ≡ byte ∷ rest = ap (λ (c : Coming). c.bytes) (sym same) ∙ is.gives.1 in
    let longer : length left.0.bytes ≡ suc (length rest) = ap length split in
    let counted : count + length left.0.bytes ≡ length all.bytes = left.3 in (
      record { bytes = rest; broken = coming.broken },
      is.gives.2,
      ap (λ (c : Coming). c.broken) same ∙ left.2,
      omega (arith, longer, counted),
      append_assoc written text (bytes_answer run names next further rest)
          ∙ ap (λ t. written ++ t) (sym (byte-answer run names (Some coming) new session next reading further event byte rest is))
          ∙ ap (λ bytes. written ++ bytes_answer run names session reading bytes) (sym split) ∙ left.4,
    )

-- a byte more
pub owed_more : (run : Run) (names : List (List ℕ)) (all old new : Option Coming) (before now after : Output) (session next : Session) (reading further : Reading) (event : Event) (byte count : ℕ)
    → IsOwed run names all before session reading old count now → IsByte run names old new session next reading further event byte
    → after ≡ output_with now (event_answer run names session event further.content) → IsOwed run names all before next further new (count + 1) after
owed_more run names all old new before now after session next reading further event byte count owed is put = record {
  written = owed.written ++ event_answer run names session event further.content;
  taken = put ∙ ap (λ o. output_with o (event_answer run names session event further.content)) owed.taken
      ∙ gains-gains before owed.written (event_answer run names session event further.content);
  left = rest-more run names all old new session next reading further event byte count owed.written is owed.left;
}

-- ---- the end

-- nothing more is due
due-whole : (run : Run) (names : List (List ℕ)) (all rest : Option Coming) (session : Session) (reading : Reading) (count : ℕ) (written : List ℕ)
    → IsRest run names all session reading rest count written → ((left : Coming) → rest ≡ Some left → bytes_answer run names session reading left.bytes ≡ [])
    → IsDue run names all written
due-whole run names None rest session reading count written left none =
    (left.0, sym (append-nil written) ∙ left.1 [] ∙ ap (session_text run names) (append-nil left.0))
due-whole run names (Some all) rest session reading count written left none =
    sym (append-nil written) ∙ ap (λ t. written ++ t) (sym (none left.0 left.1)) ∙ left.4

-- the session is over
pub owed_over : (run : Run) (names : List (List ℕ)) (all rest : Option Coming) (before now : Output) (session : Session) (reading : Reading) (count : ℕ)
    → IsOwed run names all before session reading rest count now → session.standing.over ≡ true → IsWhole run names all before now
owed_over run names all rest before now session reading count owed over = (
  owed.written,
  due-whole run names all rest session reading count owed.written owed.left (λ left e. over-answers run names session (messages reading left.bytes) over),
  owed.taken,
)

no-bytes : (old new : Option Coming) (broken : Bool) (left : Coming) → Ends old new broken → old ≡ Some left → left.bytes ≡ []
no-bytes None new broken left ends e = cc
no-bytes (Some coming) new broken left ends e =
    let same : coming ≡ left = cc in
    ap (λ (c : Coming). c.bytes) (sym same) ∙ ends.0

-- nothing comes any more
pub owed_end : (run : Run) (names : List (List ℕ)) (all old new : Option Coming) (before now : Output) (session : Session) (reading : Reading) (count : ℕ) (broken : Bool)
    → IsOwed run names all before session reading old count now → Ends old new broken → IsWhole run names all before now
owed_end run names all old new before now session reading count broken owed ends = (
  owed.written,
  due-whole run names all old session reading count owed.written owed.left
      (λ left e. ap (bytes_answer run names session reading) (no-bytes old new broken left ends e)),
  owed.taken,
)

-- ---- what breaks off

-- a fault stands where nothing comes any more
broken-end : (run : Run) (names : List (List ℕ)) (all old new : Option Coming) (session : Session) (reading : Reading) (count : ℕ) (written : List ℕ)
    → IsRest run names all session reading old count written → Ends old new true → IsBroken all
broken-end run names None old new session reading count written left ends = tt
broken-end run names (Some all) None new session reading count written left ends = let e = left.1 in cc
broken-end run names (Some all) (Some coming) new session reading count written left ends =
    let same : coming ≡ left.0 = (let e = left.1 in cc) in
    sym left.2 ∙ ap (λ (c : Coming). c.broken) (sym same) ∙ ends.1

-- a read failed
pub broke_reading : (run : Run) (names : List (List ℕ)) (all old new : Option Coming) (before now : Output) (session : Session) (reading : Reading) (count : ℕ)
    → IsOwed run names all before session reading old count now → Ends old new true → BrokeOff run names all before now faults.Read
broke_reading run names all old new before now session reading count owed ends = inl (
  owed_end run names all old new before now session reading count true owed ends,
  broken-end run names all old new session reading count owed.written owed.left ends,
)

-- too many bytes came
pub broke_counting : (run : Run) (names : List (List ℕ)) (all rest : Option Coming) (before now : Output) (session : Session) (reading : Reading) (count : ℕ)
    → IsOwed run names all before session reading rest count now → 18446744073709551615 ≤ count → BrokeOff run names all before now faults.Read
broke_counting run names all rest before now session reading count owed many = inr (by all owed.left) where
  by : (all : Option Coming) → IsRest run names all session reading rest count owed.written → IsTooLong all
  by None left = tt
  by (Some all) left = let counted : count + length left.0.bytes ≡ length all.bytes = left.3 in omega (arith, many, counted)

-- what is due, where an answer is next
due-more : (run : Run) (names : List (List ℕ)) (all old new : Option Coming) (session next : Session) (reading further : Reading) (event : Event) (byte count : ℕ) (written : List ℕ)
    → IsByte run names old new session next reading further event byte → IsRest run names all session reading old count written
    → (more : List ℕ) × IsDue run names all (written ++ (event_answer run names session event further.content ++ more))
due-more run names None old new session next reading further event byte count written is left = (
  bytes_answer run names next further [],
  (
    left.0 ++ byte ∷ [],
    ap (λ t. written ++ t) (sym (byte-answer run names old new session next reading further event byte [] is)) ∙ left.1 (byte ∷ []),
  ),
)
due-more run names (Some all) None new session next reading further event byte count written is left = let e = left.1 in cc
due-more run names (Some all) (Some coming) new session next reading further event byte count written is left =
    let same : coming ≡ left.0 = (let e = left.1 in cc) in
    let split : left.0.bytes ≡ byte ∷ is.gives.0 = ap (λ (c : Coming). c.bytes) (sym same) ∙ is.gives.1 in (
      bytes_answer run names next further is.gives.0,
      ap (λ t. written ++ t) (sym (byte-answer run names (Some coming) new session next reading further event byte is.gives.0 is))
          ∙ ap (λ bytes. written ++ bytes_answer run names session reading bytes) (sym split) ∙ left.4,
    )

-- an answer was not written, or not all of it
pub broke_writing : (run : Run) (names : List (List ℕ)) (all old new : Option Coming) (before now after : Output) (session next : Session) (reading further : Reading) (event : Event) (byte count : ℕ)
    → IsOwed run names all before session reading old count now → IsByte run names old new session next reading further event byte
    → GainsPart now after (event_answer run names session event further.content) → BrokeOff run names all before after faults.Write
broke_writing run names all old new before now after session next reading further event byte count owed is broke =
    let due = due-more run names all old new session next reading further event byte count owed.written is owed.left in
    let text : List ℕ = event_answer run names session event further.content in (
      owed.written ++ (text ++ due.0),
      due.1,
      part-behind before now after owed.written text due.0 (owed.written ++ (text ++ due.0)) owed.taken broke refl,
    )

-- memory was wanting for it
pub broke_wanting : (run : Run) (names : List (List ℕ)) (all old new : Option Coming) (before now : Output) (session next : Session) (reading further : Reading) (event : Event) (byte count : ℕ)
    → IsOwed run names all before session reading old count now → IsByte run names old new session next reading further event byte
    → BrokeOff run names all before now faults.NoMemory
broke_wanting run names all old new before now session next reading further event byte count owed is =
    let due = due-more run names all old new session next reading further event byte count owed.written is owed.left in
    (owed.written, event_answer run names session event further.content ++ due.0, due.1, owed.taken)

-- nothing was written
pub broke_first : (run : Run) (names : List (List ℕ)) (all : Option Coming) (before : Output) → BrokeOff run names all before before faults.NoMemory
broke_first run names None before = ([], session_text run names [], ([], refl), sym (gains-nil before))
broke_first run names (Some all) before = ([], session_text run names all.bytes, refl, sym (gains-nil before))
