-- What was written for the bytes that an input gave.
use Rattle.std.proofs.Common.{◌≡◌, ℕ, List, [], ◌∷◌, ◌++◌, refl, sym, ◌∙◌, ap, append_assoc, append-nil}
use Rattle.std.specs.Prelude.{Option}
use Rattle.sloth_io.specs.Sink.{GainsPart, Output, output_with}
use Rattle.sloth_io.proofs.Gains.{gains-nil, part-behind}
use Rattle.debug_session.specs.Input.{Coming}
use Rattle.debug_session.specs.Reading.{Reading, fresh}
use Rattle.debug_session.specs.declared.session.Event.{Event}
use Rattle.debug_ways.specs.Runs.{Run}
use Rattle.debug_session.specs.declared.serving.SessionFault.TheVariants as faults
use Rattle.debug_session.specs.Sessions.{Session, first_session}
use Rattle.debug_session.specs.Serving.{bytes_answer, session_text, event_answer, HasAnswered, IsAnswered, IsAnsweredInPart, IsTranscribed, IsTranscribedUpTo}
use Rattle.debug_session.specs.Transcripts.{Act, Read, Write, bytes_read, bytes_written}
use Rattle.debug_session.proofs.Answering.{IsByte, byte-answer}
use Rattle.debug_session.proofs.Transcribed.{both_read, both_written, none_yet, read_more, write_more}

-- no byte was given yet
pub answered_first : (run : Run) (names : List (List ℕ)) (old : List ℕ) (first : List Act) (before : Output) (session : Session) (reading : Reading)
    → session ≡ first_session → reading ≡ fresh → HasAnswered run names old old first first before before session reading
answered_first run names old first before session reading begun new = record {
  so_far = none_yet run names old first before;
  answered = λ more. sym (ap (λ s. bytes_answer run names s reading more) begun ∙ ap (λ r. bytes_answer run names first_session r more) new);
}

module _ (run : Run) (names : List (List ℕ)) (old mid : List ℕ) (first noted : List Act) (before now : Output) (session : Session) (reading : Reading)
    (h : HasAnswered run names old mid first noted before now session reading) where
  abbrev came : List ℕ
  came = bytes_read h.so_far.acts

  abbrev written : List ℕ
  written = bytes_written h.so_far.acts

  -- what was written is the text
  all-written : written ≡ session_text run names came
  all-written = sym (ap (session_text run names) (sym (append-nil came)) ∙ h.answered [] ∙ append-nil written)

  pub answered_whole : IsAnswered run names old mid before now
  answered_whole = (came, h.so_far.given, h.so_far.taken ∙ ap (output_with before) all-written)

  -- the input was asked, and gave no more
  module _ (new : List ℕ) (last : List Act) (same : new ≡ mid) (asked : last ≡ noted ++ Read [] ∷ []) where
    pub answered_end : IsAnswered run names old new before now
    answered_end = (came, same ∙ h.so_far.given, h.so_far.taken ∙ ap (output_with before) all-written)

    pub transcribed_end : IsTranscribed run names old new first last before now
    transcribed_end = read_more run names old mid new first noted last before now [] h.so_far all-written (same ∙ sym (append-nil mid)) asked

  -- it gave a byte
  module _ (new : List ℕ) (asked : List Act) (next : Session) (further : Reading) (event : Event) (byte : ℕ) (coming behind : Option Coming)
      (is : IsByte run names coming behind session next reading further event byte) (gave : new ≡ mid ++ byte ∷ []) (more : asked ≡ noted ++ Read (byte ∷ []) ∷ []) where
    abbrev text : List ℕ
    text = event_answer run names session event further.content

    with-byte : IsTranscribed run names old new first asked before now
    with-byte = read_more run names old mid new first noted asked before now (byte ∷ []) h.so_far all-written gave more

    given : new ≡ old ++ (came ++ byte ∷ [])
    given = gave ∙ ap (λ (bytes : List ℕ). bytes ++ byte ∷ []) h.so_far.given ∙ append_assoc old came (byte ∷ [])

    -- the text with the byte
    text-more : (rest : List ℕ) → session_text run names (came ++ byte ∷ rest) ≡ written ++ (text ++ bytes_answer run names next further rest)
    text-more rest = h.answered (byte ∷ rest) ∙ ap (λ t. written ++ t) (byte-answer run names coming behind session next reading further event byte rest is)

    -- and its answer was written
    pub answered_more : (last : List Act) (after : Output) → last ≡ asked ++ Write text ∷ [] → after ≡ output_with now text
        → HasAnswered run names old new first last before after next further
    answered_more last after noted_so put = record {
      so_far = write_more run names old new first asked last before now after text
          (read_more run names old mid new first noted asked before now (byte ∷ []) h.so_far all-written gave more) noted_so put;
      answered = λ rest. ap (λ (bytes : List ℕ). session_text run names (bytes ++ rest)) (both_read h.so_far.acts (byte ∷ []) text)
          ∙ ap (session_text run names) (append_assoc came (byte ∷ []) rest) ∙ text-more rest
          ∙ sym (append_assoc written text (bytes_answer run names next further rest))
          ∙ ap (λ (bytes : List ℕ). bytes ++ bytes_answer run names next further rest) (sym (both_written h.so_far.acts (byte ∷ []) text));
    }

    -- or not, or not all of it
    module _ (after : Output) (broke : GainsPart now after text) where
      pub written_in_part : IsAnsweredInPart run names old new before after faults.Write
      written_in_part = (
        came ++ byte ∷ [],
        given,
        part-behind before now after written text (bytes_answer run names next further []) (session_text run names (came ++ byte ∷ []))
            h.so_far.taken broke (text-more []),
      )

      pub transcribed_in_part : IsTranscribedUpTo run names old new first asked before after faults.Write
      transcribed_in_part = (now, text, with-byte, broke)

    -- or memory was wanting for it
    pub answered_in_part : IsAnsweredInPart run names old new before now faults.NoMemory
    answered_in_part = (came ++ byte ∷ [], written, text ++ bytes_answer run names next further [], given, text-more [], h.so_far.taken)

    pub transcribed_wanting : IsTranscribedUpTo run names old new first asked before now faults.NoMemory
    transcribed_wanting = with-byte

-- nothing was read
pub part_first : (run : Run) (names : List (List ℕ)) (old : List ℕ) (before : Output) → IsAnsweredInPart run names old old before before faults.NoMemory
part_first run names old before = ([], [], session_text run names [], sym (append-nil old), refl, sym (gains-nil before))

pub transcribed_first : (run : Run) (names : List (List ℕ)) (old : List ℕ) (first : List Act) (before : Output)
    → IsTranscribedUpTo run names old old first first before before faults.NoMemory
transcribed_first run names old first before = none_yet run names old first before
