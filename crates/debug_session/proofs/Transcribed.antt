-- A transcript, one read and one write after the other.
use Rattle.std.proofs.Common.{◌≡◌, inl, inr, ◌⊎◌, ⊎_elim, ℕ, List, [], ◌∷◌, ◌++◌, refl, sym, ◌∙◌, ap, subst, append_assoc, append-nil}
use Rattle.sloth_io.specs.Sink.{Output, output_with}
use Rattle.sloth_io.proofs.Gains.{gains-gains, gains-nil}
use Rattle.debug_ways.specs.Runs.{Run}
use Rattle.debug_session.specs.Serving.{session_text, IsPrompt, IsTranscribed}
use Rattle.debug_session.specs.Transcripts.{Act, Read, Write, bytes_read, bytes_written}

-- ---- the bytes of one act more

pub read-read : (acts : List Act) (bytes : List ℕ) → bytes_read (acts ++ Read bytes ∷ []) ≡ bytes_read acts ++ bytes
read-read [] bytes = append-nil bytes
read-read (Read first ∷ acts) bytes = ap (λ xs. first ++ xs) (read-read acts bytes) ∙ sym (append_assoc first (bytes_read acts) bytes)
read-read (Write first ∷ acts) bytes = read-read acts bytes

pub written-read : (acts : List Act) (bytes : List ℕ) → bytes_written (acts ++ Read bytes ∷ []) ≡ bytes_written acts
written-read [] bytes = refl
written-read (Read first ∷ acts) bytes = written-read acts bytes
written-read (Write first ∷ acts) bytes = ap (λ xs. first ++ xs) (written-read acts bytes)

pub read-written : (acts : List Act) (bytes : List ℕ) → bytes_read (acts ++ Write bytes ∷ []) ≡ bytes_read acts
read-written [] bytes = refl
read-written (Read first ∷ acts) bytes = ap (λ xs. first ++ xs) (read-written acts bytes)
read-written (Write first ∷ acts) bytes = read-written acts bytes

pub written-written : (acts : List Act) (bytes : List ℕ) → bytes_written (acts ++ Write bytes ∷ []) ≡ bytes_written acts ++ bytes
written-written [] bytes = append-nil bytes
written-written (Read first ∷ acts) bytes = written-written acts bytes
written-written (Write first ∷ acts) bytes = ap (λ xs. first ++ xs) (written-written acts bytes) ∙ sym (append_assoc first (bytes_written acts) bytes)

-- ---- where an act stands

pub no-act : (before : List Act) (act : Act) (behind : List Act) → [] ≡ before ++ act ∷ behind → ⊥
no-act [] act behind e = cc
no-act (first ∷ before) act behind e = cc

-- the last one, or one before it
last-or-before : (acts : List Act) (last : Act) (before : List Act) (act : Act) (behind : List Act) → acts ++ last ∷ [] ≡ before ++ act ∷ behind
    → ((before ≡ acts) × (act ≡ last)) ⊎ ((less : List Act) × (acts ≡ before ++ act ∷ less))
last-or-before [] last [] act behind e = inl (refl, cc)
last-or-before [] last (first ∷ before) act behind e = absurd (no-act before act behind cc)
last-or-before (head ∷ acts) last [] act behind e =
    let same : head ≡ act = cc in
    inr (acts, ap (λ (x : Act). x ∷ acts) same)
last-or-before (head ∷ acts) last (first ∷ before) act behind e =
    let same : head ≡ first = cc in
    let rest : acts ++ last ∷ [] ≡ before ++ act ∷ behind = cc in
    ⊎_elim
    (λ (l : (before ≡ acts) × (act ≡ last)). inl (ap (λ (x : Act). x ∷ before) (sym same) ∙ ap (λ (xs : List Act). head ∷ xs) l.0, l.1))
    (λ (l : (less : List Act) × (acts ≡ before ++ act ∷ less)).
    inr (l.0, ap (λ (xs : List Act). head ∷ xs) l.1 ∙ ap (λ (x : Act). x ∷ (before ++ act ∷ l.0)) same))
    (last-or-before acts last before act behind rest)

-- ---- prompt

pub prompt-read : (run : Run) (names : List (List ℕ)) (acts : List Act) (bytes : List ℕ) → IsPrompt run names acts → bytes_written acts ≡ session_text run names (bytes_read acts)
    → IsPrompt run names (acts ++ Read bytes ∷ [])
prompt-read run names acts bytes prompt whole = λ before behind more e.
    ⊎_elim
    (λ (l : (before ≡ acts) × (Read more ≡ Read bytes)). subst (λ (xs : List Act). bytes_written xs ≡ session_text run names (bytes_read xs)) (sym l.0) whole)
    (λ (l : (less : List Act) × (acts ≡ before ++ Read more ∷ less)). prompt before l.0 more l.1)
    (last-or-before acts (Read bytes) before (Read more) behind e)

pub prompt-written : (run : Run) (names : List (List ℕ)) (acts : List Act) (bytes : List ℕ) → IsPrompt run names acts → IsPrompt run names (acts ++ Write bytes ∷ [])
prompt-written run names acts bytes prompt = λ before behind more e.
    ⊎_elim
    (λ (l : (before ≡ acts) × (Read more ≡ Write bytes)). absurd (let clash = l.1 in cc))
    (λ (l : (less : List Act) × (acts ≡ before ++ Read more ∷ less)). prompt before l.0 more l.1)
    (last-or-before acts (Write bytes) before (Read more) behind e)

-- ---- what a transcript has more

pub noted-more : (first acts noted last : List Act) (act : Act) → noted ≡ first ++ acts → last ≡ noted ++ act ∷ [] → last ≡ first ++ (acts ++ act ∷ [])
noted-more first acts noted last act so_far more = more ∙ ap (λ (xs : List Act). xs ++ act ∷ []) so_far ∙ append_assoc first acts (act ∷ [])

-- nothing yet
abbrev pub none_yet : (run : Run) (names : List (List ℕ)) (old : List ℕ) (first : List Act) (before : Output) → IsTranscribed run names old old first first before before
none_yet run names old first before = record {
  acts = [];
  noted = sym (append-nil first);
  given = sym (append-nil old);
  taken = sym (gains-nil before);
  prompt = λ front behind bytes e. absurd (no-act front (Read bytes) behind e);
}

-- a read, of all whose bytes so far the answers were written
abbrev pub read_more : (run : Run) (names : List (List ℕ)) (old mid new : List ℕ) (first noted last : List Act) (before now : Output) (bytes : List ℕ)
    → (h : IsTranscribed run names old mid first noted before now) → bytes_written h.acts ≡ session_text run names (bytes_read h.acts) → new ≡ mid ++ bytes
    → last ≡ noted ++ Read bytes ∷ [] → IsTranscribed run names old new first last before now
read_more run names old mid new first noted last before now bytes h whole gave more = record {
  acts = h.acts ++ Read bytes ∷ [];
  noted = noted-more first h.acts noted last (Read bytes) h.noted more;
  given = gave ∙ ap (λ (xs : List ℕ). xs ++ bytes) h.given ∙ append_assoc old (bytes_read h.acts) bytes ∙ ap (λ (xs : List ℕ). old ++ xs) (sym (read-read h.acts bytes));
  taken = h.taken ∙ ap (output_with before) (sym (written-read h.acts bytes));
  prompt = prompt-read run names h.acts bytes h.prompt whole;
}

-- a write
abbrev pub write_more : (run : Run) (names : List (List ℕ)) (old new : List ℕ) (first noted last : List Act) (before now after : Output) (bytes : List ℕ)
    → (h : IsTranscribed run names old new first noted before now) → last ≡ noted ++ Write bytes ∷ [] → after ≡ output_with now bytes
    → IsTranscribed run names old new first last before after
write_more run names old new first noted last before now after bytes h more put = record {
  acts = h.acts ++ Write bytes ∷ [];
  noted = noted-more first h.acts noted last (Write bytes) h.noted more;
  given = h.given ∙ ap (λ (xs : List ℕ). old ++ xs) (sym (read-written h.acts bytes));
  taken = put ∙ ap (λ o. output_with o bytes) h.taken ∙ gains-gains before (bytes_written h.acts) bytes
      ∙ ap (output_with before) (sym (written-written h.acts bytes));
  prompt = prompt-written run names h.acts bytes h.prompt;
}

-- the bytes of a read and of the write behind it
pub both_read : (acts : List Act) (bytes text : List ℕ) → bytes_read ((acts ++ Read bytes ∷ []) ++ Write text ∷ []) ≡ bytes_read acts ++ bytes
both_read acts bytes text = read-written (acts ++ Read bytes ∷ []) text ∙ read-read acts bytes

pub both_written : (acts : List Act) (bytes text : List ℕ) → bytes_written ((acts ++ Read bytes ∷ []) ++ Write text ∷ []) ≡ bytes_written acts ++ text
both_written acts bytes text = written-written (acts ++ Read bytes ∷ []) text ∙ ap (λ (xs : List ℕ). xs ++ text) (written-read acts bytes)
