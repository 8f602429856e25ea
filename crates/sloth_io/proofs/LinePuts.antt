-- A text that is put a line at a time.
use Rattle.std.proofs.Common.{◌≡◌, ◌≢◌, ◌∙◌, ℕ, Bool, true, false, List, [], ◌∷◌, ◌++◌, length, take, drop, refl, sym, ap, subst, append_assoc, append-nil, true≢false}
use Rattle.std.specs.Prelude.{◌==◌}
use Rattle.std.specs.List.{concat}
use Rattle.std.proofs.lemmas.List.Folds.{concat-append}
use Rattle.sloth_io.specs.Sink.{Output, output_with, GainsPart}
use Rattle.sloth_io.specs.Lines.{before_first, lines_in, line_size, BreaksOffInLine}
use Rattle.sloth_io.proofs.Gains.{gains-gains, gains-nil, part-behind}

-- the first line, and those behind it
pub cut-first : (text : List ℕ) → text ≢ [] → lines_in text ≡ take (line_size text) text ∷ lines_in (drop (line_size text) text)
cut-first [] some = absurd (some refl)
cut-first (byte ∷ rest) some = by (byte == 10) refl rest refl (cut-first rest)
  where
    by : (is : Bool) → (byte == 10) ≡ is → (r : List ℕ) → rest ≡ r
        → (rest ≢ [] → lines_in rest ≡ take (line_size rest) rest ∷ lines_in (drop (line_size rest) rest))
        → lines_in (byte ∷ rest) ≡ take (line_size (byte ∷ rest)) (byte ∷ rest) ∷ lines_in (drop (line_size (byte ∷ rest)) (byte ∷ rest))
    by true e r s next = rw e refl
    by false e [] s next = rw (e, s) refl
    by false e (_ ∷ _) s next = rw e (ap (before_first byte) (next (λ none. cc)))

-- of a text that is cut there
pub cut-rest : (text : List ℕ) (size : ℕ) (line behind : List ℕ) → (length text == 0) ≡ false → size ≡ line_size text → line ≡ take size text
    → behind ≡ drop size text → lines_in text ≡ line ∷ lines_in behind
cut-rest [] size line behind some is front back = absurd (true≢false some)
cut-rest (byte ∷ rest) size line behind some is front back =
    let text : List ℕ = byte ∷ rest in
    cut-first text (λ none. cc) ∙ ap (λ n. take n text ∷ lines_in (drop n text)) (sym is) ∙ ap (λ x. x ∷ lines_in (drop size text)) (sym front)
    ∙ ap (λ x. line ∷ lines_in x) (sym back)

-- the text was put up to this rest of it, a line at a time
pub record HavePut (old new : Output) (before after : List (List ℕ)) (text rest : List ℕ) : Type 0 where
  pub done : List (List ℕ)
  pub cut : lines_in text ≡ done ++ lines_in rest
  pub front : text ≡ concat done ++ rest
  pub taken : new ≡ output_with old (concat done)
  pub pieces : after ≡ before ++ done

pub put-none : (old : Output) (before : List (List ℕ)) (text : List ℕ) → HavePut old old before before text text
put-none old before text = record { done = []; cut = refl; front = refl; taken = sym (gains-nil old); pieces = sym (append-nil before) }

-- and then a line more
pub put-more : (old mid new : Output) (before among after : List (List ℕ)) (text rest line behind : List ℕ) → HavePut old mid before among text rest
    → rest ≡ line ++ behind → lines_in rest ≡ line ∷ lines_in behind → new ≡ output_with mid line → after ≡ among ++ line ∷ []
    → HavePut old new before after text behind
put-more old mid new before among after text rest line behind h split first took put =
    let whole : concat (h.done ++ line ∷ []) ≡ concat h.done ++ line = concat-append h.done (line ∷ []) ∙ ap (λ x. concat h.done ++ x) (append-nil line) in
    record {
      done = h.done ++ line ∷ [];
      cut = h.cut ∙ ap (λ x. h.done ++ x) first ∙ sym (append_assoc h.done (line ∷ []) (lines_in behind));
      front = h.front ∙ ap (λ x. concat h.done ++ x) split ∙ sym (append_assoc (concat h.done) line behind) ∙ ap (λ x. x ++ behind) (sym whole);
      taken = took ∙ ap (λ x. output_with x line) h.taken ∙ gains-gains old (concat h.done) line ∙ ap (output_with old) (sym whole);
      pieces = put ∙ ap (λ x. x ++ line ∷ []) h.pieces ∙ append_assoc before h.done (line ∷ []);
    }

-- or the next line broke off
pub put-broke : (old mid new : Output) (before among after : List (List ℕ)) (text rest line behind : List ℕ) → HavePut old mid before among text rest
    → lines_in rest ≡ line ∷ lines_in behind → GainsPart mid new line → after ≡ among ++ line ∷ [] → BreaksOffInLine old new before after text
put-broke old mid new before among after text rest line behind h first broke put =
    let P : Output → Type 0 = λ x. GainsPart x new line in
    record {
      done = h.done;
      line = line;
      rest = lines_in behind;
      cut = h.cut ∙ ap (λ x. h.done ++ x) first;
      pieces = put ∙ ap (λ x. x ++ line ∷ []) h.pieces ∙ append_assoc before h.done (line ∷ []);
      taken = subst P h.taken broke;
    }

-- so a part of the text was taken
pub put-part : (old mid new : Output) (before among : List (List ℕ)) (text rest line behind : List ℕ) → HavePut old mid before among text rest
    → rest ≡ line ++ behind → GainsPart mid new line → GainsPart old new text
put-part old mid new before among text rest line behind h split broke =
    part-behind old mid new (concat h.done) line behind text h.taken broke (h.front ∙ ap (λ x. concat h.done ++ x) split)
