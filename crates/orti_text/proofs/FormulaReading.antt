-- The text of a formula is read as this formula.
use Rattle.std.proofs.Common.{◌≡◌, ◌∙◌, ℕ, zero, suc, ◌<◌, ◌≤◌, ◌^◌, ◌==◌, Bool, true, false, cond, List, [], ◌∷◌, ◌++◌, Some, None, append_assoc, arith, drop, length, refl, sym, ap, take}
use Rattle.std.specs.Prelude.{codes, decimal, Option}
use Rattle.std.specs.Char.{is_ascii_digit}
use Rattle.std.specs.Int.{byte_at, bytes_high_first, to_be_bytes, w32}
use Rattle.std.specs.List.{list_all, prefix_len}
use Rattle.std.proofs.lemmas.Bool.{and_parts, eqb-true}
use Rattle.std.proofs.lemmas.Fmt.{decimal_nonempty}
use Rattle.std.proofs.lemmas.Nat.{from_be_bytes-to_be_bytes_4}
use Rattle.std.proofs.Math.Seq.{take-append_seam, drop-append_seam}
use Rattle.hex.proofs.HexLemmas.{decode_of-encode_lower, length-encode_with}
use Rattle.hex.specs.Hex.{IsBytes, decode_of, lower_digits}
use Rattle.text_pieces.specs.Digits.{value_from}
use Rattle.text_pieces.proofs.Cuts.{run_length, stops}
use Rattle.trace_text.specs.MarkWords.{word_text}
use Rattle.trace_text.proofs.Digits.{writes}
use Rattle.orti_text.specs.FormulaReading.{EndsFormula, EndsNumber, FormulasReadBack, HasNumbers, Reading, after_word, depth_of, number_of_bytes, read_choice, read_equal, read_formula, or_else, read_brackets, read_decimal, read_hex, read_number, read_operand, read_place, read_whole, ◌>>=◌}
use Rattle.orti_text.specs.Formulas.{Formula, Number, Hex, Word, Byte, Equal, Choice, in_brackets, operand, text}

-- ---- numbers

word_bytes_long : (n : ℕ) → length (word_text n) ≡ 8
unfolding word_text
word_bytes_long n = length-encode_with lower_digits (to_be_bytes w32 n)

byte_small : (i n : ℕ) → byte_at i n < 256
byte_small zero n = omega arith
byte_small (suc i) n = omega arith

bytes_small : (k n : ℕ) → IsBytes (bytes_high_first k n)
bytes_small zero n i = omega arith
bytes_small (suc k) n zero = byte_small k n
bytes_small (suc k) n (suc i) = bytes_small k n i

word_back : (n : ℕ) → n < 2 ^ 32 → number_of_bytes (decode_of (word_text n)) ≡ Some n
unfolding word_text
word_back n h =
    ap number_of_bytes (decode_of-encode_lower (to_be_bytes w32 n) (bytes_small 4 n)) ∙ ap Some (from_be_bytes-to_be_bytes_4 n h)

hex_back : (made : ℕ → Formula) (n : ℕ) (rest : List ℕ) → n < 2 ^ 32 → read_hex made (word_text n ++ rest) ≡ Some (made n, rest)
hex_back made n rest h =
    let long = word_bytes_long n in
    let front : take 8 (word_text n ++ rest) ≡ word_text n = ap (λ k. take k (word_text n ++ rest)) (sym long) ∙ take-append_seam (word_text n) rest in
    let back : drop 8 (word_text n ++ rest) ≡ rest = ap (λ k. drop k (word_text n ++ rest)) (sym long) ∙ drop-append_seam (word_text n) rest in
    let read : number_of_bytes (decode_of (take 8 (word_text n ++ rest))) ≡ Some n = ap (λ t. number_of_bytes (decode_of t)) front ∙ word_back n h in
    rw (read, back) refl

-- ---- operands

-- no text
abbrev nothing : Option (List ℕ)
nothing = None

module _ (whole : List ℕ → Reading Formula) where
  word_operand : (n : ℕ) (rest : List ℕ) → n < 2 ^ 32 → read_operand whole (text (Word n) ++ rest) ≡ Some (Word n, rest)
  word_operand n rest h = rw (hex_back Word n rest h) refl

  byte_operand : (n : ℕ) (rest : List ℕ) → n < 2 ^ 32 → read_operand whole (text (Byte n) ++ rest) ≡ Some (Byte n, rest)
  byte_operand n rest h = rw (hex_back Byte n rest h) refl

  hex_operand : (n : ℕ) (rest : List ℕ) → n < 2 ^ 32 → read_operand whole (text (Hex n) ++ rest) ≡ Some (Hex n, rest)
  hex_operand n rest h = rw (hex_back Hex n rest h) refl

  -- ---- decimal digits

  is_not : (c d : ℕ) → is_ascii_digit c ≡ false → is_ascii_digit d ≡ true → (d == c) ≡ false
  is_not c d fails h = other (d == c) refl
    where
      other : (b : Bool) → (d == c) ≡ b → b ≡ false
      other false e = refl
      other true e = let q : is_ascii_digit d ≡ is_ascii_digit c = ap is_ascii_digit (eqb-true d c e) in cc

  ends_stops : (rest : List ℕ) → EndsNumber rest → stops is_ascii_digit rest ≡ true
  ends_stops [] h = refl
  ends_stops (c ∷ rest) h = rw (h.0) refl

  none_both : (b : Bool) → cond b nothing nothing ≡ nothing
  none_both true = refl
  none_both false = refl

  -- no `x` stands after the first of these digits
  no_hex : (d : ℕ) (ds rest : List ℕ) → list_all is_ascii_digit ds ≡ true → EndsNumber rest → after_word (codes "0x") (d ∷ (ds ++ rest)) ≡ None
  no_hex d [] [] h e = none_both (d == 48)
  no_hex d [] (c ∷ rest) h e = rw (e.1) (none_both (d == 48))
  no_hex d (c ∷ ds) rest h e = let w = and_parts (is_ascii_digit c) (list_all is_ascii_digit ds) h in rw (is_not 120 c refl w.0) (none_both (d == 48))

  digits_operand : (ds rest : List ℕ) → 0 < length ds → list_all is_ascii_digit ds ≡ true → EndsNumber rest
      → read_operand whole (ds ++ rest) ≡ Some (Number (value_from 10 0 ds), rest)
  digits_operand [] rest some h e = absurd (omega (arith, some))
  digits_operand (d ∷ ds) rest some h e =
      let w = and_parts (is_ascii_digit d) (list_all is_ascii_digit ds) h in
      let all : List ℕ = d ∷ ds in
      let run : prefix_len is_ascii_digit (all ++ rest) ≡ length all = run_length is_ascii_digit all rest h (ends_stops rest e) in
      let front : take (prefix_len is_ascii_digit (all ++ rest)) (all ++ rest) ≡ all = ap (λ k. take k (all ++ rest)) run ∙ take-append_seam all rest in
      let back : drop (prefix_len is_ascii_digit (all ++ rest)) (all ++ rest) ≡ rest = ap (λ k. drop k (all ++ rest)) run ∙ drop-append_seam all rest in
      let read : List ℕ → List ℕ → Option (Formula × List ℕ) = λ a b. Some (Number (value_from 10 0 a), b) in
      ap (λ b. cond b (read_brackets whole (ds ++ rest)) (cond (d == 42) (read_place (ds ++ rest)) (read_number (all ++ rest)))) (is_not 40 d refl w.0)
      ∙ ap (λ b. cond b (read_place (ds ++ rest)) (read_number (all ++ rest))) (is_not 42 d refl w.0)
      ∙ ap (λ (x : Option (List ℕ)). or_else (x >>= read_hex Hex) (read_decimal (all ++ rest))) (no_hex d ds rest w.1 e)
      ∙ ap (λ a. read a (drop (prefix_len is_ascii_digit (all ++ rest)) (all ++ rest))) front ∙ ap (λ b. read all b) back

  number_operand : (n : ℕ) (rest : List ℕ) → n < 2 ^ 32 → EndsNumber rest → read_operand whole (text (Number n) ++ rest) ≡ Some (Number n, rest)
  number_operand n rest h e =
      let small : n < 2 ^ 64 = omega (arith, h) in
      let w = writes n small in
      digits_operand (decimal n) rest (decimal_nonempty n small) w.digits_alone e ∙ ap (λ v. Some (Number v, rest)) w.value

  -- ---- brackets

  brackets_operand : (f : Formula) (t rest : List ℕ) → whole (t ++ codes ")" ++ rest) ≡ Some (f, codes ")" ++ rest)
      → read_operand whole (in_brackets t ++ rest) ≡ Some (f, rest)
  brackets_operand f t rest h = ap (λ (r : Reading Formula). r >>= close) h
    where
      close : Formula × List ℕ → Reading Formula
      close r = after_word (codes ")") r.1 >>= (λ u. Some (r.0, u))

-- ---- formulas

-- what an operand is read as, where a formula in brackets is read back
operand_back : (whole : List ℕ → Reading Formula) (f : Formula) (rest : List ℕ) → HasNumbers f → EndsNumber rest
    → ((after : List ℕ) → EndsFormula after → whole (text f ++ after) ≡ Some (f, after)) → read_operand whole (operand f (text f) ++ rest) ≡ Some (f, rest)
operand_back whole (Number n) rest h e back = number_operand whole n rest h e
operand_back whole (Hex n) rest h e back = hex_operand whole n rest h
operand_back whole (Word n) rest h e back = word_operand whole n rest h
operand_back whole (Byte n) rest h e back = byte_operand whole n rest h
operand_back whole (Equal f g) rest h e back = brackets_operand whole (Equal f g) (text (Equal f g)) rest
    (ap whole (append_assoc (text (Equal f g)) (codes ")") rest) ∙ back (codes ")" ++ rest) (refl, refl, refl))
operand_back whole (Choice f g k) rest h e back = brackets_operand whole (Choice f g k) (text (Choice f g k)) rest
    (ap whole (append_assoc (text (Choice f g k)) (codes ")") rest) ∙ back (codes ")" ++ rest) (refl, refl, refl))

depth_some : (f : Formula) → 1 ≤ depth_of f
depth_some (Number n) = omega arith
depth_some (Hex n) = omega arith
depth_some (Word n) = omega arith
depth_some (Byte n) = omega arith
depth_some (Equal f g) = omega arith
depth_some (Choice f g h) = omega arith

ends_number : (rest : List ℕ) → EndsFormula rest → EndsNumber rest
ends_number [] e = tt
ends_number (c ∷ rest) e = (e.0, e.1)

module _ (op : List ℕ → Reading Formula) where
  -- what follows an operand
  abbrev next : Formula × List ℕ → Reading Formula
  next f = or_else (read_equal op f.0 f.1) (or_else (read_choice op f.0 f.1) (Some f))

  alone : (f : Formula) (rest : List ℕ) → EndsFormula rest → next (f, rest) ≡ Some (f, rest)
  alone f [] e = refl
  alone f (c ∷ rest) e = rw (e.2) refl

  -- an operand with nothing after it
  ended : (f : Formula) (t rest : List ℕ) → op t ≡ Some (f, rest) → EndsFormula rest → read_whole op t ≡ Some (f, rest)
  ended f t rest h e = ap (λ (r : Reading Formula). r >>= next) h ∙ alone f rest e

  equal_back : (f g : Formula) (a b rest : List ℕ) → op (a ++ (codes " == " ++ (b ++ rest))) ≡ Some (f, codes " == " ++ (b ++ rest))
      → op (b ++ rest) ≡ Some (g, rest) → read_whole op (a ++ codes " == " ++ b ++ rest) ≡ Some (Equal f g, rest)
  equal_back f g a b rest first second =
      let after : List ℕ = codes " == " ++ (b ++ rest) in
      let last : Formula × List ℕ → Reading Formula = λ r. Some (Equal f r.0, r.1) in
      ap (read_whole op) (append_assoc (a ++ codes " == ") b rest ∙ append_assoc a (codes " == ") (b ++ rest))
      ∙ ap (λ (r : Reading Formula). r >>= next) first
      ∙ ap (λ (r : Reading Formula). or_else (r >>= last) (or_else (read_choice op f after) (Some (f, after)))) second

  choice_back : (f g h : Formula) (a b c rest : List ℕ)
      → op (a ++ (codes " ? " ++ (b ++ (codes " : " ++ (c ++ rest))))) ≡ Some (f, codes " ? " ++ (b ++ (codes " : " ++ (c ++ rest))))
      → op (b ++ (codes " : " ++ (c ++ rest))) ≡ Some (g, codes " : " ++ (c ++ rest))
      → op (c ++ rest) ≡ Some (h, rest) → read_whole op (a ++ codes " ? " ++ b ++ codes " : " ++ c ++ rest) ≡ Some (Choice f g h, rest)
  choice_back f g h a b c rest first second third =
      let behind : List ℕ = codes " : " ++ (c ++ rest) in
      let after : List ℕ = codes " ? " ++ (b ++ behind) in
      let last : Formula → Formula × List ℕ → Reading Formula = λ x r. Some (Choice f x r.0, r.1) in
      let middle : Formula × List ℕ → Reading Formula = λ x. after_word (codes " : ") x.1 >>= (λ t. op t >>= last x.0) in
      ap (read_whole op)
      (append_assoc (a ++ codes " ? " ++ b ++ codes " : ") c rest ∙ append_assoc (a ++ codes " ? " ++ b) (codes " : ") (c ++ rest)
      ∙ append_assoc (a ++ codes " ? ") b behind ∙ append_assoc a (codes " ? ") (b ++ behind))
      ∙ ap (λ (r : Reading Formula). r >>= next) first
      ∙ ap (λ (r : Reading Formula). or_else (r >>= middle) (Some (f, after))) second
      ∙ ap (λ (r : Reading Formula). or_else (r >>= last g) (Some (f, after))) third

back : (depth : ℕ) (f : Formula) (rest : List ℕ) → HasNumbers f → depth_of f ≤ depth → EndsFormula rest → read_formula depth (text f ++ rest) ≡ Some (f, rest)
back zero f rest h deep e = let some = depth_some f in absurd (omega (arith, deep, some))
back (suc n) (Number k) rest h deep e =
    ended (read_operand (read_formula n)) (Number k) (text (Number k) ++ rest) rest (number_operand (read_formula n) k rest h (ends_number rest e)) e
back (suc n) (Hex k) rest h deep e = ended (read_operand (read_formula n)) (Hex k) (text (Hex k) ++ rest) rest (hex_operand (read_formula n) k rest h) e
back (suc n) (Word k) rest h deep e = ended (read_operand (read_formula n)) (Word k) (text (Word k) ++ rest) rest (word_operand (read_formula n) k rest h) e
back (suc n) (Byte k) rest h deep e = ended (read_operand (read_formula n)) (Byte k) (text (Byte k) ++ rest) rest (byte_operand (read_formula n) k rest h) e
back (suc n) (Equal f g) rest h deep e =
    let op = read_operand (read_formula n) in
    let b = operand g (text g) in
    equal_back op f g (operand f (text f)) b rest
    (operand_back (read_formula n) f (codes " == " ++ (b ++ rest)) h.0 (refl, refl) (λ after ends. back n f after h.0 (omega (arith, deep)) ends))
    (operand_back (read_formula n) g rest h.1 (ends_number rest e) (λ after ends. back n g after h.1 (omega (arith, deep)) ends))
back (suc n) (Choice f g k) rest h deep e =
    let op = read_operand (read_formula n) in
    let b = operand g (text g) in
    let c = operand k (text k) in
    choice_back op f g k (operand f (text f)) b c rest
    (operand_back (read_formula n) f (codes " ? " ++ (b ++ (codes " : " ++ (c ++ rest)))) h.0 (refl, refl)
    (λ after ends. back n f after h.0 (omega (arith, deep)) ends))
    (operand_back (read_formula n) g (codes " : " ++ (c ++ rest)) h.1 (refl, refl) (λ after ends. back n g after h.1 (omega (arith, deep)) ends))
    (operand_back (read_formula n) k rest h.2 (ends_number rest e) (λ after ends. back n k after h.2 (omega (arith, deep)) ends))

pub formulas_read_back : FormulasReadBack
formulas_read_back f depth rest h deep e = back depth f rest h deep e
