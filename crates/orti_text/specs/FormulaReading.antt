-- Formulas, read from text.
use Rattle.std.specs.Prelude.{ℕ, zero, suc, ◌≡◌, ◌≤◌, ◌<◌, ◌^◌, ◌==◌, ⊤, false, cond, max, List, [], ◌∷◌, ◌++◌, codes, take, drop, Option, Some, None, Result, Ok, Err}
use Rattle.std.specs.Char.{is_ascii_digit}
use Rattle.std.specs.Int.{from_be_bytes, w32}
use Rattle.std.specs.List.{prefix_len}
use Rattle.hex.specs.Hex.{decode_of}
use Rattle.hex.specs.declared.error.FromHexError.{FromHexError}
use Rattle.text_pieces.specs.Digits.{value_from}
use Rattle.orti_text.specs.Formulas.{Formula, Number, Hex, Word, Byte, Equal, Choice, text}

-- ---- readers

-- what was read of a text, if it begins with that, and the rest
abbrev pub Reading : Type 0 → Type 0
Reading A = Option (A × List ℕ)

-- one reader after another
infixl 10 ◌>>=◌
abbrev pub ◌>>=◌ : {A B : Type 0} → Option A → (A → Option B) → Option B
Some x >>= f = f x
None >>= f = None

-- what the first reader has read, else what the second has
abbrev pub or_else : {A : Type 0} → Option A → Option A → Option A
or_else (Some x) other = Some x
or_else None other = other

-- the text after a word with which it begins
abbrev pub after_word : (word text : List ℕ) → Option (List ℕ)
after_word [] text = Some text
after_word (b ∷ word) [] = None
after_word (b ∷ word) (c ∷ text) = cond (c == b) (after_word word text) None

-- ---- numbers

-- the number that four bytes are
abbrev pub number_of_bytes : Result (List ℕ) FromHexError → Option ℕ
number_of_bytes (Ok bytes) = Some (from_be_bytes w32 bytes)
number_of_bytes (Err e) = None

-- eight hexadecimal digits, which a formula is made from
abbrev pub read_hex : (ℕ → Formula) → List ℕ → Reading Formula
read_hex made text = do
  n ← number_of_bytes (decode_of (take 8 text))
  Some (made n, drop 8 text)

-- decimal digits
abbrev pub read_decimal : List ℕ → Reading Formula
read_decimal text = Some (Number (value_from 10 0 (take (prefix_len is_ascii_digit text) text)), drop (prefix_len is_ascii_digit text) text)

-- ---- formulas

-- what stands after `*`
abbrev pub read_place : List ℕ → Reading Formula
read_place text =
    or_else (after_word (codes "(unsigned int *)0x") text >>= read_hex Word) (after_word (codes "(unsigned char *)0x") text >>= read_hex Byte)

abbrev pub read_number : List ℕ → Reading Formula
read_number text = or_else (after_word (codes "0x") text >>= read_hex Hex) (read_decimal text)

-- what stands after an opening bracket
abbrev pub read_brackets : (whole : List ℕ → Reading Formula) → List ℕ → Reading Formula
read_brackets whole text = do
  f ← whole text
  rest ← after_word (codes ")") f.1
  Some (f.0, rest)

-- a formula in brackets, a place or a number
abbrev pub read_operand : (whole : List ℕ → Reading Formula) → List ℕ → Reading Formula
read_operand whole [] = None
read_operand whole (c ∷ text) = cond (c == 40) (read_brackets whole text) (cond (c == 42) (read_place text) (read_number (c ∷ text)))

abbrev pub read_equal : (operand : List ℕ → Reading Formula) → Formula → List ℕ → Reading Formula
read_equal operand f text = do
  text ← after_word (codes " == ") text
  g ← operand text
  Some (Equal f g.0, g.1)

abbrev pub read_choice : (operand : List ℕ → Reading Formula) → Formula → List ℕ → Reading Formula
read_choice operand f text = do
  text ← after_word (codes " ? ") text
  g ← operand text
  text ← after_word (codes " : ") g.1
  h ← operand text
  Some (Choice f g.0 h.0, h.1)

-- an operand, and what stands after it
abbrev pub read_whole : (operand : List ℕ → Reading Formula) → List ℕ → Reading Formula
read_whole operand text = do
  f ← operand text
  or_else (read_equal operand f.0 f.1) (or_else (read_choice operand f.0 f.1) (Some f))

-- a formula that has brackets in brackets, at most so deep
abbrev pub read_formula : (depth : ℕ) → List ℕ → Reading Formula
read_formula zero text = None
read_formula (suc depth) text = read_whole (read_operand (read_formula depth)) text

-- ---- the law

abbrev pub depth_of : Formula → ℕ
depth_of (Equal f g) = suc (max (depth_of f) (depth_of g))
depth_of (Choice f g h) = suc (max (depth_of f) (max (depth_of g) (depth_of h)))
depth_of _ = 1

-- its numbers are those of C
abbrev pub HasNumbers : Formula → Type 0
HasNumbers (Number n) = n < 2 ^ 32
HasNumbers (Hex n) = n < 2 ^ 32
HasNumbers (Word address) = address < 2 ^ 32
HasNumbers (Byte address) = address < 2 ^ 32
HasNumbers (Equal f g) = HasNumbers f × HasNumbers g
HasNumbers (Choice f g h) = HasNumbers f × HasNumbers g × HasNumbers h

-- a text that goes on no number, and no formula: it begins with no digit, no `x` and no blank
abbrev pub EndsNumber : List ℕ → Type 0
EndsNumber [] = ⊤
EndsNumber (c ∷ rest) = (is_ascii_digit c ≡ false) × ((c == 120) ≡ false)

abbrev pub EndsFormula : List ℕ → Type 0
EndsFormula [] = ⊤
EndsFormula (c ∷ rest) = (is_ascii_digit c ≡ false) × ((c == 120) ≡ false) × ((c == 32) ≡ false)

-- the text of a formula is read as this formula
abbrev pub FormulasReadBack : Type 0
FormulasReadBack =
    (f : Formula) (depth : ℕ) (rest : List ℕ) → HasNumbers f → depth_of f ≤ depth → EndsFormula rest
    → read_formula depth (text f ++ rest) ≡ Some (f, rest)
