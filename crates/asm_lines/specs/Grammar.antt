-- Parts of operands, as the format draws them.
use Rattle.std.specs.Prelude.{◌≡◌, ℕ, ℤ, pos, negsuc, neg_ℤ, nat_lt, ◌+◌, Bool, true, false, not, List, [], ◌∷◌, ◌++◌, reverse, codes, Some}
use Rattle.std.specs.List.{list_all}
use Rattle.asm_lines.specs.declared.operands.Operand.{Operand}
use Rattle.asm_lines.specs.declared.operands.Operand.TheVariants.{Direct}
use Rattle.sloth_base.specs.ImageRange.{continues_word}
use Rattle.asm_lines.specs.declared.source_line.SourceLine.{SourceLine}
use Rattle.asm_lines.specs.declared.source_line.SourceLine.TheVariants.{Shapeless}
use Rattle.text_pieces.specs.Bytes.{is_name, is_byte_of}
use Rattle.asm_lines.specs.Bytes.{is_blank, is_shown, is_letter}
use Rattle.asm_lines.specs.SourceLines.{has_empty}
use Rattle.text_pieces.specs.Digits.{value_from, capped_value}
use Rattle.asm_lines.specs.Numbers.{number, is_numeral_of}
use Rattle.std.specs.Char.{is_ascii_digit, is_ascii_hexdigit}
use Rattle.asm_lines.specs.Registers.{register}
use Rattle.asm_lines.specs.Operands.{small_of, direct_operand_at, indexed_operand_at, frame_operand}

-- blanks alone, or nothing
abbrev pub Blanks : List ℕ → Type 0
Blanks t = list_all is_blank t ≡ true

-- no blank stands in front
abbrev pub has_bare_start : List ℕ → Bool
has_bare_start [] = true
has_bare_start (b ∷ t) = not (is_blank b)

-- no blank stands at either end
pub record HasBareEnds (t : List ℕ) : Type 0 where
  pub front : has_bare_start t ≡ true
  pub end : has_bare_start (reverse t) ≡ true

-- x is t without the blanks at both ends
pub record IsTrimmed (t x : List ℕ) : Type 0 where
  pub before : List ℕ
  pub behind : List ℕ
  pub blanks_before : Blanks before
  pub blanks_behind : Blanks behind
  pub text : t ≡ before ++ (x ++ behind)
  pub bare : HasBareEnds x

-- `NAME`, `NAME+k`, `NAME[reg & m]`, and in the frame `frame[k]`. Blanks are allowed round `+` (43) and `&` (38), and inside the
-- brackets (91, 93). A number that is out of its range makes the operand that is outside.
pub data IsPlaceText (in_frame : Bool) : List ℕ → Operand → Type 0 where
  is_alone : (n : List ℕ) → is_name n ≡ true → IsPlaceText in_frame n (Direct n 0)
  is_offset : (n a b k : List ℕ) (z : ℤ) → is_name n ≡ true → Blanks a → Blanks b → number k ≡ Some z
      → IsPlaceText in_frame (n ++ (a ++ 43 ∷ (b ++ k))) (direct_operand_at n (small_of (Some z)))
  is_indexed : (n a r b c m d : List ℕ) (x : ℕ) (z : ℤ) → is_name n ≡ true → Blanks a → Blanks b → Blanks c → Blanks d → register r ≡ Some x → number m ≡ Some z
      → IsPlaceText in_frame (n ++ 91 ∷ (a ++ (r ++ (b ++ 38 ∷ (c ++ (m ++ (d ++ 93 ∷ []))))))) (indexed_operand_at n (Some x) (small_of (Some z)))
  is_frame : (a k b : List ℕ) (z : ℤ) → in_frame ≡ true → Blanks a → Blanks b → number k ≡ Some z
      → IsPlaceText in_frame (codes "frame" ++ 91 ∷ (a ++ (k ++ (b ++ 93 ∷ [])))) (frame_operand (small_of (Some z)))

-- x is what remains of a line: a `#` (35) starts a comment, and the blanks at both ends do not count
pub data IsRemains : List ℕ → List ℕ → Type 0 where
  is_whole : (c x : List ℕ) → is_byte_of 35 c ≡ false → IsTrimmed c x → IsRemains c x
  is_commented : (c comment x : List ℕ) → is_byte_of 35 c ≡ false → IsTrimmed c x → IsRemains (c ++ 35 ∷ comment) x

-- operands separated by `,` (44), with blanks allowed round each
pub data IsOperands : List ℕ → List (List ℕ) → Type 0 where
  is_last : (part t : List ℕ) → is_byte_of 44 part ≡ false → IsTrimmed part t → IsOperands part (t ∷ [])
  is_more : (part t rest : List ℕ) (ts : List (List ℕ)) → is_byte_of 44 part ≡ false → IsTrimmed part t → IsOperands rest ts → IsOperands (part ++ 44 ∷ rest) (t ∷ ts)

-- behind the word nothing, or at least one blank and operands that are not empty
pub data IsTail : List ℕ → List (List ℕ) → Type 0 where
  is_nothing : IsTail [] []
  is_something : (b : ℕ) (r : List ℕ) (ts : List (List ℕ)) → is_blank b ≡ true → IsOperands (b ∷ r) ts → has_empty ts ≡ false → IsTail (b ∷ r) ts

-- t has the shape of a statement: a word that begins with a letter, and operands; all bytes are 0x20 to 0x7E or tab
pub record IsShape (t word : List ℕ) (operands : List (List ℕ)) : Type 0 where
  pub rest : List ℕ
  pub shown : list_all is_shown t ≡ true
  pub letter : is_letter word ≡ true
  pub is_word : list_all continues_word word ≡ true
  pub text : t ≡ word ++ rest
  pub tail : IsTail rest operands

-- a line without the shape of a statement
abbrev pub is_shapeless : SourceLine → Bool
is_shapeless Shapeless = true
is_shapeless _ = false

-- t is the number z: digits in one of two bases, with an optional `-` (45) before them
pub data IsNumber : List ℕ → ℤ → Type 0 where
  is_decimal : (d : List ℕ) → is_numeral_of is_ascii_digit d ≡ true → IsNumber d (pos (value_from 10 0 d))
  is_hex : (d : List ℕ) → is_numeral_of is_ascii_hexdigit d ≡ true → IsNumber (48 ∷ 120 ∷ d) (pos (value_from 16 0 d))
  is_minus : (d : List ℕ) → is_numeral_of is_ascii_digit d ≡ true → IsNumber (45 ∷ d) (neg_ℤ (pos (value_from 10 0 d)))
  is_minus_hex : (d : List ℕ) → is_numeral_of is_ascii_hexdigit d ≡ true → IsNumber (45 ∷ 48 ∷ 120 ∷ d) (neg_ℤ (pos (value_from 16 0 d)))

-- a number as the reader keeps it: no further from 0 than 4,294,967,296
abbrev pub capped_integer : ℤ → ℤ
capped_integer (pos n) = pos (capped_value n)
capped_integer (negsuc n) = neg_ℤ (pos (capped_value (n + 1)))

-- ranges that end within 4,294,967,295 of 0
abbrev pub is_near : ℤ → Bool
is_near (pos n) = nat_lt n 4294967296
is_near (negsuc n) = nat_lt n 4294967295

-- the names of the registers that task code may use
abbrev pub register_names : List (List ℕ × ℕ)
register_names = (codes "x0", 0) ∷ (codes "x5", 5) ∷ (codes "x6", 6) ∷ (codes "x7", 7) ∷ (codes "x8", 8) ∷ (codes "x9", 9)
    ∷ (codes "x10", 10) ∷ (codes "x11", 11) ∷ (codes "x12", 12) ∷ (codes "x13", 13) ∷ (codes "x14", 14) ∷ (codes "x15", 15) ∷ (codes "x16", 16)
    ∷ (codes "x17", 17) ∷ (codes "x18", 18) ∷ (codes "x19", 19) ∷ (codes "x20", 20) ∷ (codes "x21", 21) ∷ (codes "x22", 22) ∷ (codes "x23", 23)
    ∷ (codes "x24", 24) ∷ (codes "x25", 25) ∷ (codes "x26", 26) ∷ (codes "x27", 27) ∷ (codes "x28", 28) ∷ (codes "x29", 29) ∷ (codes "zero", 0)
    ∷ (codes "t0", 5) ∷ (codes "t1", 6) ∷ (codes "t2", 7) ∷ (codes "s0", 8) ∷ (codes "fp", 8) ∷ (codes "s1", 9) ∷ (codes "a0", 10)
    ∷ (codes "a1", 11) ∷ (codes "a2", 12) ∷ (codes "a3", 13) ∷ (codes "a4", 14) ∷ (codes "a5", 15) ∷ (codes "a6", 16) ∷ (codes "a7", 17)
    ∷ (codes "s2", 18) ∷ (codes "s3", 19) ∷ (codes "s4", 20) ∷ (codes "s5", 21) ∷ (codes "s6", 22) ∷ (codes "s7", 23) ∷ (codes "s8", 24)
    ∷ (codes "s9", 25) ∷ (codes "s10", 26) ∷ (codes "s11", 27) ∷ (codes "t3", 28) ∷ (codes "t4", 29) ∷ []
