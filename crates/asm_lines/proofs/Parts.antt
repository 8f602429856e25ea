-- Which bytes names, numbers and registers have.
use Rattle.std.proofs.Common.{◌≡◌, ℕ, ℤ, ◌+◌, ◌-◌, ◌*◌, ◌<◌, arith, Bool, true, false, not, ◌&&◌, ◌||◌, cond, List, [], ◌∷◌, length, drop, reverse, refl, ap, sym, subst, Option, Some, None}
use Rattle.std.specs.Prelude.{◌==◌, codes, slice_index, nat_le}
use Rattle.std.specs.List.{list_all}
use Rattle.std.specs.Char.{is_ascii_digit, is_ascii_hexdigit, is_ascii_alphanumeric}
use Rattle.std.specs.Str.{bytes_eq}
use Rattle.std.proofs.lemmas.Slice.Eq.{bytes_eq-Decides}
use Rattle.std.proofs.lemmas.Bool.{eqb-true, and_parts, or_left}
use Rattle.sloth_base.specs.ImageRange.{continues_word}
use Rattle.text_pieces.specs.Bytes.{is_name, begins_name}
use Rattle.asm_lines.specs.Bytes.{is_blank}
use Rattle.text_pieces.specs.Digits.{capped_value, value_from}
use Rattle.asm_lines.specs.Numbers.{number, magnitude, signed_number, is_hexadecimal, is_numeral_of}
use Rattle.asm_lines.specs.Registers.{register, small_number, lettered_register, lettered_register_by}
use Rattle.asm_lines.specs.Grammar.{HasBareEnds, has_bare_start}
use Rattle.asm_lines.proofs.Trims.{reversed_all}
use Rattle.text_pieces.proofs.Cuts.{all_weaker}

-- hexadecimal digits, x and -
abbrev pub is_number_byte : ℕ → Bool
is_number_byte b = is_ascii_hexdigit b || ((b == 120) || (b == 45))

first : (a b c : Bool) → a ≡ true → ((a || b) || c) ≡ true
first true b c h = refl
first false b c h = cc

digit_is : (b : ℕ) → is_ascii_digit b ≡ true → is_number_byte b ≡ true
digit_is b h = or_left (is_ascii_hexdigit b) ((b == 120) || (b == 45)) (first (is_ascii_digit b) _ _ h)

hex_is : (b : ℕ) → is_ascii_hexdigit b ≡ true → is_number_byte b ≡ true
hex_is b h = or_left (is_ascii_hexdigit b) ((b == 120) || (b == 45)) h

some_if : {A : Type 0} (b : Bool) (x y : A) → cond b (Some x) None ≡ Some y → b ≡ true
some_if true x y h = refl
some_if false x y h = cc

signed_some : (b : Bool) (o : Option ℕ) (z : ℤ) → signed_number b o ≡ Some z → (n : ℕ) × (o ≡ Some n)
signed_some b None z h = cc
signed_some b (Some n) z h = (n, refl)

hex_bytes : (t : List ℕ) → is_hexadecimal t ≡ true → is_numeral_of is_ascii_hexdigit (drop 2 t) ≡ true → list_all is_number_byte t ≡ true
hex_bytes [] e g = cc
hex_bytes (a ∷ []) e g = let w = and_parts (a == 48) false e in let x = w.1 in cc
hex_bytes (a ∷ b ∷ d) e g =
    let w = and_parts (a == 48) (b == 120) e in
    let all = all_weaker is_ascii_hexdigit is_number_byte hex_is d (and_parts (not (length d == 0)) (list_all is_ascii_hexdigit d) g).1 in
    subst (λ (x : ℕ). list_all is_number_byte (x ∷ b ∷ d) ≡ true) (sym (eqb-true a 48 w.0))
    (subst (λ (y : ℕ). list_all is_number_byte (48 ∷ y ∷ d) ≡ true) (sym (eqb-true b 120 w.1)) all)

magnitude_bytes : (t : List ℕ) (n : ℕ) → magnitude t ≡ Some n → list_all is_number_byte t ≡ true
unfolding magnitude
magnitude_bytes t n h =
    let hex : Option ℕ = cond (is_numeral_of is_ascii_hexdigit (drop 2 t)) (Some (capped_value (value_from 16 0 (drop 2 t)))) None in
    let dec : Option ℕ = cond (is_numeral_of is_ascii_digit t) (Some (capped_value (value_from 10 0 t))) None in
    let P : Bool → Type 0 = λ v. is_hexadecimal t ≡ v → cond v hex dec ≡ Some n → list_all is_number_byte t ≡ true in
    elim (is_hexadecimal t) as P [
      | true ↦ λ e g. hex_bytes t e (some_if (is_numeral_of is_ascii_hexdigit (drop 2 t)) (capped_value (value_from 16 0 (drop 2 t))) n g)
      | false ↦ λ e g. all_weaker is_ascii_digit is_number_byte digit_is t
          (and_parts (not (length t == 0)) (list_all is_ascii_digit t) (some_if (is_numeral_of is_ascii_digit t) (capped_value (value_from 10 0 t)) n g)).1
    ] refl h

negative_bytes : (t : List ℕ) (z : ℤ) → (slice_index t 0 == 45) ≡ true → signed_number true (magnitude (drop 1 t)) ≡ Some z → list_all is_number_byte t ≡ true
negative_bytes [] z e g = cc
negative_bytes (a ∷ d) z e g =
    let w = signed_some true (magnitude d) z g in
    subst (λ (x : ℕ). list_all is_number_byte (x ∷ d) ≡ true) (sym (eqb-true a 45 e)) (magnitude_bytes d w.0 w.1)

pub number_bytes : (t : List ℕ) (z : ℤ) → number t ≡ Some z → list_all is_number_byte t ≡ true
unfolding number
number_bytes t z h =
    let P : Bool → Type 0 = λ v. (slice_index t 0 == 45) ≡ v → cond v (signed_number true (magnitude (drop 1 t))) (signed_number false (magnitude t)) ≡ Some z → list_all is_number_byte t ≡ true in
    elim (slice_index t 0 == 45) as P [
      | true ↦ λ e g. negative_bytes t z e g
      | false ↦ λ e g. let w = signed_some false (magnitude t) z g in magnitude_bytes t w.0 w.1
    ] refl h

-- bytes of a kind that has no blank
not_blank : (p : ℕ → Bool) → p 32 ≡ false → p 9 ≡ false → (b : ℕ) → p b ≡ true → not (is_blank b) ≡ true
not_blank p s t b h =
    let P : Bool → Bool → Type 0 = λ v w. (b == 32) ≡ v → (b == 9) ≡ w → not (v || w) ≡ true in
    elim (b == 32) as (λ v. P v (b == 9)) [
      | true ↦ λ e f. let q : p b ≡ p 32 = ap p (eqb-true b 32 e) in cc
      | false ↦ elim (b == 9) as (P false) [
        | true ↦ λ e f. let q : p b ≡ p 9 = ap p (eqb-true b 9 f) in cc
        | false ↦ λ e f. refl
      ]
    ] refl refl

starts : (t : List ℕ) → list_all (λ b. not (is_blank b)) t ≡ true → has_bare_start t ≡ true
starts [] h = refl
starts (b ∷ t) h = (and_parts (not (is_blank b)) (list_all (λ x. not (is_blank x)) t) h).0

pub bare_of : (p : ℕ → Bool) → p 32 ≡ false → p 9 ≡ false → (t : List ℕ) → list_all p t ≡ true → HasBareEnds t
bare_of p s u t h =
    let all = all_weaker p (λ b. not (is_blank b)) (not_blank p s u) t h in
    record { front = starts t all; end = starts (reverse t) (reversed_all (λ b. not (is_blank b)) t all) }

pub name_bytes : (n : List ℕ) → is_name n ≡ true → list_all continues_word n ≡ true
unfolding is_name
name_bytes n h = (and_parts (begins_name n) (list_all continues_word n) h).1

letter_is : (b n x : ℕ) → lettered_register b n ≡ Some x → continues_word b ≡ true
letter_is b n x h =
    let X : Option ℕ = cond ((n == 0) || (nat_le 5 n && nat_le n 29)) (Some n) None in
    let T : Option ℕ = cond (nat_le n 2) (Some (5 + n)) (cond (nat_le n 4) (Some (25 + n)) None) in
    let S : Option ℕ = cond (nat_le n 1) (Some (8 + n)) (cond (nat_le n 11) (Some (16 + n)) None) in
    let A : Option ℕ = cond (nat_le n 7) (Some (10 + n)) None in
    let at : (k : ℕ) → continues_word k ≡ true → (b == k) ≡ true → continues_word b ≡ true = λ k w e. subst (λ (y : ℕ). continues_word y ≡ true) (sym (eqb-true b k e)) w in
    let D : Bool → Type 0 = λ v. (b == 97) ≡ v → cond v A None ≡ Some x → continues_word b ≡ true in
    let C : Bool → Type 0 = λ v. (b == 115) ≡ v → cond v S (cond (b == 97) A None) ≡ Some x → continues_word b ≡ true in
    let B : Bool → Type 0 = λ v. (b == 116) ≡ v → cond v T (cond (b == 115) S (cond (b == 97) A None)) ≡ Some x → continues_word b ≡ true in
    let Z : Bool → Type 0 = λ v. (b == 120) ≡ v → cond v X (cond (b == 116) T (cond (b == 115) S (cond (b == 97) A None))) ≡ Some x → continues_word b ≡ true in
    elim (b == 120) as Z [
      | true ↦ λ e g. at 120 refl e
      | false ↦ λ e. elim (b == 116) as B [
        | true ↦ λ f g. at 116 refl f
        | false ↦ λ f. elim (b == 115) as C [
          | true ↦ λ i g. at 115 refl i
          | false ↦ λ i. elim (b == 97) as D [ true ↦ λ j g. at 97 refl j | false ↦ λ j g. cc ] refl
        ] refl
      ] refl
    ] refl h

one_digit : (d : List ℕ) → (length d == 1) ≡ true → is_ascii_digit (slice_index d 0) ≡ true → list_all is_ascii_digit d ≡ true
one_digit [] l h = refl
one_digit (e ∷ []) l h = rw h refl
one_digit (e ∷ f ∷ d) l h = let n = eqb-true (length (e ∷ f ∷ d)) 1 l in absurd (omega (arith, n))

two_digits : (d : List ℕ) → (length d == 2) ≡ true → is_ascii_digit (slice_index d 0) ≡ true → is_ascii_digit (slice_index d 1) ≡ true → list_all is_ascii_digit d ≡ true
two_digits [] l h g = refl
two_digits (e ∷ []) l h g = rw h refl
two_digits (e ∷ f ∷ []) l h g = rw (h, g) refl
two_digits (e ∷ f ∷ k ∷ d) l h g = let n = eqb-true (length (e ∷ f ∷ k ∷ d)) 2 l in absurd (omega (arith, n))

small_digits : (d : List ℕ) (n : ℕ) → small_number d ≡ Some n → list_all is_ascii_digit d ≡ true
unfolding small_number
small_digits d n h =
    let i0 = is_ascii_digit (slice_index d 0) in
    let i1 = is_ascii_digit (slice_index d 1) in
    let z = not (slice_index d 0 == 48) in
    let two : Option ℕ = cond ((length d == 2) && (i0 && (z && i1))) (Some ((slice_index d 0 - 48) * 10 + (slice_index d 1 - 48))) None in
    let P : Bool → Type 0 = λ v. ((length d == 1) && i0) ≡ v → cond v (Some (slice_index d 0 - 48)) two ≡ Some n → list_all is_ascii_digit d ≡ true in
    elim ((length d == 1) && i0) as P [
      | true ↦ λ e g. let w = and_parts (length d == 1) i0 e in one_digit d w.0 w.1
      | false ↦ λ e g.
          let t = some_if ((length d == 2) && (i0 && (z && i1))) ((slice_index d 0 - 48) * 10 + (slice_index d 1 - 48)) n g in
          let w = and_parts (length d == 2) (i0 && (z && i1)) t in
          let y = and_parts i0 (z && i1) w.1 in
          two_digits d w.0 y.0 (and_parts z i1 y.1).1
    ] refl h

digit_continues : (b : ℕ) → is_ascii_digit b ≡ true → continues_word b ≡ true
digit_continues b h = or_left (is_ascii_alphanumeric b) (b == 95) (first (is_ascii_digit b) _ _ h)

lettered_some : (b : ℕ) (o : Option ℕ) (x : ℕ) → lettered_register_by b o ≡ Some x → (n : ℕ) × (o ≡ Some n) × (lettered_register b n ≡ Some x)
lettered_some b None x h = cc
lettered_some b (Some n) x h = (n, refl, h)

lettered_bytes : (t : List ℕ) (x : ℕ) → lettered_register_by (slice_index t 0) (small_number (drop 1 t)) ≡ Some x → list_all continues_word t ≡ true
lettered_bytes [] x h = refl
lettered_bytes (b ∷ d) x h =
    let w = lettered_some b (small_number d) x h in
    rw (letter_is b w.0 x w.2) (all_weaker is_ascii_digit continues_word digit_continues d (small_digits d w.0 w.1))

pub register_bytes : (t : List ℕ) (x : ℕ) → register t ≡ Some x → list_all continues_word t ≡ true
unfolding register
register_bytes t x h =
    let L = lettered_register_by (slice_index t 0) (small_number (drop 1 t)) in
    let fp : Option ℕ = cond (bytes_eq t (codes "fp")) (Some 8) L in
    let Q : Bool → Type 0 = λ v. bytes_eq t (codes "fp") ≡ v → cond v (Some 8) L ≡ Some x → list_all continues_word t ≡ true in
    let P : Bool → Type 0 = λ v. bytes_eq t (codes "zero") ≡ v → cond v (Some 0) fp ≡ Some x → list_all continues_word t ≡ true in
    elim (bytes_eq t (codes "zero")) as P [
      | true ↦ λ e g. ap (list_all continues_word) ((bytes_eq-Decides t (codes "zero")).0 e)
      | false ↦ λ e. elim (bytes_eq t (codes "fp")) as Q [
        | true ↦ λ f g. ap (list_all continues_word) ((bytes_eq-Decides t (codes "fp")).0 f)
        | false ↦ λ f g. lettered_bytes t x g
      ] refl
    ] refl h

pub register_some : (t : List ℕ) (x : ℕ) → register t ≡ Some x → 0 < length t
unfolding register small_number
register_some [] x h = cc
register_some (b ∷ t) x h = omega arith

pub number_some : (t : List ℕ) (z : ℤ) → number t ≡ Some z → 0 < length t
unfolding number magnitude
number_some [] z h = cc
number_some (b ∷ t) z h = omega arith
