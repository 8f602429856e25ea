-- A number as it is read tells whether the true one is in a range.
use Rattle.std.proofs.Common.{◌≡◌, ℕ, ℤ, pos, negsuc, neg_ℤ, ◌+◌, ◌<◌, ◌≤◌, Bool, true, false, not, ◌&&◌, cond, List, [], ◌∷◌, length, drop, refl, ap, arith, sym, ◌∙◌, subst, suc, zero, add-one, Option, Some, None, ltb, ◌⊎◌, inl, inr}
use Rattle.std.specs.Prelude.{◌==◌, slice_index, int_lt}
use Rattle.std.specs.List.{list_all}
use Rattle.std.specs.Char.{is_ascii_digit, is_ascii_hexdigit}
use Rattle.std.proofs.lemmas.Bool.{eqb-true, cases_lt, lt-ltb, and_parts}
use Rattle.std.proofs.lemmas.Option.{cond_some}
use mathlib.Core.Bool.{and-false}
use Rattle.text_pieces.specs.Digits.{capped_value, value_from}
use Rattle.asm_lines.specs.Numbers.{number, magnitude, signed_number, is_hexadecimal, is_numeral_of, is_within}
use Rattle.asm_lines.specs.Grammar.{IsNumber, is_decimal, is_hex, is_minus, is_minus_hex, capped_integer, is_near}
use borrow.Author.Tests.{ltb-true}

neg_capped : (n : ℕ) → neg_ℤ (pos (capped_value n)) ≡ capped_integer (neg_ℤ (pos n))
neg_capped zero = refl
neg_capped (suc n) = ap (λ k. neg_ℤ (pos (capped_value k))) (sym (add-one n))

not_hex : (d : List ℕ) → list_all is_ascii_digit d ≡ true → is_hexadecimal d ≡ false
not_hex [] h = refl
not_hex (a ∷ []) h = elim (a == 48) as (λ v. (v && false) ≡ false) [ true ↦ refl | false ↦ refl ]
not_hex (a ∷ b ∷ d) h =
    let w = and_parts (is_ascii_digit a) (is_ascii_digit b && list_all is_ascii_digit d) h in
    let y = (and_parts (is_ascii_digit b) (list_all is_ascii_digit d) w.1).0 in
    let P : Bool → Type 0 = λ v. (b == 120) ≡ v → ((a == 48) && v) ≡ false in
    let Q : Bool → Type 0 = λ v. (v && false) ≡ false in
    elim (b == 120) as P [
      | true ↦ λ e. let q : is_ascii_digit b ≡ is_ascii_digit 120 = ap is_ascii_digit (eqb-true b 120 e) in cc
      | false ↦ λ e. elim (a == 48) as Q [ true ↦ refl | false ↦ refl ]
    ] refl

not_minus : (d : List ℕ) → list_all is_ascii_digit d ≡ true → (slice_index d 0 == 45) ≡ false
not_minus [] h = refl
not_minus (a ∷ d) h =
    let y = (and_parts (is_ascii_digit a) (list_all is_ascii_digit d) h).0 in
    let P : Bool → Type 0 = λ v. (a == 45) ≡ v → v ≡ false in
    elim (a == 45) as P [
      | true ↦ λ e. let q : is_ascii_digit a ≡ is_ascii_digit 45 = ap is_ascii_digit (eqb-true a 45 e) in cc
      | false ↦ λ e. refl
    ] refl

decimal_magnitude : (d : List ℕ) → is_numeral_of is_ascii_digit d ≡ true → magnitude d ≡ Some (capped_value (value_from 10 0 d))
unfolding magnitude
decimal_magnitude d h = let n = not_hex d (and_parts (not (length d == 0)) (list_all is_ascii_digit d) h).1 in rw (n, h) refl

hex_magnitude : (d : List ℕ) → is_numeral_of is_ascii_hexdigit d ≡ true → magnitude (48 ∷ 120 ∷ d) ≡ Some (capped_value (value_from 16 0 d))
unfolding magnitude
hex_magnitude d h = rw h refl

plain : (t : List ℕ) (n : ℕ) → (slice_index t 0 == 45) ≡ false → magnitude t ≡ Some n → number t ≡ Some (pos n)
unfolding number
plain t n e m = rw (e, m) refl

minus : (t : List ℕ) (n : ℕ) → magnitude t ≡ Some n → number (45 ∷ t) ≡ Some (neg_ℤ (pos n))
unfolding number
minus t n m = rw m refl

pub number_made : (t : List ℕ) (z : ℤ) → IsNumber t z → number t ≡ Some (capped_integer z)
number_made t z (is_decimal d h) =
    plain d (capped_value (value_from 10 0 d)) (not_minus d (and_parts (not (length d == 0)) (list_all is_ascii_digit d) h).1) (decimal_magnitude d h)
number_made t z (is_hex d h) = plain (48 ∷ 120 ∷ d) (capped_value (value_from 16 0 d)) refl (hex_magnitude d h)
number_made t z (is_minus d h) = minus d (capped_value (value_from 10 0 d)) (decimal_magnitude d h) ∙ ap Some (neg_capped (value_from 10 0 d))
number_made t z (is_minus_hex d h) = minus (48 ∷ 120 ∷ d) (capped_value (value_from 16 0 d)) (hex_magnitude d h) ∙ ap Some (neg_capped (value_from 16 0 d))

above : (low high : ℤ) (n : ℕ) → 4294967296 ≤ n → is_near high ≡ true → is_within low high (pos n) ≡ false
above low (pos h) n g k =
    let l : h < 4294967296 = ltb-true _ _ k in
    let e : ltb h n ≡ true = lt-ltb h n (omega (arith, l)) in
    ap (λ v. not (int_lt (pos n) low) && not v) e ∙ and-false (not (int_lt (pos n) low))
above low (negsuc h) n g k = and-false (not (int_lt (pos n) low))

below : (low high : ℤ) (n : ℕ) → 4294967295 ≤ n → is_near low ≡ true → is_within low high (negsuc n) ≡ false
below (pos l) high n g k = refl
below (negsuc l) high n g k =
    let m : l < 4294967295 = ltb-true _ _ k in
    let e : ltb l n ≡ true = lt-ltb l n (omega (arith, m)) in
    ap (λ v. not v && not (int_lt high (negsuc n))) e

pub capped_within : (low high z : ℤ) → is_near low ≡ true → is_near high ≡ true → is_within low high (capped_integer z) ≡ is_within low high z
capped_within low high (pos n) l h = elim (cases_lt n 4294967296) [
  | inl g ↦ let e : capped_value n ≡ n = omega arith in ap (λ k. is_within low high (pos k)) e
  | inr g ↦
      let e : capped_value n ≡ 4294967296 = omega arith in
      ap (λ k. is_within low high (pos k)) e ∙ (above low high 4294967296 (omega arith) h ∙ sym (above low high n g h))
]
capped_within low high (negsuc n) l h = elim (cases_lt (n + 1) 4294967296) [
  | inl g ↦ let e : capped_value (n + 1) ≡ suc n = omega arith in ap (λ k. is_within low high (neg_ℤ (pos k))) e
  | inr g ↦
      let e : capped_value (n + 1) ≡ 4294967296 = omega arith in
      ap (λ k. is_within low high (neg_ℤ (pos k))) e ∙ (below low high 4294967295 (omega arith) l ∙ sym (below low high n (omega arith) l))
]

-- the number that a text is, if a reading of it is w
abbrev pub Reads : List ℕ → ℤ → Type 0
Reads t w = (z : ℤ) × IsNumber t z × (w ≡ capped_integer z)

-- the digits of a magnitude
abbrev Digits : List ℕ → ℕ → Type 0
Digits t n = ((is_numeral_of is_ascii_digit t ≡ true) × (capped_value (value_from 10 0 t) ≡ n))
    ⊎ ((d : List ℕ) × (t ≡ 48 ∷ 120 ∷ d) × (is_numeral_of is_ascii_hexdigit d ≡ true) × (capped_value (value_from 16 0 d) ≡ n))

prefix_is : (t : List ℕ) → is_hexadecimal t ≡ true → t ≡ 48 ∷ 120 ∷ drop 2 t
prefix_is [] e = cc
prefix_is (a ∷ []) e = let w = and_parts (a == 48) false e in let x = w.1 in cc
prefix_is (a ∷ b ∷ d) e = let w = and_parts (a == 48) (b == 120) e in ap (λ x. x ∷ b ∷ d) (eqb-true a 48 w.0) ∙ ap (λ y. 48 ∷ y ∷ d) (eqb-true b 120 w.1)

digits_of : (t : List ℕ) (n : ℕ) → magnitude t ≡ Some n → Digits t n
unfolding magnitude
digits_of t n h =
    let hex : Option ℕ = cond (is_numeral_of is_ascii_hexdigit (drop 2 t)) (Some (capped_value (value_from 16 0 (drop 2 t)))) None in
    let dec : Option ℕ = cond (is_numeral_of is_ascii_digit t) (Some (capped_value (value_from 10 0 t))) None in
    let P : Bool → Type 0 = λ v. is_hexadecimal t ≡ v → cond v hex dec ≡ Some n → Digits t n in
    elim (is_hexadecimal t) as P [
      | true ↦ λ e g. let s = cond_some (is_numeral_of is_ascii_hexdigit (drop 2 t)) (capped_value (value_from 16 0 (drop 2 t))) n g in inr (drop 2 t, prefix_is t e, s.0, s.1)
      | false ↦ λ e g. inl (cond_some (is_numeral_of is_ascii_digit t) (capped_value (value_from 10 0 t)) n g)
    ] refl h

plain_read : (t : List ℕ) (n : ℕ) → Digits t n → Reads t (pos n)
plain_read t n (inl s) = (pos (value_from 10 0 t), is_decimal t s.0, ap pos (sym s.1))
plain_read t n (inr s) = (pos (value_from 16 0 s.0), subst (λ (x : List ℕ). IsNumber x (pos (value_from 16 0 s.0))) (sym s.1) (is_hex s.0 s.2), ap pos (sym s.3))

minus_read : (t : List ℕ) (n : ℕ) → Digits t n → Reads (45 ∷ t) (neg_ℤ (pos n))
minus_read t n (inl s) = (neg_ℤ (pos (value_from 10 0 t)), is_minus t s.0, ap (λ k. neg_ℤ (pos k)) (sym s.1) ∙ neg_capped (value_from 10 0 t))
minus_read t n (inr s) = (
  neg_ℤ (pos (value_from 16 0 s.0)),
  subst (λ (x : List ℕ). IsNumber (45 ∷ x) (neg_ℤ (pos (value_from 16 0 s.0)))) (sym s.1) (is_minus_hex s.0 s.2),
  ap (λ k. neg_ℤ (pos k)) (sym s.3) ∙ neg_capped (value_from 16 0 s.0),
)

signed_is : (b : Bool) (o : Option ℕ) (w : ℤ) → signed_number b o ≡ Some w → (n : ℕ) × (o ≡ Some n) × (w ≡ cond b (neg_ℤ (pos n)) (pos n))
signed_is b None w h = cc
signed_is true (Some n) w h = (n, refl, cc)
signed_is false (Some n) w h = (n, refl, cc)

negative_read : (t : List ℕ) (w : ℤ) → (slice_index t 0 == 45) ≡ true → signed_number true (magnitude (drop 1 t)) ≡ Some w → Reads t w
negative_read [] w e g = cc
negative_read (a ∷ d) w e g =
    let s = signed_is true (magnitude d) w g in
    subst (λ (x : ℕ). Reads (x ∷ d) w) (sym (eqb-true a 45 e)) (subst (λ (x : ℤ). Reads (45 ∷ d) x) (sym s.2) (minus_read d s.0 (digits_of d s.0 s.1)))

pub number_read : (t : List ℕ) (w : ℤ) → number t ≡ Some w → Reads t w
unfolding number
number_read t w h =
    let P : Bool → Type 0 = λ v. (slice_index t 0 == 45) ≡ v → cond v (signed_number true (magnitude (drop 1 t))) (signed_number false (magnitude t)) ≡ Some w → Reads t w in
    elim (slice_index t 0 == 45) as P [
      | true ↦ λ e g. negative_read t w e g
      | false ↦ λ e g. let s = signed_is false (magnitude t) w g in subst (λ (x : ℤ). Reads t x) (sym s.2) (plain_read t s.0 (digits_of t s.0 s.1))
    ] refl h
