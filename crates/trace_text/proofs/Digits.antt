-- What is printed of a number is read back.
use Rattle.std.proofs.Common.{◌≡◌, ◌∙◌, ℕ, ◌+◌, ◌*◌, ◌/◌, ◌%◌, ◌^◌, ◌<◌, ◌≤◌, true, false, List, [], ◌∷◌, ◌++◌, Some, arith, refl}
use Rattle.std.specs.Prelude.{decimal, nat_le}
use Rattle.std.specs.List.{list_all}
use Rattle.std.specs.Char.{is_ascii_digit}
use Rattle.std.proofs.lemmas.Bool.{le-leb, lt-leb, le-ltb}
use Rattle.std.proofs.lemmas.Fmt.{decimal_by_steps}
use Rattle.std.proofs.lemmas.List.Folds.{list_all-append}
use Rattle.text_pieces.specs.Bytes.{is_byte_of}
use Rattle.text_pieces.specs.Digits.{digit_value, value_from, capped_value}
use Rattle.text_pieces.proofs.Cuts.{lacks}
use Rattle.trace_text.specs.EventsRead.{number}

value_more : (ds : List ℕ) (v c : ℕ) → value_from 10 v (ds ++ c ∷ []) ≡ 10 * value_from 10 v ds + digit_value c
value_more [] v c = refl
value_more (d ∷ ds) v c = value_more ds (10 * v + digit_value d) c

digit_back : (n : ℕ) → n < 10 → digit_value (48 + n) ≡ n
unfolding digit_value
digit_back n h =
    let a : nat_le 97 (48 + n) ≡ false = lt-leb 97 (48 + n) (omega arith) in
    let b : nat_le 65 (48 + n) ≡ false = lt-leb 65 (48 + n) (omega arith) in
    rw (a, b) (omega arith)

is_digit : (n : ℕ) → n < 10 → is_ascii_digit (48 + n) ≡ true
is_digit n h =
    let a : nat_le 48 (48 + n) ≡ true = le-leb 48 (48 + n) (omega arith) in
    let b : nat_le (48 + n) 57 ≡ true = le-leb (48 + n) 57 (omega arith) in
    rw (a, b) refl

-- digits that write a number
pub record Writes (n : ℕ) (digits : List ℕ) : Type 0 where
  pub value : value_from 10 0 digits ≡ n
  pub digits_alone : list_all is_ascii_digit digits ≡ true

one : (n : ℕ) → n < 10 → Writes n ((48 + n) ∷ [])
one n h =
    let v = digit_back n h in
    let d = is_digit n h in
    record { value = omega (arith, v); digits_alone = rw d refl }

more : (n : ℕ) (ds : List ℕ) → 10 ≤ n → Writes (n / 10) ds → Writes n (ds ++ ((48 + n % 10) ∷ []))
more n ds h w =
    let small : n % 10 < 10 = omega arith in
    let v = digit_back (n % 10) small in
    let d = is_digit (n % 10) small in
    let value = w.value in
    let all = w.digits_alone in
    record {
      value = value_more ds 0 (48 + n % 10) ∙ omega (arith, v, value);
      digits_alone = list_all-append is_ascii_digit ds ((48 + n % 10) ∷ []) ∙ rw (all, d) refl;
    }

pub writes : (n : ℕ) → n < 2 ^ 64 → Writes n (decimal n)
writes n h = decimal_by_steps Writes one more n h

-- no space is a digit
pub decimal_lacks : (n : ℕ) → n < 2 ^ 64 → is_byte_of 32 (decimal n) ≡ false
decimal_lacks n h = lacks is_ascii_digit 32 refl (decimal n) (writes n h).digits_alone

pub number_back : (n : ℕ) → n < 0x1_0000_0000 → number (decimal n) ≡ Some n
unfolding number
number_back n h =
    let v = (writes n (omega arith)).value in
    let c : capped_value (value_from 10 0 (decimal n)) ≡ n = omega (arith, v) in
    let t = le-ltb 4294967295 n (omega arith) in
    rw (c, t) refl
