-- Hexadecimal digits tell the bytes that they were made of.
use Rattle.std.proofs.Common.{◌≡◌, ℕ, suc, ◌-◌, ◌+◌, ◌/◌, ◌%◌, ◌*◌, ◌<◌, ◌≤◌, ◌∙◌, Bool, true, false, length, List, [], ◌∷◌, ◌++◌, refl, sym, ap, arith, append_assoc, append-nil}
use Rattle.std.proofs.Common.{drop, get_or}
use Rattle.std.proofs.Math.Seq.{drop-cons}
use Rattle.std.specs.Prelude.{if◌then◌else◌, ◌&&◌, ◌==◌, nat_lt, Option, Some, None}
use Rattle.std.proofs.lemmas.Bool.{le-leb, lt-leb, leb-true, leb-false, eq-eqb}
use Rattle.debug_session.specs.Hex.{hex_digit, digit_value, hex_of, bytes_behind, bytes_of_hex}
use Rattle.debug_session.specs.Messages.{AreBytes}
use Rattle.debug_session.specs.Reading.{is_told}

decimal : (b : ℕ) → 48 ≤ b → b ≤ 57 → digit_value b ≡ b - 48
decimal b low high = rw (le-leb 48 b low, le-leb b 57 high) refl

letter : (b : ℕ) → 97 ≤ b → b ≤ 102 → digit_value b ≡ b - 87
letter b low high =
    let h : 48 ≤ b = omega arith in
    let i : 57 < b = omega arith in
    rw (le-leb 48 b h, lt-leb b 57 i, le-leb 97 b low, le-leb b 102 high) refl

-- a digit tells its value
pub digit-tells : (n : ℕ) → n < 16 → digit_value (hex_digit n) ≡ n
digit-tells n small = by (nat_lt n 10) refl where
  by : (b : Bool) → nat_lt n 10 ≡ b → digit_value (if b then n + 48 else n + 87) ≡ n
  by true e = let h : suc n ≤ 10 = leb-true (suc n) 10 e in decimal (n + 48) (omega arith) (omega (arith, h)) ∙ omega arith
  by false e = let h : 10 ≤ n = omega (arith, leb-false (suc n) 10 e) in letter (n + 87) (omega (arith, h)) (omega (arith, small)) ∙ omega arith

-- both digits of a byte tell it
pub pair-tells : (n : ℕ) → n < 256 → digit_value (hex_digit (n / 16)) * 16 + digit_value (hex_digit (n % 16)) ≡ n
pair-tells n small =
    let h : n / 16 < 16 = omega arith in
    let l : n % 16 < 16 = omega arith in
    let sum : n / 16 * 16 + n % 16 ≡ n = omega arith in
    ap (λ x. x * 16 + digit_value (hex_digit (n % 16))) (digit-tells (n / 16) h) ∙ ap (λ x. n / 16 * 16 + x) (digit-tells (n % 16) l) ∙ sum

pub sum-told : (n : ℕ) → n < 256 → is_told (hex_digit (n / 16)) (hex_digit (n % 16)) n ≡ true
sum-told n small = eq-eqb _ _ (pair-tells n small)

-- a digit is one
is-digit : (n : ℕ) → n < 16 → nat_lt (digit_value (hex_digit n)) 16 ≡ true
is-digit n small = ap (λ x. nat_lt x 16) (digit-tells n small) ∙ lt-leb' n small where
  lt-leb' : (n : ℕ) → n < 16 → nat_lt n 16 ≡ true
  lt-leb' n h = le-leb (suc n) 16 (omega (arith, h))

told-behind : (before bytes : List ℕ) → AreBytes bytes → bytes_behind before (hex_of bytes) ≡ Some (before ++ bytes)
told-behind before [] are = ap Some (sym (append-nil before))
told-behind before (b ∷ bytes) are =
    let h : b / 16 < 16 = omega (arith, are.0) in
    let l : b % 16 < 16 = omega arith in
    rw (is-digit (b / 16) h, is-digit (b % 16) l)
    (ap (λ n. bytes_behind (before ++ n ∷ []) (hex_of bytes)) (pair-tells b are.0)
    ∙ told-behind (before ++ b ∷ []) bytes are.1
    ∙ ap Some (append_assoc before (b ∷ []) bytes))

-- there are two digits for each byte
even : (bytes : List ℕ) → (length (hex_of bytes) % 2 == 1) ≡ false
even bytes = ap (λ n. n % 2 == 1) (twice bytes) ∙ by (length bytes) where
  twice : (bytes : List ℕ) → length (hex_of bytes) ≡ length bytes * 2
  twice [] = refl
  twice (b ∷ bytes) = omega (arith, twice bytes)

  by : (n : ℕ) → (n * 2 % 2 == 1) ≡ false
  by n = let e : n * 2 % 2 ≡ 0 = omega arith in rw e refl

pub hex_told : (bytes : List ℕ) → AreBytes bytes → bytes_of_hex (hex_of bytes) ≡ Some bytes
hex_told bytes are = rw (even bytes) (told-behind [] bytes are)

-- two digits more tell a byte more
pub pair_behind : (text before after : List ℕ) (n high low : ℕ) → 2 * n + 1 < length text → high ≡ digit_value (get_or text (2 * n) 0)
    → low ≡ digit_value (get_or text (2 * n + 1) 0) → high < 16 → low < 16 → after ≡ before ++ (high * 16 + low) ∷ []
    → bytes_behind after (drop (2 * (n + 1)) text) ≡ bytes_behind before (drop (2 * n) text)
pair_behind text before after n high low within is_high is_low high_fits low_fits is_after =
    let a = get_or text (2 * n) 0 in
    let b = get_or text (2 * n + 1) 0 in
    let rest : List ℕ = drop (2 * (n + 1)) text in
    let behind : ℕ → ℕ → Option (List ℕ) =
    λ x y. if nat_lt x 16 && nat_lt y 16 then bytes_behind (before ++ (x * 16 + y) ∷ []) rest else None in
    let i : 2 * n < length text = omega (arith, within) in
    let p : suc (2 * n) ≡ 2 * n + 1 = omega arith in
    let q : suc (2 * n + 1) ≡ 2 * (n + 1) = omega arith in
    let second : drop (2 * n + 1) text ≡ b ∷ rest = drop-cons text (2 * n + 1) 0 within ∙ ap (λ k. b ∷ drop k text) q in
    let both : drop (2 * n) text ≡ a ∷ b ∷ rest =
    drop-cons text (2 * n) 0 i ∙ ap (λ k. a ∷ drop k text) p ∙ ap (λ (xs : List ℕ). a ∷ xs) second in
    let told : behind (digit_value a) (digit_value b) ≡ behind high low =
    ap (λ x. behind x (digit_value b)) (sym is_high) ∙ ap (λ y. behind high y) (sym is_low) in
    let h : nat_lt high 16 ≡ true = le-leb (suc high) 16 (omega (arith, high_fits)) in
    let l : nat_lt low 16 ≡ true = le-leb (suc low) 16 (omega (arith, low_fits)) in
    let pushed : behind high low ≡ bytes_behind (before ++ (high * 16 + low) ∷ []) rest =
    ap (λ (t : Bool). if t && nat_lt low 16 then bytes_behind (before ++ (high * 16 + low) ∷ []) rest else None) h
    ∙ ap (λ (t : Bool). if t then bytes_behind (before ++ (high * 16 + low) ∷ []) rest else None) l in
    sym (ap (bytes_behind before) both ∙ told ∙ pushed ∙ ap (λ (xs : List ℕ). bytes_behind xs rest) (sym is_after))
