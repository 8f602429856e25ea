-- Bytes written one after the other, and the number in bytes.
use Rattle.std.proofs.Common.{◌%◌, ◌^◌, ◌≡◌, ℕ, zero, suc, ◌+◌, ◌*◌, ◌/◌, ◌<◌, ◌≤◌, List, [], ◌∷◌, ◌++◌, length, get_or, set, take, drop, refl, sym, ap, ◌∙◌, arith, ◌⊎◌, inl, inr, ⊎_elim}
use Rattle.std.proofs.lemmas.Bool.{cases_eq}
use Rattle.std.proofs.lemmas.List.{get_or-set_same, get_or-set_other, length-set, drop_more}
use Rattle.sloth_base.specs.Arithmetic.{size_of}
use Rattle.sloth_base.specs.declared.app.Width.{Width}
use Rattle.osek_scheduler.specs.Meaning.{number_of, bytes_of, bytes_after_store}

-- these bytes stand from an offset on
abbrev pub with_bytes : List ℕ → ℕ → List ℕ → List ℕ
with_bytes ram o [] = ram
with_bytes ram o (x ∷ new) = with_bytes (set ram o x) (o + 1) new

-- writing bytes keeps the length
pub length-with_bytes : (new ram : List ℕ) (o : ℕ) → length (with_bytes ram o new) ≡ length ram
length-with_bytes [] ram o = refl
length-with_bytes (x ∷ new) ram o = length-with_bytes new (set ram o x) (o + 1) ∙ length-set ram o x

length-bytes_of : (n value : ℕ) → length (bytes_of n value) ≡ n
length-bytes_of zero value = refl
length-bytes_of (suc n) value = ap suc (length-bytes_of n (value / 256))

-- a byte outside
pub get_or-with_bytes : (new ram : List ℕ) (o i : ℕ) → (i < o) ⊎ (o + length new ≤ i) → get_or (with_bytes ram o new) i 0 ≡ get_or ram i 0
get_or-with_bytes [] ram o i h = refl
get_or-with_bytes (x ∷ new) ram o i h =
    get_or-with_bytes new (set ram o x) (o + 1) i (⊎_elim (λ (l : i < o). inl (omega arith)) (λ (l : o + length (x ∷ new) ≤ i). inr (omega arith)) h)
    ∙ get_or-set_other ram o i x 0 (λ e. ⊎_elim (λ (l : i < o). omega arith) (λ (l : o + length (x ∷ new) ≤ i). omega arith) h)

-- The bytes of a list stand in RAM from a place on: they do behind the same write to both.
pub both_written : (new ram bytes : List ℕ) (place o : ℕ) → place + length bytes ≤ length ram → o + length new ≤ length bytes
    → ((k : ℕ) → k < length bytes → get_or ram (place + k) 0 ≡ get_or bytes k 0)
    → (k : ℕ) → k < length bytes → get_or (with_bytes ram (place + o) new) (place + k) 0 ≡ get_or (with_bytes bytes o new) k 0
both_written [] ram bytes place o room inside same k l = same k l
both_written (x ∷ new) ram bytes place o room inside same k l =
    let e : place + o + 1 ≡ place + (o + 1) = omega arith in
    let long = length-set ram (place + o) x in
    let size = length-set bytes o x in
    ap (λ p. get_or (with_bytes (set ram (place + o) x) p new) (place + k) 0) e
    ∙ both_written new (set ram (place + o) x) (set bytes o x) place (o + 1) (omega arith) (omega arith)
    (λ j m.
    ⊎_elim
    (λ (q : j ≡ o).
    let r : place + j ≡ place + o = omega arith in
    ap (λ p. get_or (set ram (place + o) x) p 0) r ∙ get_or-set_same ram (place + o) x 0 (omega arith)
    ∙ sym (ap (λ p. get_or (set bytes o x) p 0) q ∙ get_or-set_same bytes o x 0 (omega arith)))
    (λ (q : j ≡ o → ⊥).
    get_or-set_other ram (place + o) (place + j) x 0 (λ z. q (omega arith)) ∙ same j (omega arith) ∙ sym (get_or-set_other bytes o j x 0 q))
    (cases_eq j o))
    k (omega arith)

-- ---- a part of a list replaced

with_bytes-cons : (new xs : List ℕ) (x o : ℕ) → with_bytes (x ∷ xs) (suc o) new ≡ x ∷ with_bytes xs o new
with_bytes-cons [] xs x o = refl
with_bytes-cons (y ∷ new) xs x o =
    let e : suc o + 1 ≡ suc (o + 1) = omega arith in
    ap (λ p. with_bytes (x ∷ set xs o y) p new) e ∙ with_bytes-cons new (set xs o y) x (o + 1)

replaced_first : (new xs : List ℕ) → length new ≤ length xs → new ++ drop (length new) xs ≡ with_bytes xs 0 new
replaced_first [] xs l = refl
replaced_first (y ∷ new) [] l = absurd (omega arith)
replaced_first (y ∷ new) (x ∷ xs) l = ap (λ r. y ∷ r) (replaced_first new xs (omega arith)) ∙ sym (with_bytes-cons new xs y 0)

replaced : (new xs : List ℕ) (o : ℕ) → o + length new ≤ length xs → take o xs ++ (new ++ drop (o + length new) xs) ≡ with_bytes xs o new
replaced new xs zero l =
    let e : 0 + length new ≡ length new = omega arith in
    ap (λ n. new ++ drop n xs) e ∙ replaced_first new xs (omega arith)
replaced new [] (suc o) l = absurd (omega arith)
replaced new (x ∷ xs) (suc o) l =
    let e : suc o + length new ≡ suc (o + length new) = omega arith in
    ap (λ n. x ∷ (take o xs ++ (new ++ drop n (x ∷ xs)))) e
    ∙ ap (λ r. x ∷ r) (replaced new xs o (omega arith)) ∙ sym (with_bytes-cons new xs x o)

-- ---- what a store means

-- the bytes that a store writes
abbrev pub low_bytes : Width → ℕ → List ℕ
low_bytes w value = bytes_of (size_of w) (value % 2 ^ (8 * size_of w))

-- a width has as many bytes as its size
pub length-low_bytes : (w : Width) (value : ℕ) → length (low_bytes w value) ≡ size_of w
length-low_bytes w value = length-bytes_of (size_of w) (value % 2 ^ (8 * size_of w))

-- a symbol's bytes behind a store are those bytes written over
pub stored_bytes : (w : Width) (bytes : List ℕ) (offset value : ℕ) → offset + size_of w ≤ length bytes → bytes_after_store w bytes offset value ≡ with_bytes bytes offset (low_bytes w value)
stored_bytes w bytes offset value l =
    let e = length-low_bytes w value in
    ap (λ n. take offset bytes ++ (low_bytes w value ++ drop (offset + n) bytes)) (sym e) ∙ replaced (low_bytes w value) bytes offset (omega arith)

-- ---- numbers

-- the number in so many bytes from an offset on
abbrev pub number_at : List ℕ → ℕ → ℕ → ℕ
number_at ram o zero = 0
number_at ram o (suc n) = get_or ram o 0 + 256 * number_at ram (o + 1) n

-- the number in a part of the bytes is the number there
pub number_of_part : (bytes : List ℕ) (o n : ℕ) → o + n ≤ length bytes → number_of (take n (drop o bytes)) ≡ number_at bytes o n
number_of_part bytes o zero l = refl
number_of_part bytes o (suc n) l =
    ap (λ r. number_of (take (suc n) r)) (drop_more bytes o 0 (omega arith))
    ∙ ap (λ v. get_or bytes o 0 + 256 * v) (number_of_part bytes (o + 1) n (omega arith))

-- bytes that are the same have the same number
pub number_agrees : (ram bytes : List ℕ) (place : ℕ) → ((k : ℕ) → k < length bytes → get_or ram (place + k) 0 ≡ get_or bytes k 0)
    → (n o : ℕ) → o + n ≤ length bytes → number_at ram (place + o) n ≡ number_at bytes o n
number_agrees ram bytes place same zero o l = refl
number_agrees ram bytes place same (suc n) o l =
    let e : place + o + 1 ≡ place + (o + 1) = omega arith in
    ap (λ v. v + 256 * number_at ram (place + o + 1) n) (same o (omega arith))
    ∙ ap (λ p. get_or bytes o 0 + 256 * number_at ram p n) e
    ∙ ap (λ v. get_or bytes o 0 + 256 * v) (number_agrees ram bytes place same n (o + 1) (omega arith))
