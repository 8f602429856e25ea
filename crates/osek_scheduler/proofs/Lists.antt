-- Lists: their last item, and bytes of numbers in them.
use Rattle.std.proofs.Common.{◌≡◌, ℕ, zero, suc, ◌+◌, ◌-◌, ◌*◌, ◌/◌, ◌%◌, ◌^◌, ◌<◌, ◌≤◌, List, [], ◌∷◌, ◌++◌, length, get_or, set, take, drop, refl, ap, arith, add-one}
use Rattle.std.specs.Prelude.{slice_get}
use Rattle.sloth_base.specs.Options.{is_number}
use Rattle.code_rules.specs.Code.{is_last, without_last}
use Rattle.osek_scheduler.specs.Meaning.{number_of, bytes_of}

pub last-get : (r : ℕ) (xs : List ℕ) → is_last r xs ≡ is_number r (slice_get xs (length xs - 1))
last-get r [] = refl
last-get r (x ∷ []) = refl
last-get r (x ∷ y ∷ ys) =
    let e : length (x ∷ y ∷ ys) - 1 ≡ suc (length (y ∷ ys) - 1) = omega arith in rw e (last-get r (y ∷ ys))

pub without-take : (xs : List ℕ) → without_last xs ≡ take (length xs - 1) xs
without-take [] = refl
without-take (x ∷ []) = refl
without-take (x ∷ y ∷ ys) =
    let e : length (x ∷ y ∷ ys) - 1 ≡ suc (length (y ∷ ys) - 1) = omega arith in rw e (ap (λ (zs : List ℕ). x ∷ zs) (without-take (y ∷ ys)))

-- ---- little-endian numbers

read-1 : (xs : List ℕ) (o : ℕ) → suc o ≤ length xs → number_of (take 1 (drop o xs)) ≡ get_or xs o 0
read-1 [] o h = absurd (omega (arith, h))
read-1 (x ∷ xs) zero h = omega arith
read-1 (x ∷ xs) (suc o) h = read-1 xs o (omega (arith, h))

read-2 : (xs : List ℕ) (o : ℕ) → suc (suc o) ≤ length xs → number_of (take 2 (drop o xs)) ≡ get_or xs o 0 + 256 * get_or xs (suc o) 0
read-2 [] o h = absurd (omega (arith, h))
read-2 (x ∷ []) zero h = absurd (omega (arith, h))
read-2 (x ∷ y ∷ xs) zero h = omega arith
read-2 (x ∷ xs) (suc o) h = read-2 xs o (omega (arith, h))

read-4 : (xs : List ℕ) (o : ℕ) → suc (suc (suc (suc o))) ≤ length xs → number_of (take 4 (drop o xs))
    ≡ get_or xs o 0 + 256 * get_or xs (suc o) 0 + 65536 * (get_or xs (suc (suc o)) 0 + 256 * get_or xs (suc (suc (suc o))) 0)
read-4 [] o h = absurd (omega (arith, h))
read-4 (x ∷ []) zero h = absurd (omega (arith, h))
read-4 (x ∷ y ∷ []) zero h = absurd (omega (arith, h))
read-4 (x ∷ y ∷ z ∷ []) zero h = absurd (omega (arith, h))
read-4 (x ∷ y ∷ z ∷ w ∷ xs) zero h = omega arith
read-4 (x ∷ xs) (suc o) h = read-4 xs o (omega (arith, h))

write-1 : (xs : List ℕ) (o a : ℕ) → suc o ≤ length xs → set xs o a ≡ take o xs ++ (a ∷ drop (suc o) xs)
write-1 [] o a h = absurd (omega (arith, h))
write-1 (x ∷ xs) zero a h = refl
write-1 (x ∷ xs) (suc o) a h = ap (λ (zs : List ℕ). x ∷ zs) (write-1 xs o a (omega (arith, h)))

write-2 : (xs : List ℕ) (o a b : ℕ) → suc (suc o) ≤ length xs → set (set xs o a) (suc o) b ≡ take o xs ++ (a ∷ b ∷ drop (suc (suc o)) xs)
write-2 [] o a b h = absurd (omega (arith, h))
write-2 (x ∷ []) zero a b h = absurd (omega (arith, h))
write-2 (x ∷ y ∷ xs) zero a b h = refl
write-2 (x ∷ xs) (suc o) a b h = ap (λ (zs : List ℕ). x ∷ zs) (write-2 xs o a b (omega (arith, h)))

write-4 : (xs : List ℕ) (o a b c d : ℕ) → suc (suc (suc (suc o))) ≤ length xs
    → set (set (set (set xs o a) (suc o) b) (suc (suc o)) c) (suc (suc (suc o))) d ≡ take o xs ++ (a ∷ b ∷ c ∷ d ∷ drop (suc (suc (suc (suc o)))) xs)
write-4 [] o a b c d h = absurd (omega (arith, h))
write-4 (x ∷ []) zero a b c d h = absurd (omega (arith, h))
write-4 (x ∷ y ∷ []) zero a b c d h = absurd (omega (arith, h))
write-4 (x ∷ y ∷ z ∷ []) zero a b c d h = absurd (omega (arith, h))
write-4 (x ∷ y ∷ z ∷ w ∷ xs) zero a b c d h = refl
write-4 (x ∷ xs) (suc o) a b c d h = ap (λ (zs : List ℕ). x ∷ zs) (write-4 xs o a b c d (omega (arith, h)))

-- ---- the same at sums

pub number_one : (xs : List ℕ) (o : ℕ) → o + 1 ≤ length xs → number_of (take 1 (drop o xs)) ≡ get_or xs o 0
number_one xs o h = read-1 xs o (omega (arith, h))

pub number_two : (xs : List ℕ) (o : ℕ) → o + 2 ≤ length xs → number_of (take 2 (drop o xs)) ≡ get_or xs o 0 + 256 * get_or xs (o + 1) 0
number_two xs o h = rw add-one (read-2 xs o (omega (arith, h)))

pub number_four : (xs : List ℕ) (o : ℕ) → o + 4 ≤ length xs
    → number_of (take 4 (drop o xs)) ≡ get_or xs o 0 + 256 * get_or xs (o + 1) 0 + 65536 * (get_or xs (o + 2) 0 + 256 * get_or xs (o + 3) 0)
number_four xs o h =
    let a : o + 1 ≡ suc o = omega arith in
    let b : o + 2 ≡ suc (suc o) = omega arith in
    let c : o + 3 ≡ suc (suc (suc o)) = omega arith in
    rw (c, b, a) (read-4 xs o (omega (arith, h)))

pub byte_written : (xs : List ℕ) (o v : ℕ) → o + 1 ≤ length xs → set xs o (v % 256) ≡ take o xs ++ (bytes_of 1 (v % 2 ^ 8) ++ drop (o + 1) xs)
byte_written xs o v h =
    let e : o + 1 ≡ suc o = omega arith in
    let m : v % 2 ^ 8 % 256 ≡ v % 256 = omega arith in
    rw e (rw m (write-1 xs o (v % 256) (omega (arith, h))))

pub half_written : (xs : List ℕ) (o v : ℕ) → o + 2 ≤ length xs
    → set (set xs o (v % 256)) (o + 1) (v / 256 % 256) ≡ take o xs ++ (bytes_of 2 (v % 2 ^ 16) ++ drop (o + 2) xs)
half_written xs o v h =
    let e : o + 1 ≡ suc o = omega arith in
    let f : o + 2 ≡ suc (suc o) = omega arith in
    let m : v % 2 ^ 16 % 256 ≡ v % 256 = omega arith in
    let n : v % 2 ^ 16 / 256 % 256 ≡ v / 256 % 256 = omega arith in
    rw (f, e) (rw (m, n) (write-2 xs o (v % 256) (v / 256 % 256) (omega (arith, h))))

pub word_written : (xs : List ℕ) (o v : ℕ) → o + 4 ≤ length xs → v < 2 ^ 32
    → set (set (set (set xs o (v % 256)) (o + 1) (v / 256 % 256)) (o + 2) (v / 65536 % 256)) (o + 3) (v / 16777216 % 256)
    ≡ take o xs ++ (bytes_of 4 (v % 2 ^ 32) ++ drop (o + 4) xs)
word_written xs o v h small =
    let e : o + 1 ≡ suc o = omega arith in
    let f : o + 2 ≡ suc (suc o) = omega arith in
    let g : o + 3 ≡ suc (suc (suc o)) = omega arith in
    let i : o + 4 ≡ suc (suc (suc (suc o))) = omega arith in
    let all : v % 2 ^ 32 ≡ v = omega (arith, small) in
    let p : v / 256 / 256 ≡ v / 65536 = omega arith in
    let q : v / 65536 / 256 ≡ v / 16777216 = omega arith in
    rw (i, g, f, e) (rw all (rw p (rw q (write-4 xs o (v % 256) (v / 256 % 256) (v / 65536 % 256) (v / 16777216 % 256) (omega (arith, h))))))
