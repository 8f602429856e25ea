-- Numbers in groups of seven bits: as they are written, and as they read back.
use Rattle.std.proofs.Common.{◌≡◌, ◌≤◌, ◌<◌, ◌+◌, ◌-◌, ◌*◌, ◌/◌, ◌%◌, ◌^◌, ℕ, zero, suc, Bool, true, false, ltb, cond, List, [], ◌∷◌, ◌++◌, get_or, refl, sym, ap, ◌∙◌, arith, append_assoc}
use Rattle.std.proofs.lemmas.Bool.{le-ltb, lt-ltb, ltb-true}
use Rattle.symbol_image.specs.Fields.{five_groups, groups, negative_leb, signed_leb, unsigned_leb}
use Rattle.image_file.proofs.Unique.{Splits, front}

-- so many groups before the last are enough
abbrev pub FitsGroups : (limit left number : ℕ) → Type 0
FitsGroups limit zero number = number < limit
FitsGroups limit (suc left) number = FitsGroups limit left (number / 128)

pub fits-word : (limit number : ℕ) → 16 ≤ limit → number < 2 ^ 32 → FitsGroups limit 4 number
fits-word limit number h n = omega arith

-- ---- writing

-- what is written so far, and the groups of the rest behind it
pub record IsBegun (limit : ℕ) (old new : List ℕ) (number rest : ℕ) : Type 0 where
  pub left : ℕ
  pub fits : FitsGroups limit left rest
  pub are : new ++ groups limit left rest ≡ old ++ groups limit 4 number

begun-by : (limit : ℕ) (old new next : List ℕ) (number rest left : ℕ) → FitsGroups limit left rest
    → new ++ groups limit left rest ≡ old ++ groups limit 4 number → limit ≤ rest → next ≡ new ++ (rest % 128 + 128) ∷ []
    → IsBegun limit old next number (rest / 128)
begun-by limit old new next number rest zero f e h n = let g : rest < limit = f in absurd (omega arith)
begun-by limit old new next number rest (suc left) f e h n = record {
  left = left;
  fits = f;
  are = ap (λ b. b ++ groups limit left (rest / 128)) n
      ∙ (append_assoc new ((rest % 128 + 128) ∷ []) (groups limit left (rest / 128))
      ∙ (sym (ap (λ t. new ++ cond t (rest ∷ []) ((rest % 128 + 128) ∷ groups limit left (rest / 128))) (le-ltb rest limit h)) ∙ e));
}

pub begun-first : (limit : ℕ) (old : List ℕ) (number : ℕ) → 16 ≤ limit → number < 2 ^ 32 → IsBegun limit old old number number
begun-first limit old number low h = record { left = 4; fits = fits-word limit number low h; are = refl }

pub begun-more : (limit : ℕ) (old new next : List ℕ) (number rest : ℕ) → IsBegun limit old new number rest → limit ≤ rest
    → next ≡ new ++ (rest % 128 + 128) ∷ [] → IsBegun limit old next number (rest / 128)
begun-more limit old new next number rest b h n = begun-by limit old new next number rest b.left b.fits b.are h n

ended-by : (limit : ℕ) (old new next : List ℕ) (number rest left : ℕ) → new ++ groups limit left rest ≡ old ++ groups limit 4 number
    → rest < limit → next ≡ new ++ rest ∷ [] → next ≡ old ++ groups limit 4 number
ended-by limit old new next number rest zero e h n = n ∙ e
ended-by limit old new next number rest (suc left) e h n =
    n ∙ (sym (ap (λ t. new ++ cond t (rest ∷ []) ((rest % 128 + 128) ∷ groups limit left (rest / 128))) (lt-ltb rest limit h)) ∙ e)

pub ended : (limit : ℕ) (old new next : List ℕ) (number rest : ℕ) → IsBegun limit old new number rest → rest < limit
    → next ≡ new ++ rest ∷ [] → next ≡ old ++ groups limit 4 number
ended limit old new next number rest b h n = ended-by limit old new next number rest b.left b.are h n

-- ---- reading

-- the number that stands first, and what stands behind it
abbrev value : List ℕ → ℕ
value [] = 0
value (b ∷ bs) = cond (ltb b 128) b (b - 128 + 128 * value bs)

abbrev behind : List ℕ → List ℕ
behind [] = []
behind (b ∷ bs) = cond (ltb b 128) bs (behind bs)

abbrev Reads : (bytes rest : List ℕ) → ℕ → Type 0
Reads bytes rest number = (value (bytes ++ rest) ≡ number) × (behind (bytes ++ rest) ≡ rest)

last : (number : ℕ) (rest : List ℕ) → number < 128 → Reads (number ∷ []) rest number
last number rest h =
    let e : ltb number 128 ≡ true = lt-ltb number 128 h in
    (ap (λ t. cond t number (number - 128 + 128 * value rest)) e, ap (λ t. cond t rest (behind rest)) e)

either : (number : ℕ) (rest further : List ℕ) (t : Bool) → (t ≡ true → number < 128) → Reads further rest (number / 128)
    → Reads (cond t (number ∷ []) ((number % 128 + 128) ∷ further)) rest number
either number rest further true h r = last number rest (h refl)
either number rest further false h r =
    let e : ltb (number % 128 + 128) 128 ≡ false = le-ltb (number % 128 + 128) 128 (omega arith) in
    let sum : number % 128 + 128 - 128 + 128 * (number / 128) ≡ number = omega arith in (
      ap (λ t. cond t (number % 128 + 128) (number % 128 + 128 - 128 + 128 * value (further ++ rest))) e
          ∙ (ap (λ v. number % 128 + 128 - 128 + 128 * v) r.0 ∙ sum),
      ap (λ t. cond t (further ++ rest) (behind (further ++ rest))) e ∙ r.1,
    )

reads : (limit left number : ℕ) (rest : List ℕ) → limit ≤ 128 → FitsGroups limit left number → Reads (groups limit left number) rest number
reads limit zero number rest h f = let g : number < limit = f in last number rest (omega arith)
reads limit (suc left) number rest h f =
    either number rest (groups limit left (number / 128)) (ltb number limit)
    (λ t. let l : number < limit = ltb-true number limit t in omega arith) (reads limit left (number / 128) rest h f)

one : (limit m n : ℕ) (r s : List ℕ) → 16 ≤ limit → limit ≤ 128 → m < 2 ^ 32 → n < 2 ^ 32
    → groups limit 4 m ++ r ≡ groups limit 4 n ++ s → Splits m n r s
one limit m n r s low high hm hn e =
    let a : Reads (groups limit 4 m) r m = reads limit 4 m r high (fits-word limit m low hm) in
    let b : Reads (groups limit 4 n) s n = reads limit 4 n s high (fits-word limit n low hn) in
    (sym a.0 ∙ (ap value e ∙ b.0), sym a.1 ∙ (ap behind e ∙ b.1))

-- a number is determined by its bytes
pub unsigned : (m n : ℕ) (r s : List ℕ) → m < 2 ^ 32 → n < 2 ^ 32 → unsigned_leb m ++ r ≡ unsigned_leb n ++ s → Splits m n r s
unfolding unsigned_leb
unsigned m n r s hm hn e = one 128 m n r s (omega arith) (omega arith) hm hn e

pub signed : (m n : ℕ) (r s : List ℕ) → m < 2 ^ 32 → n < 2 ^ 32 → signed_leb m ++ r ≡ signed_leb n ++ s → Splits m n r s
unfolding signed_leb
signed m n r s hm hn e = one 64 m n r s (omega arith) (omega arith) hm hn e

-- ---- numbers below zero

-- the last byte of the number that stands first
abbrev last-byte : List ℕ → ℕ
last-byte [] = 0
last-byte (b ∷ bs) = cond (ltb b 128) b (last-byte bs)

last-at : (b : ℕ) (bs : List ℕ) → b < 128 → last-byte (b ∷ bs) ≡ b
last-at b bs h = ap (λ t. cond t b (last-byte bs)) (lt-ltb b 128 h)

last-behind : (b : ℕ) (bs : List ℕ) → last-byte ((b % 128 + 128) ∷ bs) ≡ last-byte bs
last-behind b bs = ap (λ t. cond t (b % 128 + 128) (last-byte bs)) (le-ltb (b % 128 + 128) 128 (omega arith))

-- it is below 64 of one that is not below zero
low : (left number : ℕ) (rest : List ℕ) → FitsGroups 64 left number → last-byte (groups 64 left number ++ rest) < 64
low zero number rest f = let g : number < 64 = f in let e = last-at number rest (omega arith) in omega (arith, e, g)
low (suc left) number rest f = by (ltb number 64) (ltb-true number 64) (low left (number / 128) rest f)
  where
    by : (t : Bool) → (t ≡ true → number < 64) → last-byte (groups 64 left (number / 128) ++ rest) < 64
        → last-byte (cond t (number ∷ []) ((number % 128 + 128) ∷ groups 64 left (number / 128)) ++ rest) < 64
    by true h l = let g = h refl in let e = last-at number rest (omega (arith, g)) in omega (arith, e, g)
    by false h l = let e = last-behind number (groups 64 left (number / 128) ++ rest) in omega (arith, e, l)

-- and 64 or more of one that is
high : (n : ℕ) (rest : List ℕ) → n < 34359738368 → last-byte (five_groups n ++ rest) ≡ n / 268435456
high n rest h =
    let four = n / 268435456 ∷ rest in
    let three = (n / 2097152 % 128 + 128) ∷ four in
    let two = (n / 16384 % 128 + 128) ∷ three in
    let one = (n / 128 % 128 + 128) ∷ two in
    last-behind n one ∙ last-behind (n / 128) two ∙ last-behind (n / 16384) three ∙ last-behind (n / 2097152) four
    ∙ last-at (n / 268435456) rest (omega (arith, h))

pub signs_differ : (m n : ℕ) (r s : List ℕ) → m < 2 ^ 32 → 0 < n → n < 2 ^ 32 → signed_leb m ++ r ≡ negative_leb n ++ s → ⊥
unfolding signed_leb negative_leb
signs_differ m n r s hm some hn e =
    let l = low 4 m r (fits-word 64 m (omega arith) hm) in
    let k = high (34359738368 - n) s (omega (arith, some)) in
    let same = ap last-byte e in
    let above : 64 ≤ (34359738368 - n) / 268435456 = omega (arith, hn) in
    omega (arith, l, k, same, above)

five : (m n : ℕ) (r s : List ℕ) → five_groups m ++ r ≡ five_groups n ++ s → Splits m n r s
five m n r s e =
    let same : Splits (five_groups m) (five_groups n) r s = front (five_groups m) (five_groups n) r s refl e in
    let a : m % 128 + 128 ≡ n % 128 + 128 = ap (λ b. get_or b 0 0) same.0 in
    let b : m / 128 % 128 + 128 ≡ n / 128 % 128 + 128 = ap (λ b. get_or b 1 0) same.0 in
    let c : m / 16384 % 128 + 128 ≡ n / 16384 % 128 + 128 = ap (λ b. get_or b 2 0) same.0 in
    let d : m / 2097152 % 128 + 128 ≡ n / 2097152 % 128 + 128 = ap (λ b. get_or b 3 0) same.0 in
    let f : m / 268435456 ≡ n / 268435456 = ap (λ b. get_or b 4 0) same.0 in
    (omega (arith, a, b, c, d, f), same.1)

-- a number below zero is determined by its bytes
pub negative : (m n : ℕ) (r s : List ℕ) → m < 2 ^ 32 → n < 2 ^ 32 → negative_leb m ++ r ≡ negative_leb n ++ s → Splits m n r s
unfolding negative_leb
negative m n r s hm hn e =
    let same : Splits (34359738368 - m) (34359738368 - n) r s = five (34359738368 - m) (34359738368 - n) r s e in
    let d = same.0 in
    (omega (arith, d, hm, hn), same.1)
