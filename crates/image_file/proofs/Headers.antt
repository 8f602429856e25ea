-- The header of a file, in its two formats: it holds its numbers once.
use Rattle.std.proofs.Common.{◌≡◌, ◌≢◌, ◌<◌, ◌≤◌, ◌^◌, ℕ, zero, suc, List, ◌++◌, length, take, drop, get_or, refl, sym, ◌∙◌, ap, subst, arith, inl, inr, codes}
use Rattle.std.proofs.lemmas.List.{append_cancel_left, take-append-drop}
use Rattle.image_file.specs.Fields.{four_bytes}
use Rattle.image_file.specs.Limits.{SizesFit, header_size}
use Rattle.image_file.specs.Parts.{header_before}
use Rattle.image_file.specs.Faults.{HasMagic}
use Rattle.image_file.specs.Reading.{HasSizes, NoSizes}
use Rattle.image_file.specs.declared.header.Sizes.{Sizes}
use Rattle.image_file.proofs.Unique.{Splits, four}

-- numbers that fit their four bytes
pub record FitWords (sizes : Sizes) : Type 0 where
  pub tasks : sizes.tasks < 2 ^ 32
  pub funcs : sizes.funcs < 2 ^ 32
  pub counters : sizes.counters < 2 ^ 32
  pub memory : sizes.memory < 2 ^ 32
  pub marks : sizes.marks < 2 ^ 32

pub words_fit : (s : Sizes) → SizesFit s → FitWords s
words_fit s h =
    let a = h.few_tasks in let b = h.few_functions in let c = h.few_counters in let d = h.memory_fits in let e = h.few_marks in
    record { tasks = omega (arith, a); funcs = omega (arith, b); counters = omega (arith, c); memory = omega (arith, d); marks = omega (arith, e) }

abbrev pub sizes_with : ℕ → ℕ → ℕ → ℕ → ℕ → Sizes
sizes_with t f c m k = record { tasks = t; funcs = f; counters = c; memory = m; marks = k }

pub same_with : (t t' f f' c c' m m' k k' : ℕ) → t ≡ t' → f ≡ f' → c ≡ c' → m ≡ m' → k ≡ k' → sizes_with t f c m k ≡ sizes_with t' f' c' m' k'
same_with t t' f f' c c' m m' k k' p q r u v = cc

-- the two formats begin differently
formats_differ : (r s : List ℕ) → codes "SLOTHIM1" ++ r ≡ codes "SLOTHIM2" ++ s → ⊥
formats_differ r s e = let last : 49 ≡ 50 = ap (λ x. get_or x 7 0) e in omega (arith, last)

same_from : (t f c m k t' f' c' m' k' : ℕ) (r r' : List ℕ) → FitWords (sizes_with t f c m k) → FitWords (sizes_with t' f' c' m' k')
    → header_before (sizes_with t f c m k) r ≡ header_before (sizes_with t' f' c' m' k') r'
    → Splits (sizes_with t f c m k) (sizes_with t' f' c' m' k') r r'
same_from t f zero m k t' f' zero m' k' r r' p q e =
    let nested = append_cancel_left (codes "SLOTHIM1") _ _ e in
    let a = four t t' _ _ p.tasks q.tasks nested in
    let b = four f f' _ _ p.funcs q.funcs a.1 in
    let c = four m m' _ _ p.memory q.memory b.1 in
    let d = four k k' r r' p.marks q.marks c.1 in
    (same_with t t' f f' zero zero m m' k k' a.0 b.0 refl c.0 d.0, d.1)
same_from t f zero m k t' f' (suc n') m' k' r r' p q e = absurd (formats_differ _ _ e)
same_from t f (suc n) m k t' f' zero m' k' r r' p q e = absurd (formats_differ _ _ (sym e))
same_from t f (suc n) m k t' f' (suc n') m' k' r r' p q e =
    let nested = append_cancel_left (codes "SLOTHIM2") _ _ e in
    let a = four t t' _ _ p.tasks q.tasks nested in
    let b = four f f' _ _ p.funcs q.funcs a.1 in
    let u = four (suc n) (suc n') _ _ p.counters q.counters b.1 in
    let c = four m m' _ _ p.memory q.memory u.1 in
    let d = four k k' r r' p.marks q.marks c.1 in
    (same_with t t' f f' (suc n) (suc n') m m' k k' a.0 b.0 u.0 c.0 d.0, d.1)

-- two headers that begin alike hold the same numbers
pub same_sizes : (s s' : Sizes) (r r' : List ℕ) → FitWords s → FitWords s' → header_before s r ≡ header_before s' r' → Splits s s' r r'
same_sizes s s' r r' p q e =
    same_from s.tasks s.funcs s.counters s.memory s.marks s'.tasks s'.funcs s'.counters s'.memory s'.marks r r' p q e

-- what stands behind a header
pub behind_header : (s : Sizes) (rest : List ℕ) → drop (header_size s.counters) (header_before s rest) ≡ rest
unfolding four_bytes
behind_header s rest = by s.tasks s.funcs s.counters s.memory s.marks
  where
    by : (t f c m k : ℕ) → drop (header_size c) (header_before (sizes_with t f c m k) rest) ≡ rest
    by t f zero m k = refl
    by t f (suc n) m k = refl

pub long_header : (s : Sizes) (rest : List ℕ) → header_size s.counters ≤ length (header_before s rest)
unfolding four_bytes
long_header s rest = by s.tasks s.funcs s.counters s.memory s.marks
  where
    by : (t f c m k : ℕ) → header_size c ≤ length (header_before (sizes_with t f c m k) rest)
    by t f zero m k = omega arith
    by t f (suc n) m k = omega arith

pub magic_before : (file : List ℕ) (s : Sizes) (rest : List ℕ) → file ≡ header_before s rest → HasMagic file
magic_before file s rest are = by s.counters are
  where
    by : (c : ℕ) → file ≡ header_before (sizes_with s.tasks s.funcs c s.memory s.marks) rest → HasMagic file
    by zero e = inl (ap (λ x. take 8 x) e)
    by (suc n) e = inr (ap (λ x. take 8 x) e)

-- a file that has numbers in its header is as long as the shorter header
pub header_long : (file : List ℕ) (s : Sizes) → HasSizes file s → 24 ≤ length file
header_long file s has = by s.counters has.long
  where
    by : (c : ℕ) → header_size c ≤ length file → 24 ≤ length file
    by zero long = long
    by (suc n) long = omega (arith, long)

-- ---- a header without counters

pub plain_stands : (file : List ℕ) (t f m k : ℕ) → take 8 file ≡ codes "SLOTHIM1"
    → drop 8 file ≡ four_bytes t ++ drop 12 file → drop 12 file ≡ four_bytes f ++ drop 16 file
    → drop 16 file ≡ four_bytes m ++ drop 20 file → drop 20 file ≡ four_bytes k ++ drop 24 file
    → file ≡ header_before (sizes_with t f 0 m k) (drop 24 file)
plain_stands file t f m k magic a b c d =
    sym (take-append-drop 8 file) ∙ ap (λ x. x ++ drop 8 file) magic
    ∙ ap (λ x. codes "SLOTHIM1" ++ x) (a ∙ ap (λ x. four_bytes t ++ x) (b ∙ ap (λ x. four_bytes f ++ x) (c ∙ ap (λ x. four_bytes m ++ x) d)))

-- numbers that are out of the limits are no header's
pub no_sizes : (file : List ℕ) (s : Sizes) (rest : List ℕ) → FitWords s → file ≡ header_before s rest → (SizesFit s → ⊥) → NoSizes file
no_sizes file s rest fit are out other has =
    let same = same_sizes s other rest _ fit (words_fit other has.within) (sym are ∙ has.are) in
    out (subst SizesFit (sym same.0) has.within)

-- ---- a header with counters

pub counted_stands : (file : List ℕ) (t f c m k : ℕ) → take 8 file ≡ codes "SLOTHIM2"
    → drop 8 file ≡ four_bytes t ++ drop 12 file → drop 12 file ≡ four_bytes f ++ drop 16 file → drop 16 file ≡ four_bytes c ++ drop 20 file
    → drop 20 file ≡ four_bytes m ++ drop 24 file → drop 24 file ≡ four_bytes k ++ drop 28 file
    → file ≡ codes "SLOTHIM2" ++ (four_bytes t ++ (four_bytes f ++ (four_bytes c ++ (four_bytes m ++ (four_bytes k ++ drop 28 file)))))
counted_stands file t f c m k magic a b u d e =
    sym (take-append-drop 8 file) ∙ ap (λ x. x ++ drop 8 file) magic
    ∙ ap (λ x. codes "SLOTHIM2" ++ x) (a ∙ ap (λ x. four_bytes t ++ x) (b ∙ ap (λ x. four_bytes f ++ x)
    (u ∙ ap (λ x. four_bytes c ++ x) (d ∙ ap (λ x. four_bytes m ++ x) e))))

-- where their number is not zero
pub counted_before : (t f c m k : ℕ) (rest : List ℕ) → c ≢ 0
    → codes "SLOTHIM2" ++ (four_bytes t ++ (four_bytes f ++ (four_bytes c ++ (four_bytes m ++ (four_bytes k ++ rest))))) ≡ header_before (sizes_with t f c m k) rest
counted_before t f zero m k rest some = absurd (some refl)
counted_before t f (suc n) m k rest some = refl

pub counted_size : (c : ℕ) → c ≢ 0 → header_size c ≡ 28
counted_size zero some = absurd (some refl)
counted_size (suc n) some = refl

-- a file that begins as one with counters has the longer header
pub counted_long : (file : List ℕ) (s : Sizes) → take 8 file ≡ codes "SLOTHIM2" → HasSizes file s → 28 ≤ length file
counted_long file s magic has = by s.counters has.are has.long
  where
    by : (c : ℕ) → file ≡ header_before (sizes_with s.tasks s.funcs c s.memory s.marks) (drop (header_size s.counters) file) → header_size c ≤ length file
        → 28 ≤ length file
    by zero are long = let last : 49 ≡ 50 = ap (λ x. get_or x 7 0) (sym (ap (λ x. take 8 x) are) ∙ magic) in omega (arith, last)
    by (suc n) are long = long

-- the magic that is not the plain one is that with counters
pub counted_magic : (file : List ℕ) → HasMagic file → (¬ (take 8 file ≡ codes "SLOTHIM1")) → take 8 file ≡ codes "SLOTHIM2"
counted_magic file (inl plain) other = absurd (other plain)
counted_magic file (inr counted) other = counted

-- and counters
pub none_counted : (file : List ℕ) (t f : ℕ) (rest : List ℕ) → t < 2 ^ 32 → f < 2 ^ 32
    → file ≡ codes "SLOTHIM2" ++ (four_bytes t ++ (four_bytes f ++ (four_bytes 0 ++ rest))) → NoSizes file
none_counted file t f rest fit_t fit_f are s has = by s.counters (words_fit s has.within) has.are
  where
    by : (c : ℕ) → FitWords (sizes_with s.tasks s.funcs c s.memory s.marks)
        → file ≡ header_before (sizes_with s.tasks s.funcs c s.memory s.marks) (drop (header_size s.counters) file) → ⊥
    by zero fit is = formats_differ _ _ (sym is ∙ are)
    by (suc n) fit is =
        let nested = append_cancel_left (codes "SLOTHIM2") _ _ (sym is ∙ are) in
        let a = four s.tasks t _ _ fit.tasks fit_t nested in
        let b = four s.funcs f _ _ fit.funcs fit_f a.1 in
        let u = four (suc n) 0 _ _ fit.counters (omega arith) b.1 in
        let none = u.0 in
        omega (arith, none)
