-- A text is cut at the first byte of its kind.
use Rattle.std.proofs.Common.{◌≡◌, ℕ, ◌+◌, ◌-◌, ◌<◌, Bool, true, false, not, ◌||◌, cond, List, [], ◌∷◌, ◌++◌, length, drop, take, get_or, refl, ap, arith, sym, ◌∙◌, suc, append_assoc, length-append}
use Rattle.std.specs.Prelude.{◌==◌, slice_index}
use Rattle.std.specs.List.{list_all, list_any, position_or_len, prefix_len}
use Rattle.std.proofs.lemmas.Bool.{eqb-true, and_parts, or_parts}
use Rattle.std.proofs.lemmas.List.Folds.{list_any-append}
use Rattle.std.proofs.lemmas.List.Sums.{split_at_first, passes_at_first}
use Rattle.std.proofs.Math.Seq.{take-append_seam, drop-append_seam, split_at}
use Rattle.std.proofs.Math.ListN.{drop_of_length-le}
use Rattle.text_pieces.specs.Bytes.{is_byte_of, before, behind}

-- a run of a ends where the rest stops it
abbrev pub stops : (ℕ → Bool) → List ℕ → Bool
stops p [] = true
stops p (b ∷ t) = not (p b)

pub run_length : (p : ℕ → Bool) (a y : List ℕ) → list_all p a ≡ true → stops p y ≡ true → prefix_len p (a ++ y) ≡ length a
run_length p [] [] h s = refl
run_length p [] (b ∷ y) h s = elim (p b) as (λ v. not v ≡ true → cond v (1 + prefix_len p y) 0 ≡ 0) [ true ↦ λ q. cc | false ↦ λ q. refl ] s
run_length p (b ∷ a) y h s = let q = and_parts (p b) (list_all p a) h in let ih = run_length p a y q.1 s in rw (q.0) (omega (arith, ih))

pub run_front : (p : ℕ → Bool) (t : List ℕ) → (list_all p (take (prefix_len p t) t) ≡ true) × (stops p (drop (prefix_len p t) t) ≡ true)
run_front p [] = (refl, refl)
run_front p (b ∷ t) =
    let ih = run_front p t in
    let P : Bool → Type 0 = λ v. p b ≡ v
    → (list_all p (take (cond v (1 + prefix_len p t) 0) (b ∷ t)) ≡ true) × (stops p (drop (cond v (1 + prefix_len p t) 0) (b ∷ t)) ≡ true) in
    let e : 1 + prefix_len p t ≡ suc (prefix_len p t) = omega arith in
    elim (p b) as P [
      | true ↦ λ h. rw e (rw h ih.0, ih.1)
      | false ↦ λ h. (refl, rw h refl)
    ] refl

-- what passes a test at each byte passes a weaker one
pub all_weaker : (p q : ℕ → Bool) → ((b : ℕ) → p b ≡ true → q b ≡ true) → (t : List ℕ) → list_all p t ≡ true → list_all q t ≡ true
all_weaker p q f [] h = refl
all_weaker p q f (b ∷ t) h = let w = and_parts (p b) (list_all p t) h in rw (f b w.0) (all_weaker p q f t w.1)

-- a text whose bytes pass a test lacks each byte that fails it
pub lacks : (p : ℕ → Bool) (c : ℕ) → p c ≡ false → (t : List ℕ) → list_all p t ≡ true → is_byte_of c t ≡ false
unfolding is_byte_of
lacks p c f [] h = refl
lacks p c f (b ∷ t) h =
    let w = and_parts (p b) (list_all p t) h in
    let ih = lacks p c f t w.1 in
    let P : Bool → Type 0 = λ v. (b == c) ≡ v → (v || list_any (λ x. x == c) t) ≡ false in
    elim (b == c) as P [
      | true ↦ λ e. let q : p b ≡ p c = ap p (eqb-true b c e) in cc
      | false ↦ λ e. ih
    ] refl

has_not : (c : ℕ) (t : List ℕ) → is_byte_of c t ≡ false → list_all (λ b. not (b == c)) t ≡ true
unfolding is_byte_of
has_not c [] h = refl
has_not c (b ∷ t) h = let w = or_parts (b == c) (list_any (λ x. x == c) t) h in rw (w.0) (has_not c t w.1)

pub has_here : (c : ℕ) (x y : List ℕ) → (c == c) ≡ true → is_byte_of c (x ++ c ∷ y) ≡ true
unfolding is_byte_of
has_here c [] y e = rw e refl
has_here c (b ∷ x) y e = let ih = has_here c x y e in elim (b == c) as (λ v. (v || list_any (λ w. w == c) (x ++ c ∷ y)) ≡ true) [ true ↦ refl | false ↦ ih ]

pub has_in : (c : ℕ) (x y : List ℕ) → is_byte_of c x ≡ false → is_byte_of c y ≡ false → is_byte_of c (x ++ y) ≡ false
unfolding is_byte_of
has_in c x y h g = list_any-append (λ b. b == c) x y ∙ rw (h, g) refl

place_of : (c : ℕ) (x y : List ℕ) → (c == c) ≡ true → is_byte_of c x ≡ false → position_or_len (λ b. b == c) (x ++ c ∷ y) ≡ length x
place_of c x y e h = run_length (λ b. not (b == c)) x (c ∷ y) (has_not c x h) (rw e refl)

pub before_is : (c : ℕ) (x y : List ℕ) → (c == c) ≡ true → is_byte_of c x ≡ false → before c (x ++ c ∷ y) ≡ x
before_is c x y e h = ap (λ n. take n (x ++ c ∷ y)) (place_of c x y e h) ∙ take-append_seam x (c ∷ y)

pub behind_is : (c : ℕ) (x y : List ℕ) → (c == c) ≡ true → is_byte_of c x ≡ false → behind c (x ++ c ∷ y) ≡ y
behind_is c x y e h =
    let l : length x + 1 ≡ length (x ++ c ∷ []) = sym (length-append x (c ∷ [])) in
    ap (λ n. drop (n + 1) (x ++ c ∷ y)) (place_of c x y e h)
    ∙ (ap (λ n. drop n (x ++ c ∷ y)) l ∙ (ap (drop (length (x ++ c ∷ []))) (sym (append_assoc x (c ∷ []) y)) ∙ drop-append_seam (x ++ c ∷ []) y))

pub has_some : (c : ℕ) (t : List ℕ) → is_byte_of c t ≡ true → position_or_len (λ b. b == c) t < length t
unfolding is_byte_of
has_some c [] h = cc
has_some c (b ∷ t) h =
    let P : Bool → Type 0 = λ v. (v || list_any (λ x. x == c) t) ≡ true → cond (not v) (1 + position_or_len (λ x. x == c) t) 0 < length (b ∷ t) in
    elim (b == c) as P [ true ↦ λ g. omega arith | false ↦ λ g. let ih = has_some c t g in omega (arith, ih) ] h

-- a text that has the byte is cut there
pub cut_there : (c : ℕ) (t : List ℕ) → is_byte_of c t ≡ true → t ≡ before c t ++ c ∷ behind c t
cut_there c t h =
    let i = position_or_len (λ b. b == c) t in
    let s = has_some c t h in
    let e : get_or t i 0 ≡ c = eqb-true (get_or t i 0) c (passes_at_first (λ b. b == c) t 0 s) in
    split_at_first (λ b. b == c) t 0 s ∙ ap (λ x. before c t ++ x ∷ behind c t) e

pub last_is : (x : List ℕ) (c : ℕ) → slice_index (x ++ c ∷ []) (length (x ++ c ∷ []) - 1) ≡ c
last_is x c =
    let e : length (x ++ c ∷ []) - 1 ≡ length x = omega (arith, length-append x (c ∷ [])) in
    ap (λ n. get_or (x ++ c ∷ []) n 0) e ∙ here x c
  where
    here : (x : List ℕ) (c : ℕ) → get_or (x ++ c ∷ []) (length x) 0 ≡ c
    here [] c = refl
    here (b ∷ x) c = here x c

pub but_last : (x : List ℕ) (c : ℕ) → take (length (x ++ c ∷ []) - 1) (x ++ c ∷ []) ≡ x
but_last x c =
    let e : length (x ++ c ∷ []) - 1 ≡ length x = omega (arith, length-append x (c ∷ [])) in
    ap (λ n. take n (x ++ c ∷ [])) e ∙ take-append_seam x (c ∷ [])

-- a text that ends with a byte that is not 0
pub ends_there : (t : List ℕ) (c : ℕ) → (0 == c) ≡ false → (slice_index t (length t - 1) == c) ≡ true → t ≡ take (length t - 1) t ++ c ∷ []
ends_there [] c n h = let w : (0 == c) ≡ true = h in cc
ends_there (b ∷ t) c n h =
    let j = length (b ∷ t) - 1 in
    let l : suc j ≡ length (b ∷ t) = omega arith in
    let e = eqb-true (get_or (b ∷ t) j 0) c h in
    split_at (b ∷ t) j 0 (omega arith) ∙ (ap (λ x. take j (b ∷ t) ++ x ∷ drop (suc j) (b ∷ t)) e
    ∙ ap (λ y. take j (b ∷ t) ++ c ∷ y) (drop_of_length-le (b ∷ t) {i = suc j} (omega arith)))
