-- Words in a list of bytes.
use Rattle.std.proofs.Common.{◌≡◌, ℕ, zero, suc, ◌+◌, ◌*◌, ◌/◌, ◌%◌, ◌<◌, ◌≤◌, List, [], ◌∷◌, length, get_or, refl, ap, ◌∙◌, arith, ◌⊎◌, inl, inr, ⊎_elim}
use Rattle.std.specs.Prelude.{set}
use Rattle.std.proofs.lemmas.List.{get_or-set_same, get_or-set_other, length-set}
use Rattle.rv32_instr.specs.Ram.{word_at, with_word, with_words}

-- RAM is as long as before
pub length-with_word : (ram : List ℕ) (o v : ℕ) → length (with_word ram o v) ≡ length ram
unfolding with_word
length-with_word ram o v = simp length-set

-- a byte outside the word written
pub get_or-with_word : (ram : List ℕ) (o v i : ℕ) → (i < o) ⊎ (o + 4 ≤ i) → get_or (with_word ram o v) i 0 ≡ get_or ram i 0
unfolding with_word
get_or-with_word ram o v i h = grind (arith, get_or-set_other)

-- a word apart from the word written
pub word_at-other : (ram : List ℕ) (p v o : ℕ) → (o + 4 ≤ p) ⊎ (p + 4 ≤ o) → word_at (with_word ram p v) o ≡ word_at ram o
unfolding word_at
word_at-other ram p v o h =
    let e0 = get_or-with_word ram p v o (grind (arith, h)) in
    let e1 = get_or-with_word ram p v (o + 1) (grind (arith, h)) in
    let e2 = get_or-with_word ram p v (o + 2) (grind (arith, h)) in
    let e3 = get_or-with_word ram p v (o + 3) (grind (arith, h)) in
    cc

bytes_of : (v : ℕ) → v < 4294967296 → v % 256 + v / 256 % 256 * 256 + v / 65536 % 256 * 65536 + v / 16777216 % 256 * 16777216 ≡ v
bytes_of v h = omega arith

-- the word that was written is there
pub word_at-same : (ram : List ℕ) (o v : ℕ) → o + 4 ≤ length ram → v < 4294967296 → word_at (with_word ram o v) o ≡ v
unfolding word_at with_word
word_at-same ram o v h l =
    let r1 = set ram o (v % 256) in
    let r2 = set r1 (o + 1) (v / 256 % 256) in
    let r3 = set r2 (o + 2) (v / 65536 % 256) in
    let n1 = length-set ram o (v % 256) in
    let n2 = length-set r1 (o + 1) (v / 256 % 256) in
    let n3 = length-set r2 (o + 2) (v / 65536 % 256) in
    let b0 : get_or (set r3 (o + 3) (v / 16777216 % 256)) o 0 ≡ v % 256 = grind (arith, get_or-set_other, get_or-set_same) in
    let b1 : get_or (set r3 (o + 3) (v / 16777216 % 256)) (o + 1) 0 ≡ v / 256 % 256 = grind (arith, get_or-set_other, get_or-set_same) in
    let b2 : get_or (set r3 (o + 3) (v / 16777216 % 256)) (o + 2) 0 ≡ v / 65536 % 256 = grind (arith, get_or-set_other, get_or-set_same) in
    let b3 : get_or (set r3 (o + 3) (v / 16777216 % 256)) (o + 3) 0 ≡ v / 16777216 % 256 = grind (arith, get_or-set_other, get_or-set_same) in
    let e = bytes_of v l in
    cc

-- the word depends on its four bytes
pub word_at-agree : (r s : List ℕ) (o : ℕ) → ((i : ℕ) → o ≤ i → i < o + 4 → get_or r i 0 ≡ get_or s i 0) → word_at r o ≡ word_at s o
unfolding word_at
word_at-agree r s o h =
    let e0 = h o (omega arith) (omega arith) in
    let e1 = h (o + 1) (omega arith) (omega arith) in
    let e2 = h (o + 2) (omega arith) (omega arith) in
    let e3 = h (o + 3) (omega arith) (omega arith) in
    cc

-- a word of bytes has 32 bits
pub word_below : (ram : List ℕ) (o : ℕ) → ((i : ℕ) → get_or ram i 0 < 256) → word_at ram o < 4294967296
unfolding word_at
word_below ram o h = omega (arith, h o, h (o + 1), h (o + 2), h (o + 3))

-- words written one after the other
pub length-with_words : (ws ram : List ℕ) (o : ℕ) → length (with_words ram o ws) ≡ length ram
length-with_words [] ram o = refl
length-with_words (w ∷ ws) ram o = length-with_words ws (with_word ram o w) (o + 4) ∙ length-with_word ram o w

-- all other bytes stay
pub get_or-with_words : (ws ram : List ℕ) (o i : ℕ) → (i < o) ⊎ (o + 4 * length ws ≤ i) → get_or (with_words ram o ws) i 0 ≡ get_or ram i 0
get_or-with_words [] ram o i h = refl
get_or-with_words (w ∷ ws) ram o i h =
    get_or-with_words ws (with_word ram o w) (o + 4) i (grind (arith, h))
    ∙ get_or-with_word ram o w i (grind (arith, h))

-- and all words apart from them
pub word_at-others : (ws ram : List ℕ) (o p : ℕ) → (p + 4 ≤ o) ⊎ (o + 4 * length ws ≤ p) → word_at (with_words ram o ws) p ≡ word_at ram p
word_at-others ws ram o p h =
    word_at-agree (with_words ram o ws) ram p (λ i a b. get_or-with_words ws ram o i (⊎_elim (λ x. inl (omega arith)) (λ x. inr (omega arith)) h))

-- the words are there
pub word_at-with_words : (ws ram : List ℕ) (o k : ℕ) → k < length ws → o + 4 * length ws ≤ length ram → ((j : ℕ) → get_or ws j 0 < 4294967296) → word_at (with_words ram o ws) (o + 4 * k) ≡ get_or ws k 0
word_at-with_words [] ram o k h l small = absurd (omega arith)
word_at-with_words (w ∷ ws) ram o zero h l small =
    let e : o + 4 * 0 ≡ o = omega arith in
    ap (word_at (with_words (with_word ram o w) (o + 4) ws)) e
    ∙ word_at-others ws (with_word ram o w) (o + 4) o (inl (omega arith))
    ∙ word_at-same ram o w (omega arith) (small 0)
word_at-with_words (w ∷ ws) ram o (suc k) h l small =
    let e : o + 4 * suc k ≡ o + 4 + 4 * k = omega arith in
    let n = length-with_word ram o w in
    ap (word_at (with_words (with_word ram o w) (o + 4) ws)) e
    ∙ word_at-with_words ws (with_word ram o w) (o + 4) k (omega arith) (omega arith) (λ j. small (suc j))
