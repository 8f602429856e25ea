-- Sections that are written one after the other.
use Rattle.std.proofs.Common.{◌≡◌, ◌≤◌, ◌<◌, ◌+◌, ◌⊎◌, ℕ, zero, suc, List, [], ◌∷◌, ◌++◌, length, refl, ap, ◌∙◌, inl, inr, ⊎_elim, arith}
use Rattle.std.specs.Prelude.{All, AllPairs, set, map, replicate, slice_index}
use Rattle.std.proofs.lemmas.List.{length-set, length-replicate, get_or-set_same, get_or-set_other}
use Rattle.std.proofs.lemmas.List.Elements.{All-cons, All-head, All-tail}
pub use Rattle.mem_map.proofs.CodeBytes.{code_bytes_length}
use Rattle.mem_map.specs.Sections.{Section, with_bytes, linked_memory, IsSectionInside}
use Rattle.sloth_link.specs.Linked.{HasSectionBytes, IsOutsideSection, AreSectionsApart, AreLinked}

-- ---- bytes

-- the memory is as long as before
pub length-with_bytes : (bytes memory : List ℕ) (o : ℕ) → length (with_bytes memory o bytes) ≡ length memory
length-with_bytes [] memory o = refl
length-with_bytes (b ∷ bytes) memory o = length-with_bytes bytes (set memory o b) (o + 1) ∙ length-set memory o b

-- all other bytes stay
pub other_byte : (bytes memory : List ℕ) (o i : ℕ) → (i < o) ⊎ (o + length bytes ≤ i) → slice_index (with_bytes memory o bytes) i ≡ slice_index memory i
other_byte [] memory o i h = refl
other_byte (b ∷ bytes) memory o i h =
    other_byte bytes (set memory o b) (o + 1) i (⊎_elim (λ x. inl (omega arith)) (λ x. inr (omega arith)) h)
    ∙ get_or-set_other memory o i b 0 (⊎_elim (λ x e. omega arith) (λ x e. omega arith) h)

-- the bytes are there
pub own_byte : (bytes memory : List ℕ) (o k : ℕ) → k < length bytes → o + length bytes ≤ length memory → slice_index (with_bytes memory o bytes) (o + k) ≡ slice_index bytes k
own_byte [] memory o k h l = absurd (omega arith)
own_byte (b ∷ bytes) memory o zero h l =
    let e : o + 0 ≡ o = omega arith in
    ap (λ j. slice_index (with_bytes (set memory o b) (o + 1) bytes) j) e
    ∙ other_byte bytes (set memory o b) (o + 1) o (inl (omega arith))
    ∙ get_or-set_same memory o b 0 (omega arith)
own_byte (b ∷ bytes) memory o (suc k) h l =
    let e : o + suc k ≡ o + 1 + k = omega arith in
    let n = length-set memory o b in
    ap (λ j. slice_index (with_bytes (set memory o b) (o + 1) bytes) j) e
    ∙ own_byte bytes (set memory o b) (o + 1) k (omega arith) (omega (arith, n))

-- ---- sections

-- nor do sections change its length
pub length-linked : (sections : List Section) (memory : List ℕ) → length (linked_memory memory sections) ≡ length memory
length-linked [] memory = refl
length-linked (p ∷ sections) memory = length-linked sections (with_bytes memory p.offset p.bytes) ∙ length-with_bytes p.bytes memory p.offset

-- one list of sections behind another
pub linked_append : (xs ys : List Section) (memory : List ℕ) → linked_memory memory (xs ++ ys) ≡ linked_memory (linked_memory memory xs) ys
linked_append [] ys memory = refl
linked_append (x ∷ xs) ys memory = linked_append xs ys (with_bytes memory x.offset x.bytes)

-- a byte that no section has stays
pub untouched : (sections : List Section) (memory : List ℕ) (i : ℕ) → All (IsOutsideSection i) sections → slice_index (linked_memory memory sections) i ≡ slice_index memory i
untouched [] memory i h = refl
untouched (p ∷ sections) memory i h =
    untouched sections (with_bytes memory p.offset p.bytes) i (All-tail (IsOutsideSection i) p sections h)
    ∙ other_byte p.bytes memory p.offset i (All-head (IsOutsideSection i) p sections h)

misses : (p q : Section) (k : ℕ) → k < length p.bytes → AreSectionsApart p q → IsOutsideSection (p.offset + k) q
misses p q k l (inl x) = inl (omega arith)
misses p q k l (inr x) = inr (omega arith)

later : (p : Section) (sections : List Section) → AllPairs AreSectionsApart (p ∷ sections) → All (AreSectionsApart p) sections
later p sections h = λ k d l. h 0 (suc k) d (omega arith) (omega arith)

rest : (p : Section) (sections : List Section) → AllPairs AreSectionsApart (p ∷ sections) → AllPairs AreSectionsApart sections
rest p sections h = λ i j d l m. h (suc i) (suc j) d (omega arith) (omega arith)

-- sections that are apart all hold their bytes at the end
pub all_hold : (sections : List Section) (memory : List ℕ) → All (IsSectionInside (length memory)) sections → AllPairs AreSectionsApart sections → All (HasSectionBytes (linked_memory memory sections)) sections
all_hold [] memory inside apart = λ k d l. absurd (omega arith)
all_hold (p ∷ sections) memory inside apart =
    let first = with_bytes memory p.offset p.bytes in
    let n = length-with_bytes p.bytes memory p.offset in
    All-cons (HasSectionBytes (linked_memory first sections)) p sections
    (λ k l. untouched sections first (p.offset + k) (λ j d m. misses p _ k l (later p sections apart j d m)) ∙ own_byte p.bytes memory p.offset k l (All-head (IsSectionInside (length memory)) p sections inside))
    (all_hold sections first (λ j d m. let h = All-tail (IsSectionInside (length memory)) p sections inside j d m in omega (arith, n, h)) (rest p sections apart))

zero_at : (n i : ℕ) → slice_index (replicate n 0) i ≡ 0
zero_at zero zero = refl
zero_at zero (suc i) = refl
zero_at (suc n) zero = refl
zero_at (suc n) (suc i) = zero_at n i

-- written into zeros they are linked: all else is zero
pub are_linked : (size : ℕ) (sections : List Section) → All (IsSectionInside size) sections → AllPairs AreSectionsApart sections → AreLinked size sections (linked_memory (replicate size 0) sections)
are_linked size sections inside apart =
    let n = length-replicate {A = ℕ} size 0 in
    record {
      size_is = length-linked sections (replicate size 0) ∙ n;
      hold = all_hold sections (replicate size 0) (λ j d m. let h = inside j d m in omega (arith, n, h)) apart;
      zeros = λ i h. untouched sections (replicate size 0) i h ∙ zero_at size i;
    }

-- ---- lists of sections

-- what all sections have, those of the first list have
pub front_of : {X : Type 0} (P : Section → Type 0) (f : X → Section) (xs : List X) (others : List Section) → All P (map f xs ++ others) → All (λ x. P (f x)) xs
front_of P f [] others h = λ k d l. absurd (omega arith)
front_of P f (x ∷ xs) others h =
    All-cons (λ y. P (f y)) x xs (All-head P (f x) (map f xs ++ others) h) (front_of P f xs others (All-tail P (f x) (map f xs ++ others) h))

-- and those of the second
pub back_of : (P : Section → Type 0) (front others : List Section) → All P (front ++ others) → All P others
back_of P [] others h = h
back_of P (x ∷ front) others h = back_of P front others (All-tail P x (front ++ others) h)

-- what the sections of things have, told of the things
pub each_of : {X : Type 0} (P : Section → Type 0) (f : X → Section) (xs : List X) → All P (map f xs) → All (λ x. P (f x)) xs
each_of P f [] h = λ k d l. absurd (omega arith)
each_of P f (x ∷ xs) h = All-cons (λ y. P (f y)) x xs (All-head P (f x) (map f xs) h) (each_of P f xs (All-tail P (f x) (map f xs) h))
