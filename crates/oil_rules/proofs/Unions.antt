-- Unions of masks.
use Rattle.std.proofs.Common.{◌≡◌, ◌∙◌, inl, inr, ℕ, ◌<◌, ◌≤◌, Bool, true, false, cond, List, [], ◌∷◌, length, get_or, suc, zero, refl, ap, sym, arith}
use Rattle.std.specs.Prelude.{bit_and, bit_or, All, AllPairs}
use Rattle.std.specs.Int.{bit_at}
use Rattle.std.proofs.lemmas.Nat.Bits.{bit_at_and, bit_at_or, bit_at-zero, same_from_bits}
use Rattle.std.proofs.lemmas.List.Elements.{All-head, All-tail}
use Rattle.sloth_base.specs.declared.config.EventDecl.{EventDecl}
use Rattle.sloth_base.specs.ConfigRange.{IsUnionOf}

-- each bit of the first is one of the second
abbrev pub Within : ℕ → ℕ → Type 0
Within a b = (k : ℕ) → bit_at a k ≤ bit_at b k

pub within_both : (a b : ℕ) → Within a b → Within b a → a ≡ b
within_both a b h k = same_from_bits a b (λ i. let p = h i in let q = k i in omega (arith, p, q))

pub within_zero : (b : ℕ) → Within 0 b
within_zero b i = let z = bit_at-zero i in omega (arith, z)

pub within_or : (a b c : ℕ) → Within a c → Within b c → Within (bit_or a b) c
within_or a b c h k i = let o = bit_at_or a b i in let p = h i in let q = k i in omega (arith, o, p, q)

pub within_left : (a b c : ℕ) → Within a b → Within a (bit_or b c)
within_left a b c h i = let o = bit_at_or b c i in let p = h i in omega (arith, o, p)

pub within_right : (a b c : ℕ) → Within a c → Within a (bit_or b c)
within_right a b c h i = let o = bit_at_or b c i in let p = h i in omega (arith, o, p)

pub and_or_zero : (a b c : ℕ) → bit_and a b ≡ 0 → bit_and a c ≡ 0 → bit_and a (bit_or b c) ≡ 0
and_or_zero a b c h k = same_from_bits (bit_and a (bit_or b c)) 0 (λ i.
    let z = bit_at-zero i in
    let p = sym (bit_at_and a b i) ∙ ap (λ n. bit_at n i) h in
    let q = sym (bit_at_and a c i) ∙ ap (λ n. bit_at n i) k in
    let m = bit_at_and a (bit_or b c) i in
    let o = bit_at_or b c i in
    omega (arith, z, p, q, m, o))

pub and_swapped : (a b : ℕ) → bit_and a b ≡ 0 → bit_and b a ≡ 0
and_swapped a b h = same_from_bits (bit_and b a) 0 (λ i.
    let z = bit_at-zero i in
    let p = sym (bit_at_and a b i) ∙ ap (λ n. bit_at n i) h in
    let m = bit_at_and b a i in
    omega (arith, z, p, m))

module _ (c : List ℕ → Bool) where
  -- the union of the masks of the chosen events
  abbrev pub union_of : List EventDecl → ℕ
  union_of [] = 0
  union_of (e ∷ es) = cond (c e.name) (bit_or e.mask (union_of es)) (union_of es)

  abbrev pub AreApart : EventDecl → EventDecl → Type 0
  AreApart d e = c d.name ≡ true → c e.name ≡ true → bit_and d.mask e.mask ≡ 0

  apart_from : (d : EventDecl) (es : List EventDecl) → c d.name ≡ true → All (AreApart d) es → bit_and d.mask (union_of es) ≡ 0
  apart_from d [] t h = zero_right d.mask
    where
      zero_right : (a : ℕ) → bit_and a 0 ≡ 0
      zero_right a = same_from_bits (bit_and a 0) 0 (λ i. let z = bit_at-zero i in let m = bit_at_and a 0 i in omega (arith, z, m))
  apart_from d (e ∷ es) t h = by (apart_from d es t (All-tail (AreApart d) e es h)) (c e.name) refl
    where
      by : bit_and d.mask (union_of es) ≡ 0 → (b : Bool) → c e.name ≡ b → bit_and d.mask (union_of (e ∷ es)) ≡ 0
      by ih true q = rw q (and_or_zero d.mask e.mask (union_of es) (All-head (AreApart d) e es h t q) ih)
      by ih false q = rw q ih

  pub union_is : (es : List EventDecl) → AllPairs AreApart es → IsUnionOf es (union_of es)
  union_is [] h = refl
  union_is (e ∷ es) h = by (union_is es (λ i j d l k. h (suc i) (suc j) d (omega arith) (omega arith))) (c e.name) refl
    where
      others : All (AreApart e) es
      others k d l = h 0 (suc k) d (omega arith) (omega arith)

      by : IsUnionOf es (union_of es) → (b : Bool) → c e.name ≡ b → IsUnionOf (e ∷ es) (union_of (e ∷ es))
      by ih true q = rw q (inr (union_of es, ih, apart_from e es q others, refl))
      by ih false q = rw q (inl ih)

  -- a chosen event's mask is in the union
  pub within_union : (es : List EventDecl) (k : ℕ) (d : EventDecl) → k < length es → c (get_or es k d).name ≡ true → Within (get_or es k d).mask (union_of es)
  within_union [] k d h t = absurd (omega arith)
  within_union (e ∷ es) zero d h t = rw t (within_left e.mask e.mask (union_of es) (λ i. omega arith))
  within_union (e ∷ es) (suc k) d h t = by (within_union es k d (omega arith) t) (c e.name) refl
    where
      by : Within (get_or es k d).mask (union_of es) → (b : Bool) → c e.name ≡ b → Within (get_or es k d).mask (union_of (e ∷ es))
      by ih true q = rw q (within_right (get_or es k d).mask e.mask (union_of es) ih)
      by ih false q = rw q ih

  -- what has the masks of all chosen events has the union
  pub union_within : (es : List EventDecl) (m : ℕ) → All (λ (e : EventDecl). c e.name ≡ true → Within e.mask m) es → Within (union_of es) m
  union_within [] m h = within_zero m
  union_within (e ∷ es) m h = by (union_within es m (All-tail (λ (e : EventDecl). c e.name ≡ true → Within e.mask m) e es h)) (c e.name) refl
    where
      by : Within (union_of es) m → (b : Bool) → c e.name ≡ b → Within (union_of (e ∷ es)) m
      by ih true q = rw q (within_or e.mask (union_of es) m (All-head (λ (e : EventDecl). c e.name ≡ true → Within e.mask m) e es h q) ih)
      by ih false q = rw q ih
