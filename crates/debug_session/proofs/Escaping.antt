-- What stands for bytes stands for them alone, and has none that is reserved but `}`.
use Rattle.std.proofs.Common.{◌≡◌, ℕ, ◌-◌, ◌+◌, ◌/◌, ◌%◌, ◌∙◌, Bool, true, false, List, [], ◌∷◌, ◌++◌, refl, sym, ap, arith}
use Rattle.std.specs.Prelude.{if◌then◌else◌, ◌||◌, ◌==◌}
use Rattle.std.proofs.lemmas.Bool.{eqb-true, eqb-false, or_parts}
use Rattle.std.proofs.Common.{◌⊎◌, inl, inr, subst}
use Rattle.debug_session.specs.Escapes.{is_reserved, turned, escape_of, escaped, unescaped, unescaped_from, is_unmarked}

-- a byte whose bit 5 was turned twice is as before
pub turned-twice : (n : ℕ) → turned (turned n) ≡ n
turned-twice n = by (n / 32 % 2 == 1) refl where
  by : (b : Bool) → (n / 32 % 2 == 1) ≡ b → turned (if b then n - 32 else n + 32) ≡ n
  by true e =
      let h : n / 32 % 2 ≡ 1 = eqb-true _ _ e in
      let i : (n - 32) / 32 % 2 ≡ 0 = omega (arith, h) in
      let j : n - 32 + 32 ≡ n = omega (arith, h) in
      rw i j
  by false e =
      let h : n / 32 % 2 ≡ 0 = omega (arith, eqb-false _ _ e) in
      let i : (n + 32) / 32 % 2 ≡ 1 = omega (arith, h) in
      rw i (omega arith)

one-undone : (b : ℕ) (rest : List ℕ) → unescaped_from false (escape_of b ++ rest) ≡ b ∷ unescaped_from false rest
one-undone b rest = by (is_reserved b) refl where
  by : (r : Bool) → is_reserved b ≡ r → unescaped_from false ((if r then 125 ∷ turned b ∷ [] else b ∷ []) ++ rest) ≡ b ∷ unescaped_from false rest
  by true e = ap (λ n. n ∷ unescaped_from false rest) (turned-twice b)
  by false e =
      let last = (or_parts (b == 35 || b == 36 || b == 42) (b == 125) e).1 in
      rw last refl

pub escapes_undone : (content : List ℕ) → unescaped (escaped content) ≡ content
escapes_undone [] = refl
escapes_undone (b ∷ content) = one-undone b (escaped content) ∙ ap (λ (xs : List ℕ). b ∷ xs) (escapes_undone content)

-- what is reserved
ways : (b : ℕ) → is_reserved b ≡ true → (b ≡ 35) ⊎ (b ≡ 36) ⊎ (b ≡ 42) ⊎ (b ≡ 125)
ways b e = first (b == 35) (b == 36) (b == 42) (b == 125) refl refl refl refl e where
  first : (p q r s : Bool) → (b == 35) ≡ p → (b == 36) ≡ q → (b == 42) ≡ r → (b == 125) ≡ s → p || q || r || s ≡ true
      → (b ≡ 35) ⊎ (b ≡ 36) ⊎ (b ≡ 42) ⊎ (b ≡ 125)
  first true q r s hp hq hr hs e = inl (eqb-true b 35 hp)
  first false true r s hp hq hr hs e = inr (inl (eqb-true b 36 hq))
  first false false true s hp hq hr hs e = inr (inr (inl (eqb-true b 42 hr)))
  first false false false true hp hq hr hs e = inr (inr (inr (eqb-true b 125 hs)))
  first false false false false hp hq hr hs e = absurd cc

two-unmarked : (b : ℕ) (rest : List ℕ) → (b ≡ 35) ⊎ (b ≡ 36) ⊎ (b ≡ 42) ⊎ (b ≡ 125) → is_unmarked (125 ∷ turned b ∷ rest) ≡ is_unmarked rest
two-unmarked b rest (inl e) = subst (λ n. is_unmarked (125 ∷ turned n ∷ rest) ≡ is_unmarked rest) (sym e) refl
two-unmarked b rest (inr (inl e)) = subst (λ n. is_unmarked (125 ∷ turned n ∷ rest) ≡ is_unmarked rest) (sym e) refl
two-unmarked b rest (inr (inr (inl e))) = subst (λ n. is_unmarked (125 ∷ turned n ∷ rest) ≡ is_unmarked rest) (sym e) refl
two-unmarked b rest (inr (inr (inr e))) = subst (λ n. is_unmarked (125 ∷ turned n ∷ rest) ≡ is_unmarked rest) (sym e) refl

one-unmarked : (b : ℕ) (rest : List ℕ) → is_unmarked (escape_of b ++ rest) ≡ is_unmarked rest
one-unmarked b rest = by (is_reserved b) refl where
  by : (r : Bool) → is_reserved b ≡ r → is_unmarked ((if r then 125 ∷ turned b ∷ [] else b ∷ []) ++ rest) ≡ is_unmarked rest
  by true e = two-unmarked b rest (ways b e)
  by false e =
      let h = or_parts (b == 35 || b == 36 || b == 42) (b == 125) e in
      let i = or_parts (b == 35 || b == 36) (b == 42) h.0 in
      let j = or_parts (b == 35) (b == 36) i.0 in
      rw (j.0, j.1, i.1) refl

pub escaped_unmarked : (content : List ℕ) → is_unmarked (escaped content) ≡ true
escaped_unmarked [] = refl
escaped_unmarked (b ∷ content) = one-unmarked b (escaped content) ∙ escaped_unmarked content
