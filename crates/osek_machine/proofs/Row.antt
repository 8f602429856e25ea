-- Rows of lines, a bit for each.
use Rattle.std.proofs.Common.{◌≡◌, ◌∙◌, ℕ, ◌+◌, ◌*◌, ◌%◌, ◌^◌, ◌<◌, ◌≤◌, ◌⊎◌, inl, inr, Bool, true, false, cond, sym, ap, arith, bit_or}
use Rattle.std.specs.Prelude.{◌&&◌, ltb}
use Rattle.std.specs.Int.{bit_at, w32}
use Rattle.std.proofs.lemmas.Bool.{lt-ltb, le-ltb, cases_lt, cases_eq}
use Rattle.std.proofs.lemmas.Nat.Bits.{bit_at_set_same, bit_at_set_other}

abbrev one_bit : Bool → ℕ
one_bit b = cond b 1 0

-- the row has the lines below n that pass the test
abbrev pub Row : (ℕ → Bool) → ℕ → ℕ → Type 0
Row test n row = (v : ℕ) → bit_at row v ≡ cond (ltb v n && test v) 1 0

same_test : (v u : ℕ) → (v ≡ u → ⊥) → ltb v u ≡ ltb v (u + 1)
same_test v u differ = by (cases_lt v u)
  where
    by : (v < u) ⊎ (u ≤ v) → ltb v u ≡ ltb v (u + 1)
    by (inl less) = lt-ltb v u less ∙ sym (lt-ltb v (u + 1) (omega (arith, less)))
    by (inr le) = le-ltb v u le ∙ sym (le-ltb v (u + 1) (omega (arith, le, differ)))

module _ (test : ℕ → Bool) (u row : ℕ) (h : Row test u row) where
  at_same : (b : Bool) → test u ≡ b → (v : ℕ) → v ≡ u → one_bit b ≡ one_bit (ltb v (u + 1) && test v)
  at_same b is v same =
      let less : ltb v (u + 1) ≡ true = lt-ltb v (u + 1) (omega (arith, same)) in
      ap one_bit (sym is ∙ (ap test (sym same) ∙ sym (ap (λ c. c && test v) less)))

  at_other : (v : ℕ) → (v ≡ u → ⊥) → one_bit (ltb v u && test v) ≡ one_bit (ltb v (u + 1) && test v)
  at_other v differ = ap (λ c. one_bit (c && test v)) (same_test v u differ)

  pub row_set : u < 32 → test u ≡ true → Row test (u + 1) (bit_or row (1 * 2 ^ u % 2 ^ 32))
  row_set small is v = by (cases_eq v u)
    where
      by : (v ≡ u) ⊎ (v ≡ u → ⊥) → bit_at (bit_or row (1 * 2 ^ u % 2 ^ 32)) v ≡ cond (ltb v (u + 1) && test v) 1 0
      by (inl same) = ap (bit_at (bit_or row (1 * 2 ^ u % 2 ^ 32))) same ∙ (bit_at_set_same w32 row u small ∙ at_same true is v same)
      by (inr differ) = bit_at_set_other w32 row u small v differ ∙ (h v ∙ at_other v differ)

  pub row_kept : test u ≡ false → Row test (u + 1) row
  row_kept is v = by (cases_eq v u)
    where
      by : (v ≡ u) ⊎ (v ≡ u → ⊥) → bit_at row v ≡ cond (ltb v (u + 1) && test v) 1 0
      by (inl same) =
          let none : ltb v u ≡ false = le-ltb v u (omega (arith, same)) in
          h v ∙ (ap (λ c. one_bit (c && test v)) none ∙ at_same false is v same)
      by (inr differ) = h v ∙ at_other v differ
