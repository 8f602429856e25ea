-- A list that grows by one.
use Rattle.std.proofs.Common.{◌≡◌, ℕ, zero, suc, ◌+◌, ◌-◌, ◌<◌, List, [], ◌∷◌, ◌++◌, length, get_or, refl, ap, sym, ◌∙◌, subst, arith, ⊎_elim}
use Rattle.std.proofs.lemmas.Bool.{cases_lt}
use Rattle.std.proofs.lemmas.List.{length-append, get_or_append_left, get_or-append_right}
use Rattle.std.proofs.Math.Seq.{get_or-append_seam}

-- each entry is as said, and one more
pub record Grown (A : Type 0) (new : List A) (d : A) (n : ℕ) (entry : ℕ → A) : Type 0 where
  pub count : length new ≡ n + 1
  pub exact : (i : ℕ) → i < n + 1 → get_or new i d ≡ entry i

pub grown : (A : Type 0) (old new : List A) (x d : A) (n : ℕ) (entry : ℕ → A) → length old ≡ n → ((i : ℕ) → i < n → get_or old i d ≡ entry i)
    → new ≡ old ++ x ∷ [] → x ≡ entry n → Grown A new d n entry
grown A old new x d n entry count exact e is = subst (λ l. Grown A l d n entry) (sym e) (record {
  count = length-append old (x ∷ []) ∙ ap (λ k. k + 1) count;
  exact = λ i lt. ⊎_elim
      (λ less. get_or_append_left old (x ∷ []) d i (omega (arith, less, count)) ∙ exact i less)
      (λ le.
      let same : i ≡ length old = omega (arith, lt, le, count) in
      ap (λ k. get_or (old ++ x ∷ []) k d) same ∙ get_or-append_seam old x [] d ∙ is ∙ ap entry (sym count ∙ sym same))
      (cases_lt i n);
})

-- what holds of each entry holds of one more
pub record Held (A : Type 0) (P : ℕ → A → Type 0) (new : List A) (d : A) (n : ℕ) : Type 0 where
  pub count : length new ≡ n + 1
  pub each : (i : ℕ) → i < n + 1 → P i (get_or new i d)

pub held_more : (A : Type 0) (P : ℕ → A → Type 0) (old new : List A) (x d : A) (n : ℕ) → length old ≡ n → ((i : ℕ) → i < n → P i (get_or old i d))
    → new ≡ old ++ x ∷ [] → P n x → Held A P new d n
held_more A P old new x d n count each e is = subst (λ l. Held A P l d n) (sym e) (record {
  count = length-append old (x ∷ []) ∙ ap (λ k. k + 1) count;
  each = λ i lt. ⊎_elim
      (λ less. subst (P i) (sym (get_or_append_left old (x ∷ []) d i (omega (arith, less, count)))) (each i less))
      (λ le.
      let same : i ≡ n = omega (arith, lt, le) in
      let here = ap (λ k. get_or (old ++ x ∷ []) k d) (sym count) ∙ get_or-append_seam old x [] d in
      subst (λ k. P k (get_or (old ++ x ∷ []) k d)) (sym same) (subst (P n) (sym here) is))
      (cases_lt i n);
})

-- nothing but the default, and one more of it
pub record Filled (A : Type 0) (new : List A) (x : A) (n : ℕ) : Type 0 where
  pub count : length new ≡ n + 1
  pub all : (i : ℕ) → get_or new i x ≡ x

one_default : (A : Type 0) (x : A) (k : ℕ) → get_or (x ∷ []) k x ≡ x
one_default A x zero = refl
one_default A x (suc k) = refl

pub filled_more : (A : Type 0) (old new : List A) (x : A) (n : ℕ) → length old ≡ n → ((i : ℕ) → get_or old i x ≡ x) → new ≡ old ++ x ∷ [] → Filled A new x n
filled_more A old new x n count all e = subst (λ l. Filled A l x n) (sym e) (record {
  count = length-append old (x ∷ []) ∙ ap (λ k. k + 1) count;
  all = λ i. ⊎_elim
      (λ less. get_or_append_left old (x ∷ []) x i (omega (arith, less, count)) ∙ all i)
      (λ le. get_or-append_right old (x ∷ []) n i x count le ∙ one_default A x (i - n))
      (cases_lt i n);
})
