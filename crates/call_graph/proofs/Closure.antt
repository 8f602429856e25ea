-- Rows of bits, closed by way of one number after the other, have what chains of bits lead to.
use Rattle.std.proofs.Common.{◌≡◌, ℕ, zero, suc, ◌<◌, Bool, true, false, ◌||◌, ◌&&◌, List, [], ◌∷◌, ◌++◌, length, refl, sym, ◌∙◌, subst, arith, ◌⊎◌, inl, inr, ⊎_elim}
use Rattle.std.specs.Bool.{Decides}
use Rattle.std.proofs.lemmas.Bool.{cases_eq, or_left, or_right, and_from}
use Rattle.call_graph.specs.Rows.{row_has, IsRowChain}
use Rattle.call_graph.proofs.Sets.{row_inside}

or_cases : (a b c : Bool) → (a || (b && c)) ≡ true → (a ≡ true) ⊎ ((b ≡ true) × (c ≡ true))
or_cases true b c h = inl refl
or_cases false true c h = inr (refl, h)
or_cases false false c h = cc

module _ (rows : List ℕ) where
  -- a way from f to g by way of numbers below k alone
  abbrev pub via : ℕ → ℕ → ℕ → Bool
  via zero f g = row_has rows f g
  via (suc k) f g = via k f g || (via k f k && via k k g)

  grows : (k f g : ℕ) → via k f g ≡ true → via (suc k) f g ≡ true
  grows k f g h = or_left (via k f g) (via k f k && via k k g) h

  through : (k f g : ℕ) → via k f k ≡ true → via k k g ≡ true → via (suc k) f g ≡ true
  through k f g h i = or_right (via k f g) (via k f k && via k k g) (and_from (via k f k) (via k k g) h i)

  -- a way to k or from k needs no k in the middle
  to_middle : (k f : ℕ) → via (suc k) f k ≡ true → via k f k ≡ true
  to_middle k f h = ⊎_elim (λ a. a) (λ a. a.0) (or_cases (via k f k) (via k f k) (via k k k) h)

  from_middle : (k g : ℕ) → via (suc k) k g ≡ true → via k k g ≡ true
  from_middle k g h = ⊎_elim (λ a. a) (λ a. a.1) (or_cases (via k k g) (via k k k) (via k k g) h)

  joins : (n f m g : ℕ) → m < n → via n f m ≡ true → via n m g ≡ true → via n f g ≡ true
  joins zero f m g l a b = absurd (omega arith)
  joins (suc k) f m g l a b = ⊎_elim
      (λ e. through k f g (to_middle k f (subst (λ (x : ℕ). via (suc k) f x ≡ true) e a)) (from_middle k g (subst (λ (x : ℕ). via (suc k) x g ≡ true) e b)))
      (λ e. let l : m < k = omega (arith, e) in ⊎_elim
      (λ p. ⊎_elim
      (λ q. grows k f g (joins k f m g l p q))
      (λ q. through k f g (joins k f m k l p q.0) q.1)
      (or_cases (via k m g) (via k m k) (via k k g) b))
      (λ p. ⊎_elim
      (λ q. through k f g p.0 (joins k k m g l p.1 q))
      (λ q. through k f g p.0 q.1)
      (or_cases (via k m g) (via k m k) (via k k g) b))
      (or_cases (via k f m) (via k f k) (via k k m) a))
      (cases_eq m k)

  edge : (n f g : ℕ) → row_has rows f g ≡ true → via n f g ≡ true
  edge zero f g c = c
  edge (suc k) f g c = grows k f g (edge k f g c)

  chain_inside : (f g : ℕ) (between : List ℕ) → IsRowChain rows f between g → f < length rows
  chain_inside f g [] c = row_inside rows f g c
  chain_inside f g (h ∷ between) c = row_inside rows f h c.0

  chain_via : (f g : ℕ) (between : List ℕ) → IsRowChain rows f between g → via (length rows) f g ≡ true
  chain_via f g [] c = edge (length rows) f g c
  chain_via f g (h ∷ between) c =
      joins (length rows) f h g (chain_inside h g between c.1) (edge (length rows) f h c.0) (chain_via h g between c.1)

  pub chain_joins : (f g h : ℕ) (xs ys : List ℕ) → IsRowChain rows f xs g → IsRowChain rows g ys h → IsRowChain rows f (xs ++ g ∷ ys) h
  chain_joins f g h [] ys a b = (a, b)
  chain_joins f g h (x ∷ xs) ys a b = (a.0, chain_joins x g h xs ys a.1 b)

  via_chain : (k f g : ℕ) → via k f g ≡ true → (between : List ℕ) × IsRowChain rows f between g
  via_chain zero f g h = ([], h)
  via_chain (suc k) f g h = ⊎_elim
      (λ a. via_chain k f g a)
      (λ a. let x = via_chain k f k a.0 in let y = via_chain k k g a.1 in (x.0 ++ k ∷ y.0, chain_joins f k g x.0 y.0 x.1 y.1))
      (or_cases (via k f g) (via k f k) (via k k g) h)

  pub closed : (new : List ℕ) → length new ≡ length rows → ((i j : ℕ) → i < length rows → row_has new i j ≡ via (length rows) i j)
      → (i j : ℕ) → Decides (row_has new i j) ((between : List ℕ) × IsRowChain rows i between j)
  closed new same is i j = (
    λ h. let l : i < length rows = subst (λ (x : ℕ). i < x) same (row_inside new i j h) in via_chain (length rows) i j (sym (is i j l) ∙ h),
    λ c. is i j (chain_inside i j c.0 c.1) ∙ chain_via i j c.0 c.1,
  )
