-- Rows that tell of an event, and what is so of each row.
use Rattle.std.proofs.Common.{ℕ, zero, suc, ◌<◌, ◌≤◌, ◌≡◌, ◌⊎◌, inl, inr, List, [], ◌∷◌, ◌++◌, subst, arith}
use Rattle.std.proofs.lemmas.Bool.{cases_lt}
use Rattle.sloth_base.specs.declared.service.Stamped.{Stamped}
use Rattle.trace_check.specs.NextEvents.{IsTold, IsToldBy}
use Rattle.trace_check.specs.Rows.{rows_below}
use Rattle.trace_check.specs.declared.rows.NextEvent.{NextEvent}

-- ---- an event that is told of

pub told_left : (rows more : List NextEvent) (e : Stamped) → IsTold rows e → IsTold (rows ++ more) e
told_left [] more e h = absurd h
told_left (row ∷ rows) more e (inl h) = inl h
told_left (row ∷ rows) more e (inr h) = inr (told_left rows more e h)

pub told_right : (rows more : List NextEvent) (e : Stamped) → IsTold more e → IsTold (rows ++ more) e
told_right [] more e h = h
told_right (row ∷ rows) more e h = inr (told_right rows more e h)

pub told_below : (n k : ℕ) (rows : ℕ → List NextEvent) (e : Stamped) → k < n → IsTold (rows k) e → IsTold (rows_below n rows) e
unfolding rows_below
told_below zero k rows e lt h = absurd (omega (arith, lt))
told_below (suc n) k rows e lt h = by (λ l. told_below n k rows e l h) (cases_lt k n)
  where
    by : (k < n → IsTold (rows_below n rows) e) → (k < n) ⊎ (n ≤ k) → IsTold (rows_below n rows ++ rows n) e
    by below (inl l) = told_left (rows_below n rows) (rows n) e (below l)
    by below (inr ge) =
        let same : k ≡ n = omega (arith, lt, ge) in
        let P : ℕ → Type 0 = λ i. IsTold (rows i) e in
        told_right (rows_below n rows) (rows n) e (subst P same h)

-- ---- each row

-- so is each row
abbrev pub Each : (NextEvent → Type 0) → List NextEvent → Type 0
Each P [] = Unit {0}
Each P (row ∷ rows) = P row × Each P rows

module _ (P : NextEvent → Type 0) where
  pub each_both : (rows more : List NextEvent) → Each P rows → Each P more → Each P (rows ++ more)
  each_both [] more h k = k
  each_both (row ∷ rows) more h k = (h.0, each_both rows more h.1 k)

  pub each_below : (n : ℕ) (rows : ℕ → List NextEvent) → ((k : ℕ) → Each P (rows k)) → Each P (rows_below n rows)
  unfolding rows_below
  each_below zero rows h = tt
  each_below (suc n) rows h = each_both (rows_below n rows) (rows n) (each_below n rows h) (h n)

  -- the row that tells of an event
  pub teller : (rows : List NextEvent) (e : Stamped) → Each P rows → IsTold rows e → (row : NextEvent) × P row × IsToldBy row e
  teller [] e h told = absurd told
  teller (row ∷ rows) e h (inl told) = (row, h.0, told)
  teller (row ∷ rows) e h (inr told) = teller rows e h.1 told
