-- The rows of the first numbers.
use Rattle.std.proofs.Common.{◌≡◌, ◌∙◌, ◌+◌, ℕ, List, [], ◌++◌, false, get_or, refl, sym, ap, append_assoc, append-nil}
use Rattle.std.proofs.Math.Numerals.{add-one}
use Rattle.osek_scheduler.specs.State.{System, task}
use Rattle.run_samples.specs.SystemText.{state_line}
use Rattle.trace_check.specs.ReasonLines.{state_lines}
use Rattle.trace_check.specs.Rows.{rows_below}
use Rattle.trace_check.specs.declared.rows.NextEvent.{NextEvent}

module _ (rows : ℕ → List NextEvent) (old : List NextEvent) where
  none : rows_below 0 rows ≡ []
  unfolding rows_below
  none = refl

  one_more : (k : ℕ) → rows_below (k + 1) rows ≡ rows_below k rows ++ rows k
  unfolding rows_below
  one_more k = ap (λ n. rows_below n rows) (add-one k)

  -- nothing was appended
  pub begins : old ≡ old ++ rows_below 0 rows
  begins = sym (append-nil old) ∙ ap (λ l. old ++ l) (sym none)

  -- the rows of one number more
  pub goes_on : (now new : List NextEvent) (k : ℕ) → now ≡ old ++ rows_below k rows → new ≡ now ++ rows k → new ≡ old ++ rows_below (k + 1) rows
  goes_on now new k is more =
      more ∙ (ap (λ l. l ++ rows k) is ∙ (append_assoc old (rows_below k rows) (rows k) ∙ ap (λ l. old ++ l) (sym (one_more k))))

module _ (names : List (List ℕ)) (s : System) (old : List ℕ) where
  no_states : state_lines names s 0 ≡ []
  unfolding state_lines
  no_states = refl

  one_state_more : (k : ℕ) → state_lines names s (k + 1) ≡ state_lines names s k ++ state_line (get_or names k []) false (task s k).state
  unfolding state_lines
  one_state_more k = ap (state_lines names s) (add-one k)

  pub states_begin : old ≡ old ++ state_lines names s 0
  states_begin = sym (append-nil old) ∙ ap (λ l. old ++ l) (sym no_states)

  -- the line of one task more
  pub states_go_on : (now new : List ℕ) (k : ℕ) → now ≡ old ++ state_lines names s k
      → new ≡ now ++ state_line (get_or names k []) false (task s k).state → new ≡ old ++ state_lines names s (k + 1)
  states_go_on now new k is more =
      more
      ∙ (ap (λ l. l ++ state_line (get_or names k []) false (task s k).state) is
      ∙ (append_assoc old (state_lines names s k) (state_line (get_or names k []) false (task s k).state) ∙ ap (λ l. old ++ l) (sym (one_state_more k))))

-- ---- several appended one after the other

-- what is appended behind what was appended
joined : (y a b x z : List NextEvent) → x ≡ y ++ a → z ≡ x ++ b → z ≡ y ++ (a ++ b)
joined y a b x z is more = more ∙ (ap (λ (l : List NextEvent). l ++ b) is ∙ append_assoc y a b)

module _ (old a b c d e f r1 r2 r3 r4 r5 r6 : List NextEvent) where
  pub six : r1 ≡ old ++ a → r2 ≡ r1 ++ b → r3 ≡ r2 ++ c → r4 ≡ r3 ++ d → r5 ≡ r4 ++ e → r6 ≡ r5 ++ f → r6 ≡ old ++ (a ++ (b ++ (c ++ (d ++ (e ++ f)))))
  six h1 h2 h3 h4 h5 h6 =
      let j5 = joined r4 e f r5 r6 h5 h6 in
      let j4 = joined r3 d (e ++ f) r4 r6 h4 j5 in
      let j3 = joined r2 c (d ++ (e ++ f)) r3 r6 h3 j4 in
      let j2 = joined r1 b (c ++ (d ++ (e ++ f))) r2 r6 h2 j3 in
      joined old a (b ++ (c ++ (d ++ (e ++ f)))) r1 r6 h1 j2
