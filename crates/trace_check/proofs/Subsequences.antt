-- The first place of each item is enough for a subsequence, and items that come too early may be dropped before.
use Rattle.std.proofs.Common.{◌≡◌, ◌∙◌, ℕ, ◌<◌, ◌≤◌, ◌⊎◌, inl, inr, List, [], ◌∷◌, ◌++◌, Bool, true, false, cond, map, Option, Some, refl, sym, ap, subst, arith}
use Rattle.std.specs.Prelude.{◌==◌, ◌&&◌, ltb}
use Rattle.std.proofs.lemmas.Bool.{and_parts, and_from, eqb-true, eq-eqb, true≢false, cases_lt, lt-ltb, le-ltb}
use Rattle.std.proofs.lemmas.Option.{same_Some}
use Rattle.sloth_base.specs.declared.service.Arrival.{Arrival}
use Rattle.osek_scheduler.specs.InTime.{IsSubsequence}
use Rattle.trace_check.specs.Scan.{behind_first, from_moment}
use Rattle.trace_check.proofs.ScanOrder.{arrival_key}

abbrev Key : Type 0
Key = ℕ × Option ℕ

pub sub_skip : (xs : List Key) (y : Key) (ys : List Key) → IsSubsequence xs ys → IsSubsequence xs (y ∷ ys)
sub_skip [] y ys h = tt
sub_skip (x ∷ xs) y ys h = inr h

pub sub_tail : (x : Key) (xs ys : List Key) → IsSubsequence (x ∷ xs) ys → IsSubsequence xs ys
sub_tail x xs [] h = absurd h
sub_tail x xs (y ∷ ys) (inl h) = sub_skip xs y ys h.1
sub_tail x xs (y ∷ ys) (inr h) = sub_skip xs y ys (sub_tail x xs ys h)

-- a front of a subsequence
pub sub_front : (xs more ys : List Key) → IsSubsequence (xs ++ more) ys → IsSubsequence xs ys
sub_front [] more ys h = tt
sub_front (x ∷ xs) more [] h = absurd h
sub_front (x ∷ xs) more (y ∷ ys) (inl h) = inl (h.0, sub_front xs more ys h.1)
sub_front (x ∷ xs) more (y ∷ ys) (inr h) = inr (sub_front (x ∷ xs) more ys h)

module _ (k t : ℕ) where
  abbrev here : Arrival → Bool
  here a = (a.line == t) && (a.at == k)

  is_key : (a : Arrival) → here a ≡ true → (k, Some t) ≡ arrival_key a
  is_key a h =
      let both = and_parts (a.line == t) (a.at == k) h in
      let line : t ≡ a.line = sym (eqb-true a.line t both.0) in
      let at : k ≡ a.at = sym (eqb-true a.at k both.1) in
      ap (λ (n : ℕ). (n, Some t)) at ∙ ap (λ (n : ℕ). (a.at, Some n)) line

  key_is : (a : Arrival) → (k, Some t) ≡ arrival_key a → here a ≡ true
  key_is a h =
      let at : k ≡ a.at = ap (λ (x : Key). x.0) h in
      let line : t ≡ a.line = same_Some t a.line (ap (λ (x : Key). x.1) h) in
      and_from (a.line == t) (a.at == k) (eq-eqb a.line t (sym line)) (eq-eqb a.at k (sym at))

  pub found_right : (arrivals rest : List Arrival) (xs : List Key) → behind_first k t arrivals ≡ Some rest → IsSubsequence xs (map arrival_key rest)
      → IsSubsequence ((k, Some t) ∷ xs) (map arrival_key arrivals)
  found_right [] rest xs f h = absurd cc
  found_right (a ∷ arrivals) rest xs f h = by (λ g. found_right arrivals rest xs g h) (here a) refl f
    where
      by : (behind_first k t arrivals ≡ Some rest → IsSubsequence ((k, Some t) ∷ xs) (map arrival_key arrivals)) → (b : Bool) → here a ≡ b
          → cond b (Some arrivals) (behind_first k t arrivals) ≡ Some rest → IsSubsequence ((k, Some t) ∷ xs) (map arrival_key (a ∷ arrivals))
      by more true e f =
          let P : List Arrival → Type 0 = λ l. IsSubsequence xs (map arrival_key l) in
          inl (is_key a e, subst P (sym (same_Some arrivals rest f)) h)
      by more false e f = inr (more f)

  -- where the item is found
  pub record Found (arrivals : List Arrival) (xs : List Key) : Type 0 where
    pub rest : List Arrival
    pub found : behind_first k t arrivals ≡ Some rest
    pub others : IsSubsequence xs (map arrival_key rest)

  pub found_left : (arrivals : List Arrival) (xs : List Key) → IsSubsequence ((k, Some t) ∷ xs) (map arrival_key arrivals) → Found arrivals xs
  found_left [] xs h = absurd h
  found_left (a ∷ arrivals) xs h = by (found_left arrivals xs) (here a) refl h
    where
      more : here a ≡ false → Found arrivals xs → Found (a ∷ arrivals) xs
      more e f = record {
        rest = f.rest;
        found = ap (λ b. cond b (Some arrivals) (behind_first k t arrivals)) e ∙ f.found;
        others = f.others;
      }

      at_once : here a ≡ true → IsSubsequence xs (map arrival_key arrivals) → Found (a ∷ arrivals) xs
      at_once e sub = record { rest = arrivals; found = ap (λ b. cond b (Some arrivals) (behind_first k t arrivals)) e; others = sub }

      by : (IsSubsequence ((k, Some t) ∷ xs) (map arrival_key arrivals) → Found arrivals xs) → (b : Bool) → here a ≡ b
          → IsSubsequence ((k, Some t) ∷ xs) (map arrival_key (a ∷ arrivals)) → Found (a ∷ arrivals) xs
      by rest true e (inl h) = at_once e h.1
      by rest true e (inr h) = at_once e (sub_tail (k, Some t) xs (map arrival_key arrivals) h)
      by rest false e (inl h) = absurd (true≢false (sym (key_is a h.0) ∙ e))
      by rest false e (inr h) = more e (rest h)

-- ---- too early

-- each of these moments is b or later
abbrev pub AreFrom : ℕ → List Key → Type 0
AreFrom b [] = Unit {0}
AreFrom b (x ∷ xs) = (b ≤ x.0) × AreFrom b xs

pub trim_right : (b : ℕ) (xs : List Key) (arrivals : List Arrival) → IsSubsequence xs (map arrival_key (from_moment b arrivals)) → IsSubsequence xs (map arrival_key arrivals)
trim_right b xs [] h = h
trim_right b xs (a ∷ arrivals) h = by (trim_right b xs arrivals) (ltb a.at b) h
  where
    by : (IsSubsequence xs (map arrival_key (from_moment b arrivals)) → IsSubsequence xs (map arrival_key arrivals)) → (c : Bool)
        → IsSubsequence xs (map arrival_key (cond c (from_moment b arrivals) (a ∷ arrivals))) → IsSubsequence xs (map arrival_key (a ∷ arrivals))
    by more true h = sub_skip xs (arrival_key a) (map arrival_key arrivals) (more h)
    by more false h = h

pub trim_left : (b : ℕ) (xs : List Key) (arrivals : List Arrival) → AreFrom b xs → IsSubsequence xs (map arrival_key arrivals) → IsSubsequence xs (map arrival_key (from_moment b arrivals))
trim_left b [] arrivals from h = tt
trim_left b (x ∷ xs) [] from h = h
trim_left b (x ∷ xs) (a ∷ arrivals) from h = by (trim_left b (x ∷ xs) arrivals from) (cases_lt a.at b) h
  where
    by : (IsSubsequence (x ∷ xs) (map arrival_key arrivals) → IsSubsequence (x ∷ xs) (map arrival_key (from_moment b arrivals))) → (a.at < b) ⊎ (b ≤ a.at)
        → IsSubsequence (x ∷ xs) (map arrival_key (a ∷ arrivals)) → IsSubsequence (x ∷ xs) (map arrival_key (from_moment b (a ∷ arrivals)))
    by more (inl less) (inl h) = let at : x.0 ≡ a.at = ap (λ (y : Key). y.0) h.0 in let low = from.0 in absurd (omega (arith, at, low, less))
    by more (inl less) (inr h) =
        let P : Bool → Type 0 = λ v. IsSubsequence (x ∷ xs) (map arrival_key (cond v (from_moment b arrivals) (a ∷ arrivals))) in
        subst P (sym (lt-ltb a.at b less)) (more h)
    by more (inr le) h =
        let P : Bool → Type 0 = λ v. IsSubsequence (x ∷ xs) (map arrival_key (cond v (from_moment b arrivals) (a ∷ arrivals))) in
        subst P (sym (le-ltb a.at b le)) h
