-- The table of the longest trails, filled in the order of the nodes.
use Rattle.std.proofs.Common.{◌≡◌, ℕ, zero, suc, ◌+◌, ◌<◌, ◌≤◌, ◌⊎◌, inl, inr, Bool, true, false, ◌||◌, List, [], ◌∷◌, length, get_or, set, take, min, Option, Some, None, refl, ap, sym, ◌∙◌, subst, arith, ⊎_elim}
use Rattle.std.specs.Prelude.{◌==◌}
use Rattle.std.proofs.lemmas.Bool.{cases_eq, eq-eqb, cond_both}
use Rattle.std.proofs.lemmas.List.{get_or-set_same, get_or-set_other, length-set}
use Rattle.std.proofs.Math.Seq.{take-suc}
use Rattle.sloth_base.specs.Limits.{size_limit}
use Rattle.code_rules.specs.Code.{is_in}
use Rattle.walk_sums.specs.declared.graph.Ways.{Ways}
use Rattle.walk_sums.specs.Graph.{ways_of, HasWay, IsOrder}
use Rattle.walk_sums.specs.Trails.{AreSizes, AreSizesInLimit, IsLongest, along, longest_from}
use Rattle.walk_sums.proofs.Diving.{front_or_end}
use Rattle.walk_sums.proofs.Lengths.{is_longest}

pub member : (xs : List ℕ) (k : ℕ) → k < length xs → is_in (get_or xs k 0) xs ≡ true
member [] k lt = absurd (omega (arith, lt))
member (x ∷ xs) zero lt = ap (λ b. b || is_in x xs) (eq-eqb x x refl)
member (x ∷ xs) (suc k) lt = later (x == get_or xs k 0) (is_in (get_or xs k 0) xs) (member xs k (omega (arith, lt)))
  where
    later : (a b : Bool) → b ≡ true → (a || b) ≡ true
    later true b e = refl
    later false b e = e

pub one_more : (xs : List ℕ) (k j : ℕ) → k < length xs → is_in j (take (k + 1) xs) ≡ true → (is_in j (take k xs) ≡ true) ⊎ (get_or xs k 0 ≡ j)
one_more xs k j lt h =
    let e : k + 1 ≡ suc k = omega arith in
    front_or_end j (get_or xs k 0) (take k xs) (sym (ap (is_in j) (ap (λ n. take n xs) e ∙ take-suc xs k 0 lt)) ∙ h)

along_small : (table : List ℕ) (step : ℕ) (way : Option ℕ) → along table step way ≤ size_limit
along_small table step None = omega arith
along_small table step (Some j) =
    cond_both (get_or table j 0 == 0) 0 (min size_limit (step + get_or table j 0)) (λ v. v ≤ size_limit) (λ _. omega arith) (λ _. omega arith)

pub from_limit : (ways : List Ways) (steps ends : List ℕ) → AreSizes ways steps ends → (table : List ℕ) (i : ℕ) → longest_from ways table steps ends i ≤ size_limit
from_limit ways steps ends sizes table i =
    let a = along_small table (get_or steps i 0) (ways_of ways i).next in
    let b = along_small table (get_or steps i 0) (ways_of ways i).jump in
    let e = sizes.ends_small i in
    omega (arith, a, b, e)

module _ (ways : List Ways) (steps ends order : List ℕ) (o : IsOrder ways order) (sizes : AreSizes ways steps ends) where
  pub from_small : (table : List ℕ) (i : ℕ) → longest_from ways table steps ends i ≤ size_limit
  from_small table i = from_limit ways steps ends sizes table i

  pub node_known : (k : ℕ) → k < length order → get_or order k 0 < length ways
  node_known k lt = o.inside (get_or order k 0) (member order k lt)

  abbrev pub Known : List ℕ → ℕ → Type 0
  Known table k = (j : ℕ) → is_in j (take k order) ≡ true → IsLongest ways steps ends j (get_or table j 0)

  -- what holds behind one more node
  pub record Turned (table : List ℕ) (k : ℕ) : Type 0 where
    pub count : length table ≡ length ways
    pub small : AreSizesInLimit table
    pub known : Known table k

  pub way_known : (table : List ℕ) (k j : ℕ) → length table ≡ length ways → k < length order → HasWay ways (get_or order k 0) j → j < length table
  way_known table k j count lt g =
      let inside = o.inside j (from_front order k j (o.behind k j lt g)) in
      omega (arith, count, inside)
    where
      from_front : (xs : List ℕ) (k j : ℕ) → is_in j (take k xs) ≡ true → is_in j xs ≡ true
      from_front [] zero j h = h
      from_front [] (suc k) j h = h
      from_front (x ∷ xs) zero j h = absurd cc
      from_front (x ∷ xs) (suc k) j h = by (x == j) (is_in j (take k xs)) (is_in j xs) (from_front xs k j) h
        where
          by : (a b c : Bool) → (b ≡ true → c ≡ true) → (a || b) ≡ true → (a || c) ≡ true
          by true b c f h = refl
          by false b c f h = f h

  pub turned : (table : List ℕ) (k r : ℕ) → length table ≡ length ways → AreSizesInLimit table → Known table k → k < length order
      → r ≡ longest_from ways table steps ends (get_or order k 0) → Turned (set table (get_or order k 0) r) (k + 1)
  turned table k r count small known lt is = record {
    count = length-set table x r ∙ count;
    small = λ i. each i (cases_eq i x);
    known = λ j h. all j (cases_eq j x) h;
  }
    where
      x : ℕ
      x = get_or order k 0

      inside : x < length table
      inside = let n = node_known k lt in omega (arith, n, count)

      each : (i : ℕ) → (i ≡ x) ⊎ (i ≡ x → ⊥) → get_or (set table x r) i 0 ≤ size_limit
      each i (inl e) =
          subst (λ y. get_or (set table x r) y 0 ≤ size_limit) (sym e)
          (subst (λ v. v ≤ size_limit) (sym (get_or-set_same table x r 0 inside ∙ is)) (from_small table x))
      each i (inr n) = subst (λ v. v ≤ size_limit) (sym (get_or-set_other table x i r 0 n)) (small i)

      here : IsLongest ways steps ends x (get_or (set table x r) x 0)
      here =
          subst (IsLongest ways steps ends x) (sym (get_or-set_same table x r 0 inside ∙ is))
          (is_longest ways steps ends sizes table x (λ j g. known j (o.behind k j lt g)))

      all : (j : ℕ) → (j ≡ x) ⊎ (j ≡ x → ⊥) → is_in j (take (k + 1) order) ≡ true → IsLongest ways steps ends j (get_or (set table x r) j 0)
      all j (inl e) h = subst (λ y. IsLongest ways steps ends y (get_or (set table x r) y 0)) (sym e) here
      all j (inr n) h =
          subst (IsLongest ways steps ends j) (sym (get_or-set_other table x j r 0 n))
          (known j (⊎_elim (λ g. g) (λ e. absurd (n (sym e))) (one_more order k j lt h)))
