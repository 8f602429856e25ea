-- A table whose entries grow until none is less than what the ways of its node say.
use Rattle.std.proofs.Common.{◌≡◌, ℕ, zero, suc, ◌+◌, ◌-◌, ◌<◌, ◌≤◌, ◌⊎◌, inl, inr, Bool, true, false, List, [], ◌∷◌, length, get_or, set, replicate, min, refl, sym, ◌∙◌, subst, arith}
use Rattle.std.proofs.lemmas.Bool.{cases_eq}
use Rattle.std.proofs.lemmas.List.{get_or-set_same, get_or-set_other, length-set}
use Rattle.std.proofs.lemmas.List.Sums.{sum_by-set}
use Rattle.sloth_base.specs.Limits.{size_limit}
use Rattle.walk_sums.specs.declared.graph.Ways.{Ways}
use Rattle.walk_sums.specs.Graph.{AreInside}
use Rattle.walk_sums.specs.Trails.{size_of_trail, IsEnded, AreSizes, AreSizesInLimit, IsLongest, longest_from}
use Rattle.walk_sums.specs.Loops.{IsSizeOf, AreAttained, IsSettled, slack, HasGrown}
use Rattle.walk_sums.proofs.Lengths.{covers_on, covers_end, attains}
use Rattle.walk_sums.proofs.Ordering.{from_limit}

module _ (ways : List Ways) (steps ends : List ℕ) (sizes : AreSizes ways steps ends) where
  -- nothing is in the table yet
  pub nothing_attained : (table : List ℕ) → length table ≡ length ways → ((i : ℕ) → get_or table i 0 ≡ 0) → AreAttained ways steps ends table
  nothing_attained table count none = record {
    count = count;
    small = λ i. let e = none i in omega (arith, e);
    each = λ i lt. absurd (let e = none i in let wrong : ⊥ = omega (arith, e, lt) in wrong);
  }

  -- an entry becomes what the ways of its node say
  pub one_grown : (table : List ℕ) (i size : ℕ) → AreAttained ways steps ends table → i < length ways → size ≡ longest_from ways table steps ends i
      → get_or table i 0 < size → AreAttained ways steps ends (set table i size)
  one_grown table i size a known is lt = record {
    count = length-set table i size ∙ a.count;
    small = λ j. small j (cases_eq j i);
    each = λ j. each j (cases_eq j i);
  }
    where
      inside : i < length table
      inside = let c = a.count in omega (arith, known, c)

      here : get_or (set table i size) i 0 ≡ size
      here = get_or-set_same table i size 0 inside

      size_small : size ≤ size_limit
      size_small = let le = from_limit ways steps ends sizes table i in omega (arith, le, is)

      small : (j : ℕ) → (j ≡ i) ⊎ (j ≡ i → ⊥) → get_or (set table i size) j 0 ≤ size_limit
      small j (inl e) = subst (λ y. get_or (set table i size) y 0 ≤ size_limit) (sym e) (subst (λ v. v ≤ size_limit) (sym here) size_small)
      small j (inr n) = subst (λ v. v ≤ size_limit) (sym (get_or-set_other table i j size 0 n)) (a.small j)

      attained : IsSizeOf ways steps ends i size
      attained =
          subst (IsSizeOf ways steps ends i) (sym is)
          (attains ways steps ends sizes table i (λ j g. a.each j) (let some : 0 < longest_from ways table steps ends i = omega (arith, lt, is) in some))

      each : (j : ℕ) → (j ≡ i) ⊎ (j ≡ i → ⊥) → 0 < get_or (set table i size) j 0 → IsSizeOf ways steps ends j (get_or (set table i size) j 0)
      each j (inl e) pos =
          subst (λ y. IsSizeOf ways steps ends y (get_or (set table i size) y 0)) (sym e) (subst (IsSizeOf ways steps ends i) (sym here) attained)
      each j (inr n) pos =
          subst (IsSizeOf ways steps ends j) (sym (get_or-set_other table i j size 0 n))
          (a.each j (subst (λ v. 0 < v) (get_or-set_other table i j size 0 n) pos))

  -- a settled table has the sizes of the longest trails
  settled_covers : AreInside ways → (table : List ℕ) → IsSettled ways steps ends table → (further : List ℕ) (i : ℕ) → i < length ways → IsEnded ways ends i further
      → min size_limit (size_of_trail steps ends i further) ≤ get_or table i 0
  settled_covers inside table settled [] i lt e =
      let le = settled i lt in
      let more = covers_end ways steps ends sizes table i in
      omega (arith, le, more)
  settled_covers inside table settled (j ∷ further) i lt e =
      let rest : IsEnded ways ends j further = record { trail = e.trail.1; adds = e.adds } in
      let again = settled_covers inside table settled further j (inside i j e.trail.0) rest in
      let le = settled i lt in
      let more = covers_on ways steps ends sizes table i j further e.trail.0 rest again in
      omega (arith, le, more)

  pub settled_longest : AreInside ways → (table : List ℕ) → AreAttained ways steps ends table → IsSettled ways steps ends table → (i : ℕ) → i < length ways
      → IsLongest ways steps ends i (get_or table i 0)
  settled_longest inside table a settled i lt = record {
    none_longer = λ further e. settled_covers inside table settled further i lt e;
    attained = a.each i;
  }

-- a table with a greater entry has less slack
pub less_slack : (table : List ℕ) (i size : ℕ) → AreSizesInLimit (set table i size) → i < length table → get_or table i 0 < size → slack (set table i size) < slack table
less_slack table i size small inside lt =
    let s = sum_by-set (λ (n : ℕ). size_limit - n) table i size 0 inside in
    let here = get_or-set_same table i size 0 inside in
    let le = small i in
    omega (arith, s, lt, here, le)

module _ (ways : List Ways) (steps ends : List ℕ) where
  -- an entry that grows, behind those that have
  pub grown_more : (initial table new : List ℕ) (first : ℕ) (grown : Bool) → HasGrown ways steps ends initial table first grown → slack new < slack table → slack new < slack initial
  grown_more initial table new first true g lt = omega (arith, g, lt)
  grown_more initial table new first false g lt = subst (λ t. slack new < slack t) g.0 lt

  -- one that does not
  pub same_more : (initial table : List ℕ) (first node : ℕ) (grown : Bool) → first ≡ node + 1 → HasGrown ways steps ends initial table first grown
      → longest_from ways table steps ends node ≤ get_or table node 0 → HasGrown ways steps ends initial table node grown
  same_more initial table first node true e g le = g
  same_more initial table first node false e g le = (g.0, λ i from lt. by i from lt (cases_eq i node))
    where
      by : (i : ℕ) → node ≤ i → i < length ways → (i ≡ node) ⊎ (i ≡ node → ⊥) → longest_from ways table steps ends i ≤ get_or table i 0
      by i from lt (inl here) = subst (λ k. longest_from ways table steps ends k ≤ get_or table k 0) (sym here) le
      by i from lt (inr n) = g.1 i (omega (arith, from, e, n)) lt

-- a list of one number has nothing else
pub all_default : (x n i : ℕ) → get_or (replicate n x) i x ≡ x
all_default x zero i = refl
all_default x (suc n) zero = refl
all_default x (suc n) (suc i) = all_default x n i
