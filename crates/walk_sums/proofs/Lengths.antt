-- The longest trails, from those of the nodes that a node leads to.
use Rattle.std.proofs.Common.{◌≡◌, ℕ, ◌+◌, ◌<◌, ◌≤◌, ◌⊎◌, inl, inr, List, [], ◌∷◌, get_or, cond, min, max, Option, Some, None, refl, ap, sym, subst, arith}
use Rattle.std.specs.Prelude.{◌==◌}
use Rattle.std.proofs.lemmas.Bool.{cases_eq, cases_lt, ne_eqb}
use Rattle.sloth_base.specs.Limits.{size_limit}
use Rattle.walk_sums.specs.declared.graph.Ways.{Ways}
use Rattle.walk_sums.specs.Graph.{ways_of, HasWay}
use Rattle.walk_sums.specs.Trails.{last_of, size_of_trail, IsEnded, AreSizes, IsLongest, along, longest_from}
use Rattle.walk_sums.specs.Loops.{IsSizeOf}

module _ (ways : List Ways) (steps ends : List ℕ) (sizes : AreSizes ways steps ends) where
  -- a trail that ended adds something
  positive : (i : ℕ) (further : List ℕ) → 0 < get_or ends (last_of i further) 0 → 0 < size_of_trail steps ends i further
  positive i [] lt = lt
  positive i (j ∷ further) lt = let p = positive j further lt in omega (arith, p)

  module _ (table : List ℕ) where
    along_some : (step j : ℕ) → 0 < get_or table j 0 → along table step (Some j) ≡ min size_limit (step + get_or table j 0)
    along_some step j lt =
        ap (λ b. cond b 0 (min size_limit (step + get_or table j 0))) (ne_eqb (get_or table j 0) 0 (λ e. absurd (omega (arith, e, lt))))

    -- where it is not 0 the way leads on
    along_is : (step : ℕ) (way : Option ℕ) → 0 < along table step way
        → (j : ℕ) × (way ≡ Some j) × (0 < get_or table j 0) × (along table step way ≡ min size_limit (step + get_or table j 0))
    along_is step None lt = absurd (omega (arith, lt))
    along_is step (Some j) lt = by (cases_eq (get_or table j 0) 0)
      where
        by : (get_or table j 0 ≡ 0) ⊎ (get_or table j 0 ≡ 0 → ⊥)
            → (k : ℕ) × (Some j ≡ Some k) × (0 < get_or table k 0) × (along table step (Some j) ≡ min size_limit (step + get_or table k 0))
        by (inl e) = absurd (nothing (get_or table j 0) e lt)
          where
            nothing : (v : ℕ) → v ≡ 0 → 0 < cond (v == 0) 0 (min size_limit (step + v)) → ⊥
            nothing v e lt = let P : ℕ → Type 0 = λ x. 0 < cond (x == 0) 0 (min size_limit (step + x)) in let z = subst P e lt in absurd (omega (arith, z))
        by (inr n) = let p : 0 < get_or table j 0 = omega (arith, n) in (j, refl, p, along_some step j p)

    module _ (i : ℕ) where
      abbrev step : ℕ
      step = get_or steps i 0

      abbrev end : ℕ
      end = get_or ends i 0

      abbrev by_next : ℕ
      by_next = along table step (ways_of ways i).next

      abbrev by_jump : ℕ
      by_jump = along table step (ways_of ways i).jump

      abbrev value : ℕ
      value = max end (max by_next by_jump)

      -- a trail along a way is no longer than what is computed of it
      along_covers : (way : Option ℕ) (j : ℕ) (further : List ℕ) → way ≡ Some j → IsEnded ways ends j further
          → min size_limit (size_of_trail steps ends j further) ≤ get_or table j 0 → min size_limit (step + size_of_trail steps ends j further) ≤ along table step way
      along_covers way j further is e le =
          let pos = positive j further e.adds in
          let some : 0 < get_or table j 0 = omega (arith, le, pos) in
          subst (λ o. min size_limit (step + size_of_trail steps ends j further) ≤ along table step o) (sym is)
          (subst (λ v. min size_limit (step + size_of_trail steps ends j further) ≤ v) (sym (along_some step j some)) (omega (arith, le)))

      pub covers_on : (j : ℕ) (further : List ℕ) → HasWay ways i j → IsEnded ways ends j further → min size_limit (size_of_trail steps ends j further) ≤ get_or table j 0
          → min size_limit (step + size_of_trail steps ends j further) ≤ longest_from ways table steps ends i
      covers_on j further (inl is) e le = let more = along_covers (ways_of ways i).next j further is e le in omega (arith, more)
      covers_on j further (inr is) e le = let more = along_covers (ways_of ways i).jump j further is e le in omega (arith, more)

      pub covers_end : min size_limit end ≤ longest_from ways table steps ends i
      covers_end = omega arith

      -- and some trail is as long
      module _ (had : (j : ℕ) → HasWay ways i j → 0 < get_or table j 0 → IsSizeOf ways steps ends j (get_or table j 0)) where
        along_attains : (way : Option ℕ) → ((j : ℕ) → way ≡ Some j → HasWay ways i j) → 0 < along table step way → IsSizeOf ways steps ends i (along table step way)
        along_attains way goes lt =
            let f = along_is step way lt in
            let g = goes f.0 f.1 in
            let t = had f.0 g f.2 in
            let e = t.2 in
            let is = f.3 in
            (f.0 ∷ t.0, record { trail = (g, t.1.trail); adds = t.1.adds }, omega (arith, e, is))

        end_attains : 0 < end → IsSizeOf ways steps ends i end
        end_attains lt = let le = sizes.ends_small i in ([], record { trail = tt; adds = lt }, omega (arith, le))

        pub attains : 0 < value → IsSizeOf ways steps ends i value
        attains lt = by (cases_lt end (max by_next by_jump)) (cases_lt by_next by_jump)
          where
            by : (end < max by_next by_jump) ⊎ (max by_next by_jump ≤ end) → (by_next < by_jump) ⊎ (by_jump ≤ by_next) → IsSizeOf ways steps ends i value
            by (inr le) other = let e : end ≡ value = omega (arith, le) in subst (IsSizeOf ways steps ends i) e (end_attains (omega (arith, lt, le)))
            by (inl more) (inl j) =
                let e : by_jump ≡ value = omega (arith, more, j) in
                subst (IsSizeOf ways steps ends i) e (along_attains (ways_of ways i).jump (λ k is. inr is) (omega (arith, more, j)))
            by (inl more) (inr j) =
                let e : by_next ≡ value = omega (arith, more, j) in
                subst (IsSizeOf ways steps ends i) e (along_attains (ways_of ways i).next (λ k is. inl is) (omega (arith, more, j)))

      pub is_longest : ((j : ℕ) → HasWay ways i j → IsLongest ways steps ends j (get_or table j 0)) → IsLongest ways steps ends i (longest_from ways table steps ends i)
      is_longest known = record { none_longer = covers; attained = attains (λ j g. (known j g).attained) }
        where
          covers : (further : List ℕ) → IsEnded ways ends i further → min size_limit (size_of_trail steps ends i further) ≤ longest_from ways table steps ends i
          covers [] e = covers_end
          covers (j ∷ further) e =
              let rest : IsEnded ways ends j further = record { trail = e.trail.1; adds = e.adds } in
              covers_on j further e.trail.0 rest ((known j e.trail.0).none_longer further rest)
