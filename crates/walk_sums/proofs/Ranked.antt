-- Where no way leads to a rank that is too great, nothing weighs along a loop.
use Rattle.std.proofs.Common.{◌≡◌, ℕ, ◌<◌, ◌≤◌, ◌⊎◌, inl, inr, Bool, true, false, ◌||◌, leb, ltb, cond, List, length, get_or, Some, refl, ap, sym, ◌∙◌, arith, ⊎_elim}
use Rattle.std.proofs.lemmas.Bool.{ltb-false, lt-ltb, true≢false}
use Rattle.std.proofs.lemmas.Bool.Decides.{leb_tells}
use Rattle.call_graph.specs.Reached.{any_below}
use Rattle.walk_sums.specs.declared.graph.Ways.{Ways}
use Rattle.walk_sums.specs.Graph.{ways_of, HasWay}
use Rattle.walk_sums.specs.Search.{IsReachable, reachable_first, reachable_on}
use Rattle.walk_sums.specs.Loops.{HasWeighingLoop, raises, raises_at}
use Rattle.walk_sums.proofs.Counting.{none_is}
use Rattle.walk_sums.proofs.Looping.{way_inside}

-- a way that leads to no greater rank
lowers : (ranks : List ℕ) (step from j : ℕ) → raises ranks step from (Some j) ≡ false → (get_or ranks j 0 ≤ from) × (0 < step → get_or ranks j 0 < from)
lowers ranks step from j e = by (ltb 0 step) refl e
  where
    above : leb from (get_or ranks j 0) ≡ false → get_or ranks j 0 < from
    above f = ⊎_elim (λ t. absurd (true≢false (sym t.0 ∙ f))) (λ t. t.1) (leb_tells from (get_or ranks j 0))

    by : (b : Bool) → ltb 0 step ≡ b → cond b (leb from (get_or ranks j 0)) (ltb from (get_or ranks j 0)) ≡ false
        → (get_or ranks j 0 ≤ from) × (0 < step → get_or ranks j 0 < from)
    by true t f = let lt = above f in (omega (arith, lt), λ pos. lt)
    by false t f = (ltb-false from (get_or ranks j 0) f, λ pos. absurd (true≢false (sym (lt-ltb 0 step pos) ∙ t)))

module _ (ways : List Ways) (steps ranks : List ℕ) (none : any_below (length ways) (raises_at ways steps ranks) ≡ false) where
  neither : (a b : Bool) → (a || b) ≡ false → (a ≡ false) × (b ≡ false)
  neither true b e = absurd (true≢false e)
  neither false b e = (refl, e)

  way_lowers : (i j : ℕ) → HasWay ways i j → (get_or ranks j 0 ≤ get_or ranks i 0) × (0 < get_or steps i 0 → get_or ranks j 0 < get_or ranks i 0)
  way_lowers i j goes =
      let step = get_or steps i 0 in
      let from = get_or ranks i 0 in
      let both = neither (raises ranks step from (ways_of ways i).next) (raises ranks step from (ways_of ways i).jump)
      (none_is (length ways) (raises_at ways steps ranks) none i (way_inside ways i j goes)) in
      lowers ranks step from j (by goes both)
    where
      by : HasWay ways i j → (raises ranks (get_or steps i 0) (get_or ranks i 0) (ways_of ways i).next ≡ false) × (raises ranks (get_or steps i 0) (get_or ranks i 0) (ways_of ways i).jump ≡ false)
          → raises ranks (get_or steps i 0) (get_or ranks i 0) (Some j) ≡ false
      by (inl is) both = ap (raises ranks (get_or steps i 0) (get_or ranks i 0)) (sym is) ∙ both.0
      by (inr is) both = ap (raises ranks (get_or steps i 0) (get_or ranks i 0)) (sym is) ∙ both.1

  no_greater : (i j : ℕ) → IsReachable ways i j → get_or ranks j 0 ≤ get_or ranks i 0
  no_greater i j reachable_first = omega arith
  no_greater i j (reachable_on k n r goes) = let le = no_greater i k r in let less = (way_lowers k j goes).0 in omega (arith, le, less)

  pub none_weighs : ¬ (HasWeighingLoop ways steps)
  none_weighs (node, loop) =
      let le = no_greater loop.back.next node loop.back.back in
      let lt = (way_lowers node loop.back.next loop.back.goes).1 loop.weighs in
      let wrong : ⊥ = omega (arith, le, lt) in
      wrong
