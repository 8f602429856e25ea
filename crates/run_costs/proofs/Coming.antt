-- Where walks come to what counts, and the positions that they reach.
use Rattle.std.proofs.Common.{◌≡◌, ℕ, ◌+◌, ◌<◌, true, max, List, [], ◌∷◌, ◌++◌, map, length, refl, ap, ◌∙◌, subst, arith}
use Rattle.std.specs.Prelude.{ltb, Decides}
use Rattle.std.proofs.lemmas.Bool.{lt-ltb, ltb-true}
use Rattle.std.proofs.lemmas.List.{map-append}
use Rattle.sloth_base.specs.declared.config.Config.{Config}
use Rattle.sloth_base.specs.declared.app.App.{App}
use Rattle.sloth_base.specs.declared.app.Op.TheVariants as op
use Rattle.sloth_base.specs.Named.{body_of}
use Rattle.code_rules.specs.WellFormed.{held_list_before}
use Rattle.osek_scheduler.specs.Priority.{greatest, ceiling}
use Rattle.osek_scheduler.proofs.Facts.{Facts}
use Rattle.osek_blocking.specs.Walks.{Position, place, IsWalk}
use Rattle.osek_blocking.specs.Sections.{held_list_along, operation_at}
use Rattle.osek_blocking.proofs.Reached.{IsReached, reached_next, reached_first}
use Rattle.walk_sums.specs.Activations.{ceiling_before, ReachesItem, reaches_first, reaches_inside, reaches_behind}
use Rattle.walk_sums.proofs.Callers.{AreCallers, Walked, walked_to}
use Rattle.walk_sums.specs.declared.counted.Counted.{Counted}
use Rattle.walk_sums.specs.Rounds.{Reaches}
use Rattle.walk_sums.specs.Counted.{is_ending_counted}
use Rattle.walk_sums.specs.Clears.{ReachesCounted}
use Rattle.run_costs.specs.Tops.{ComesTo, comes_here, comes_called, IsTop}
use Rattle.walk_sums.proofs.PlainSteps.{step_inside}

-- ---- ceilings

greatest-append : (xs ys : List ℕ) → greatest (xs ++ ys) ≡ max (greatest xs) (greatest ys)
greatest-append [] ys = omega arith
greatest-append (x ∷ xs) ys = let e = greatest-append xs ys in omega (arith, e)

-- the greatest ceiling of what the functions in progress hold at a position
abbrev pub ceiling_along : Config → App → Position → ℕ
ceiling_along config app at = greatest (map (ceiling config) (held_list_along app at))

along_is : (config : Config) (app : App) (f i : ℕ) (outer : Position) → ceiling_along config app (place f i ∷ outer) ≡ max (ceiling_along config app outer) (ceiling_before config app f i)
along_is config app f i outer =
    ap greatest (map-append (ceiling config) (held_list_along app outer) (held_list_before app f i))
    ∙ greatest-append (map (ceiling config) (held_list_along app outer)) (map (ceiling config) (held_list_before app f i))

-- ---- positions

module _ (config : Config) (app : App) (w : Facts config app) (t : ℕ) (declared : t < length config.tasks) where
  -- a position that a walk leads to stands where walks reach its items
  pub reached_stands : (before : List Position) (at : Position) → IsWalk app t (before ++ at ∷ []) → Walked app t at
  reached_stands before at walk = (walked_to config app w t declared before at [] walk).0

  module _ (c : Counted) where
    -- up to the body of the task
    comes_up : (f ceiling : ℕ) (outer : Position) → AreCallers app t f outer → ComesTo config app c f ceiling
        → ComesTo config app c (body_of app.funcs t) (max ceiling (ceiling_along config app outer))
    comes_up f ceiling [] callers came =
        subst (λ n. ComesTo config app c (body_of app.funcs t) n) (let e : ceiling ≡ max ceiling 0 = omega arith in e) (subst (λ g. ComesTo config app c g ceiling) callers came)
    comes_up f ceiling (caller ∷ outer) callers came =
        let up = comes_up caller.func (max ceiling (ceiling_before config app caller.func caller.item)) outer callers.1
        (comes_called caller.func caller.item f ceiling callers.0 came) in
        let along = along_is config app caller.func caller.item outer in
        subst (λ n. ComesTo config app c (body_of app.funcs t) n)
        (let e : max (max ceiling (ceiling_before config app caller.func caller.item)) (ceiling_along config app outer) ≡ max ceiling (ceiling_along config app (caller ∷ outer)) = omega (arith, along) in e) up

    -- from a position that a walk reaches
    pub position_comes : (at : Position) → Reaches app t at → is_ending_counted c (operation_at app at) ≡ true → ComesTo config app c (body_of app.funcs t) (ceiling_along config app at)
    position_comes [] r e = absurd (reached_stands r.0 [] r.1)
    position_comes (here ∷ outer) r e =
        let s = reached_stands r.0 (here ∷ outer) r.1 in
        let up = comes_up here.func (ceiling_before config app here.func here.item) outer s.2 (comes_here here.func here.item s.1 e) in
        let along = along_is config app here.func here.item outer in
        subst (λ n. ComesTo config app c (body_of app.funcs t) n)
        (let e : max (ceiling_before config app here.func here.item) (ceiling_along config app outer) ≡ ceiling_along config app (here ∷ outer) = omega (arith, along) in e) up

    -- ---- and back

    walk_inside : (f i : ℕ) (outer : Position) → ReachesItem app f i → IsReached app t (place f 0 ∷ outer) → IsReached app t (place f i ∷ outer)
    walk_inside f i outer (reaches_first g) r = r
    walk_inside f i outer (reaches_inside g k j before s) r =
        reached_next app t (place g k ∷ outer) (place g j ∷ outer) (walk_inside g k outer before r) (step_inside app g k j outer s)
    walk_inside f i outer (reaches_behind a k g q before call inner ret) r =
        let at = walk_inside a k outer before r in
        let entered = reached_next app t (place a k ∷ outer) (place g 0 ∷ place a k ∷ outer) at (op.Invoke g, call, refl) in
        reached_next app t (place g q ∷ place a k ∷ outer) (place a (k + 1) ∷ outer) (walk_inside g q (place a k ∷ outer) inner entered) (op.Return, ret, refl)

    -- a position with an operation that counts, under that ceiling
    pub record Found (top : ℕ) : Type 0 where
      pub at : Position
      pub reached : Reaches app t at
      pub counts : is_ending_counted c (operation_at app at) ≡ true
      pub along : ceiling_along config app at ≡ top

    found : (f ceiling : ℕ) (outer : Position) → IsReached app t (place f 0 ∷ outer) → ComesTo config app c f ceiling → Found (max ceiling (ceiling_along config app outer))
    found f ceiling outer from (comes_here g i r e) =
        let there = walk_inside g i outer r from in
        record { at = place g i ∷ outer; reached = (there.before, there.walk); counts = e; along = let a = along_is config app g i outer in omega (arith, a) }
    found f ceiling outer from (comes_called a i g low call inner) =
        let there = walk_inside a i outer call.reached from in
        let entered = reached_next app t (place a i ∷ outer) (place g 0 ∷ place a i ∷ outer) there (op.Invoke g, call.item, refl) in
        let p = found g low (place a i ∷ outer) entered inner in
        record {
          at = p.at;
          reached = p.reached;
          counts = p.counts;
          along = let e = along_is config app a i outer in let q = p.along in omega (arith, e, q);
        }

    pub comes_found : (ceiling : ℕ) → ComesTo config app c (body_of app.funcs t) ceiling → Found ceiling
    comes_found ceiling came =
        subst Found (let e : max ceiling 0 ≡ ceiling = omega arith in e) (found (body_of app.funcs t) ceiling [] (reached_first app t) came)

    -- ---- what tops tell

    module _ (top : ℕ) (is : IsTop config app c (body_of app.funcs t) top) where
      -- whether the task reaches what counts
      pub reaches_decided : Decides (ltb 0 top) (ReachesCounted app t c)
      reaches_decided = (
        λ e. let a = is.attained (ltb-true 0 top e) in let p = comes_found a.0 a.1 in (p.at, p.reached, p.counts),
        λ r. let above = is.none_above (ceiling_along config app r.0) (position_comes r.0 r.1 r.2) in lt-ltb 0 top (omega (arith, above)),
      )
