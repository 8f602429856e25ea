-- Whether a lower task does what counts while it is raised, by its top.
use Rattle.std.proofs.Common.{◌≡◌, ℕ, zero, suc, ◌<◌, ◌≤◌, Bool, true, false, cond, max, List, [], ◌∷◌, map, length, get_or, refl, sym, subst, arith}
use Rattle.std.specs.Prelude.{nat_lt, Decides}
use Rattle.std.proofs.lemmas.Bool.{lt-ltb, ltb-true}
use Rattle.sloth_base.specs.declared.config.Config.{Config}
use Rattle.sloth_base.specs.declared.config.TaskDecl.{TaskDecl}
use Rattle.sloth_base.specs.declared.app.App.{App}
use Rattle.sloth_base.specs.Named.{body_of, declaration}
use Rattle.osek_scheduler.specs.Priority.{greatest, highest_priority}
use Rattle.osek_scheduler.specs.Apart.{static_priority}
use Rattle.osek_scheduler.proofs.Facts.{Facts}
use Rattle.osek_blocking.specs.Walks.{Position}
use Rattle.osek_blocking.specs.Sections.{priority_at, IsLower}
use Rattle.walk_sums.specs.declared.counted.Counted.{Counted}
use Rattle.run_costs.specs.Sections.{DoesRaised}
use Rattle.run_costs.specs.SectionSums.{does}
use Rattle.run_costs.specs.Tops.{IsTop}
use Rattle.run_costs.proofs.Coming.{ceiling_along, position_comes, comes_found}

-- one of the tasks is no higher than the highest
at_most_highest : (tasks : List TaskDecl) (h : ℕ) (d : TaskDecl) → h < length tasks → (get_or tasks h d).priority ≤ greatest (map (λ d. d.priority) tasks)
at_most_highest [] h d lt = absurd (omega (arith, lt))
at_most_highest (t ∷ tasks) zero d lt = omega arith
at_most_highest (t ∷ tasks) (suc h) d lt = let le = at_most_highest tasks h d (omega (arith, lt)) in omega (arith, le)

module _ (config : Config) (app : App) (w : Facts config app) (h : ℕ) (there : h < length config.tasks) (k : ℕ) (low : IsLower config h k) (c : Counted) (top : ℕ)
    (is : IsTop config app c (body_of app.funcs k) top) where
  P : ℕ
  P = static_priority config h

  highest : static_priority config h ≤ highest_priority config
  highest = at_most_highest config.tasks h _ there

  by : (b : Bool) → (declaration config k).non ≡ b → Decides (cond b (nat_lt 0 top) (nat_lt (static_priority config h) top)) (DoesRaised config app h k c)
  by true non = (
    λ e. let a = is.attained (ltb-true 0 top e) in let p = comes_found config app w k low.0 c a.0 a.1 in (p.at, (p.reached, raised p.at), p.counts),
    λ d. let above = is.none_above (ceiling_along config app d.0) (position_comes config app w k low.0 c d.0 d.1.0 d.2) in lt-ltb 0 top (omega (arith, above)),
  )
    where
      raised : (at : Position) → static_priority config h ≤ priority_at config app k at
      raised at =
          let le = highest in
          subst (λ b. static_priority config h ≤ max (static_priority config k) (max (ceiling_along config app at) (cond b (highest_priority config) 0))) (sym non) (omega (arith, le))
  by false full = (
    λ e.
        let lt = ltb-true (static_priority config h) top e in
        let a = is.attained (omega (arith, lt)) in
        let p = comes_found config app w k low.0 c a.0 a.1 in
        let one = a.2 in
        let along = p.along in
        (p.at, (p.reached, raised p.at (omega (arith, lt, one, along))), p.counts),
    λ d.
        let above = is.none_above (ceiling_along config app d.0) (position_comes config app w k low.0 c d.0 d.1.0 d.2) in
        let le = under d.0 d.1.1 in
        lt-ltb (static_priority config h) top (omega (arith, above, le)),
  )
    where
      raised : (at : Position) → static_priority config h ≤ ceiling_along config app at → static_priority config h ≤ priority_at config app k at
      raised at le =
          subst (λ b. static_priority config h ≤ max (static_priority config k) (max (ceiling_along config app at) (cond b (highest_priority config) 0))) (sym full) (omega (arith, le))

      under : (at : Position) → static_priority config h ≤ priority_at config app k at → static_priority config h ≤ ceiling_along config app at
      under at le =
          let lower = low.1 in
          let full_le : static_priority config h ≤ max (static_priority config k) (max (ceiling_along config app at) 0) =
          subst (λ b. static_priority config h ≤ max (static_priority config k) (max (ceiling_along config app at) (cond b (highest_priority config) 0))) full le in
          omega (arith, full_le, lower)

  pub raised_decided : Decides (does config h k top) (DoesRaised config app h k c)
  raised_decided = by (declaration config k).non refl
