-- A lower task that holds nothing is raised exactly where it is not preemptable.
use Rattle.std.proofs.Common.{◌≡◌, ℕ, zero, suc, ◌<◌, ◌≤◌, Bool, true, false, leb, cond, max, List, [], ◌∷◌, length, get_or, map, Some, None, refl, ap, sym, subst, arith}
use Rattle.std.proofs.lemmas.Bool.{le-leb, lt-leb}
use Rattle.sloth_base.specs.declared.config.Config.{Config}
use Rattle.sloth_base.specs.declared.config.TaskDecl.{TaskDecl}
use Rattle.sloth_base.specs.declared.app.App.{App}
use Rattle.sloth_base.specs.Named.{declaration}
use Rattle.osek_scheduler.specs.Priority.{greatest, highest_priority}
use Rattle.osek_scheduler.specs.Apart.{static_priority}
use Rattle.osek_blocking.specs.Sections.{IsLower}
use Rattle.walk_sums.specs.Activations.{called_level}
use Rattle.walk_sums.proofs.LevelsAt.{L}

-- one of the tasks is no higher than the highest
at_most_highest : (tasks : List TaskDecl) (h : ℕ) (d : TaskDecl) → h < length tasks → (get_or tasks h d).priority ≤ greatest (map (λ d. d.priority) tasks)
at_most_highest [] h d lt = absurd (omega (arith, lt))
at_most_highest (t ∷ tasks) zero d lt = omega arith
at_most_highest (t ∷ tasks) (suc h) d lt = let le = at_most_highest tasks h d (omega (arith, lt)) in omega (arith, le)

module _ (config : Config) (app : App) (h : ℕ) (there : h < length config.tasks) where
  abbrev P : ℕ
  P = static_priority config h

  -- a lower task that holds nothing is raised exactly where it is not preemptable
  pub level_is : (t : ℕ) → IsLower config h t → L config app h t [] ≡ cond (declaration config t).non None (Some P)
  level_is t low = by (declaration config t).non refl
    where
      top : P ≤ highest_priority config
      top = at_most_highest config.tasks h _ there

      by : (b : Bool) → (declaration config t).non ≡ b
          → called_level (leb P (max (static_priority config t) (max 0 (cond (declaration config t).non (highest_priority config) 0)))) (Some P) ≡ cond (declaration config t).non None (Some P)
      by true e =
          let Q : Bool → Type 0 = λ b. called_level (leb P (max (static_priority config t) (max 0 (cond b (highest_priority config) 0)))) (Some P) ≡ cond b None (Some P) in
          let le = top in
          subst Q (sym e) (ap (λ b. called_level b (Some P)) (le-leb P (max (static_priority config t) (max 0 (highest_priority config))) (omega (arith, le))))
      by false e =
          let Q : Bool → Type 0 = λ b. called_level (leb P (max (static_priority config t) (max 0 (cond b (highest_priority config) 0)))) (Some P) ≡ cond b None (Some P) in
          let lt = low.1 in
          subst Q (sym e) (ap (λ b. called_level b (Some P)) (lt-leb P (max (static_priority config t) (max 0 0)) (omega (arith, lt))))
