-- Windows have one bound, and loads one demand.
use Rattle.std.proofs.Common.{◌≡◌, ℕ, ◌<◌, ◌==◌, ◌&&◌, not, cond, length, Option, Some, None, refl, sym, ap, ◌∙◌, arith}
use Rattle.run_windows.specs.declared.costs.Costs.{Costs}
use Rattle.run_windows.specs.declared.costs.Made.{Made}
use Rattle.run_windows.specs.declared.costs.Window.{Window}
use Rattle.run_windows.specs.Windows.{Numbers, IsAtMost, IsLeast, is_made, is_target_made, IsBound}
use Rattle.run_windows.specs.Demand.{demand_limit, demand_window, hundredths, IsDemand}

same_made : (a b : Made) → IsAtMost a b → IsAtMost b a → is_made a ≡ is_made b
same_made a b h g =
    let p = h.activations in
    let q = g.activations in
    let r = h.settings in
    let s = g.settings in
    let acts : a.activations ≡ b.activations = omega (arith, p, q) in
    let sets : a.settings ≡ b.settings = omega (arith, r, s) in
    ap (λ x. not ((x == 0) && (a.settings == 0))) acts ∙ ap (λ x. not ((b.activations == 0) && (x == 0))) sets

module _ (costs : Costs) where
  -- the target is one of the tasks, if there is one
  abbrev pub IsTarget : Option ℕ → Type 0
  IsTarget (Some h) = h < length costs.tasks
  IsTarget None = Unit {0}

  module _ (w : Window) where
    same_target : (t : Option ℕ) (n m : Numbers) (c d : ℕ) → IsTarget t → IsLeast costs w n c → IsLeast costs w m d → is_target_made t n ≡ is_target_made t m
    same_target (Some h) n m c d lt a b = same_made (n h) (m h) (a.least_numbers m d b.solves h lt) (b.least_numbers n c a.solves h lt)
    same_target None n m c d lt a b = refl

    one_counts : (n m : Numbers) (c d : ℕ) → IsLeast costs w n c → IsLeast costs w m d → c ≡ d
    one_counts n m c d a b =
        let p = a.least_counts m d b.solves in
        let q = b.least_counts n c a.solves in
        omega (arith, p, q)

    not_both : (limit l : ℕ) → IsBound limit costs w (Some l) → IsBound limit costs w None → ⊥
    not_both limit l a none =
        let p = a.3 in
        let q = none a.0 a.1 a.2.solves in
        omega (arith, p, q)

    pub one_bound : (limit : ℕ) (l k : Option ℕ) → IsTarget w.target → IsBound limit costs w l → IsBound limit costs w k → l ≡ k
    one_bound limit (Some l) (Some k) t a b =
        let made = same_target w.target a.0 b.0 a.1 b.1 t a.2 b.2 in
        let counts = one_counts a.0 b.0 a.1 b.1 a.2 b.2 in
        ap Some (a.4 ∙ (ap (λ m. cond m a.1 0) made ∙ (ap (λ c. cond (is_target_made w.target b.0) c 0) counts ∙ sym b.4)))
    one_bound limit (Some l) None t a b = absurd (not_both limit l a b)
    one_bound limit None (Some k) t a b = absurd (not_both limit k b a)
    one_bound limit None None t a b = refl

  -- ---- the demand

  pub one_demand : (p q : Option ℕ) → IsDemand costs p → IsDemand costs q → p ≡ q
  one_demand (Some p) (Some q) a b =
      let same : Some a.0 ≡ Some b.0 = one_bound demand_window demand_limit (Some a.0) (Some b.0) tt a.1 b.1 in
      let is : a.0 ≡ b.0 = cc in
      ap Some (a.2 ∙ (ap hundredths is ∙ sym b.2))
  one_demand (Some p) None a b = absurd (not_both demand_window demand_limit a.0 a.1 b)
  one_demand None (Some q) a b = absurd (not_both demand_window demand_limit b.0 b.1 a)
  one_demand None None a b = refl
