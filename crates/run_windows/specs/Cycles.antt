-- Makings round a cycle, and what each solution has at least for each of its counts.
use Rattle.std.specs.Prelude.{ℕ, ◌+◌, ◌*◌, ◌≤◌, ◌≡◌, ◌==◌, cond, Bool, List}
use Rattle.run_windows.specs.declared.costs.Costs.{Costs}
use Rattle.run_windows.specs.declared.costs.Window.{Window}
use Rattle.run_windows.specs.declared.costs.Made.{Made}
use Rattle.run_windows.specs.declared.costs.Rule.{Rule}
use Rattle.run_windows.specs.declared.costs.Rule.TheVariants as rule
use Rattle.run_windows.specs.declared.curves.Curve.{Curve}
use Rattle.run_windows.specs.Windows.{Numbers, numbers_of, IsAtMost, IsSolution}

-- ---- rules

-- what counts of a task grows with what is made of it
abbrev pub IsOpen : Rule → Type 0
IsOpen r = r ≡ rule.Once → ⊥

-- ---- cycles

-- no counts hold what comes within a window
abbrev pub HasNone : Costs → Window → Type 0
HasNone costs w = (m : Numbers) (more : ℕ) → IsSolution costs w m more → ⊥

-- how often a task's events are set, or it is activated
abbrev pub share_of : (sets : Bool) → Made → ℕ
share_of sets n = cond sets n.settings n.activations

-- one setting, or one activation
abbrev pub one_share : (sets : Bool) → Made
one_share sets = cond sets (record { activations = 0; settings = 1 }) (record { activations = 1; settings = 0 })

abbrev pub multiple : (x : ℕ) → Made → Made
multiple x n = record { activations = x * n.activations; settings = x * n.settings }

-- In each solution each task is made so many times as often as events of task t are set, or as it is activated.
abbrev pub AreMultiples : Costs → Window → (sets : Bool) → (t : ℕ) → List Made → Type 0
AreMultiples costs w sets t marks =
    (m : Numbers) (more : ℕ) → IsSolution costs w m more → (k : ℕ) → IsAtMost (multiple (share_of sets (m t)) (numbers_of marks k)) (m k)

-- of these numbers those that are not marked
abbrev pub unmarked : (marks numbers : Made) → Made
unmarked marks n = record { activations = cond (marks.activations == 0) n.activations 0; settings = cond (marks.settings == 0) n.settings 0 }

-- those of each task
abbrev pub rest : (marks numbers : Numbers) → Numbers
rest marks n k = unmarked (marks k) (n k)

-- ---- rates

-- the counts for which rates are told
abbrev pub rate_span : ℕ
rate_span = 2147483647

-- so much comes within so many counts at least, by what comes within the span
abbrev pub IsRate : (rate counts x : ℕ) → Type 0
IsRate rate counts x = rate * counts ≤ rate_span * x

pub record AreRatesOf (rates : Made) (counts : ℕ) (n : Made) : Type 0 where
  pub activations : IsRate rates.activations counts n.activations
  pub settings : IsRate rates.settings counts n.settings

-- of each task, in each solution
abbrev pub AreRates : Costs → Window → List Made → Type 0
AreRates costs w rates = (m : Numbers) (more : ℕ) → IsSolution costs w m more → (k : ℕ) → AreRatesOf (numbers_of rates k) more (m k)

-- so much is at least the burst, and what comes by the rate
abbrev pub IsCurve : Curve → (counts x : ℕ) → Type 0
IsCurve c counts x = rate_span * c.burst + c.rate * counts ≤ rate_span * x
