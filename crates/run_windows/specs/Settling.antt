-- Numbers that grow up to the least solution.
use Rattle.std.specs.Prelude.{ℕ, ◌+◌, ◌-◌, ◌<◌, ◌≤◌, ◌≡◌, Bool, true, false, List, length, sum_by, Option, Some, None}
use Rattle.run_windows.specs.declared.costs.Costs.{Costs}
use Rattle.run_windows.specs.declared.costs.Window.{Window}
use Rattle.run_windows.specs.declared.costs.Made.{Made}
use Rattle.run_windows.specs.Costs.{greatest_sum, capped, reckoned, task}
use Rattle.run_windows.specs.Windows.{Numbers, numbers_of, rule_of, counted, activations, settings, IsAtMost, IsSolution, IsLeast}

-- no greater number is told apart
abbrev pub most_made : Made
most_made = record { activations = greatest_sum; settings = greatest_sum }

-- numbers and counts that are at most those of every solution
pub record AreBelow (costs : Costs) (w : Window) (made : List Made) (counts : ℕ) : Type 0 where
  pub count : length made ≡ length costs.tasks
  pub within : (j : ℕ) → IsAtMost (numbers_of made j) most_made
  pub numbers_below : (m : Numbers) (more : ℕ) → IsSolution costs w m more → (j : ℕ) → IsAtMost (numbers_of made j) (m j)
  pub counts_below : (m : Numbers) (more : ℕ) → IsSolution costs w m more → counts ≤ more

-- how far they may grow
abbrev pub slack : List Made → ℕ
slack made = sum_by (λ m. (greatest_sum - m.activations) + (greatest_sum - m.settings)) made

-- what comes of j within a window, with numbers up to the greatest sum
abbrev pub capped_made : Costs → Window → Numbers → (counts j : ℕ) → Made
capped_made costs w n counts j = counted (rule_of costs w j) (capped (activations costs w n counts j)) (capped (settings costs w n counts j))

-- of j no more comes
abbrev pub IsMet : Costs → Window → List Made → (counts j : ℕ) → Type 0
IsMet costs w made counts j = IsAtMost (capped_made costs w (numbers_of made) counts j) (numbers_of made j)

-- some number of those below j has grown, or none of them had to
abbrev pub HasGrown : Costs → Window → (old new : List Made) → (counts j : ℕ) → Bool → Type 0
HasGrown costs w old new counts j true = slack new < slack old
HasGrown costs w old new counts j false = (new ≡ old) × ((i : ℕ) → i < j → IsMet costs w old counts i)

-- each round takes counts
abbrev pub TakeCounts : Costs → Type 0
TakeCounts costs = (t : ℕ) → t < length costs.tasks → (1 ≤ reckoned (task costs t).first) × (1 ≤ reckoned (task costs t).next)

-- What is found: the counts of the least solution with these numbers, or that none has counts up to the limit.
abbrev pub IsFound : (limit : ℕ) → Costs → Window → List Made → Option ℕ → Type 0
IsFound limit costs w made (Some counts) = IsLeast costs w (numbers_of made) counts × (counts ≤ limit)
IsFound limit costs w made None = (m : Numbers) (more : ℕ) → IsSolution costs w m more → limit < more
