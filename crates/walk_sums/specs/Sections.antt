-- What is told of the sections of all tasks for one another, and the greatest of sums.
use Rattle.std.specs.Prelude.{ℕ, zero, suc, ◌<◌, ◌≡◌, max, List, [], length, get_or}
use Rattle.sloth_base.specs.declared.config.Config.{Config}
use Rattle.sloth_base.specs.declared.app.App.{App}
use Rattle.osek_blocking.specs.Sections.{IsSection, IsLower}
use Rattle.bound_rules.specs.declared.bound.BodyWeights.{BodyWeights}
use Rattle.walk_sums.specs.declared.sections.Sum.{Sum}
use Rattle.walk_sums.specs.declared.sections.Sum.TheVariants as sum
use Rattle.walk_sums.specs.Told.{IsToldSum}

-- ---- sections

-- what stands in the place of a sum that is not told
abbrev pub no_sum : Sum
no_sum = sum.Endless

-- what is told of the sections of task k for task h is so, if it is a lower one; of one that is not a sum of 0 is told
pub record IsSumFor (config : Config) (app : App) (weights : List BodyWeights) (h k : ℕ) (s : Sum) : Type 0 where
  pub lower : IsLower config h k → IsToldSum (IsSection config app h k) weights s
  pub other : ¬ (IsLower config h k) → s ≡ sum.Counts 0

-- the same of the sections of all tasks for task h
pub record AreToldSums (config : Config) (app : App) (weights : List BodyWeights) (h : ℕ) (sums : List Sum) : Type 0 where
  pub count : length sums ≡ length config.tasks
  pub each : (k : ℕ) → k < length config.tasks → IsSumFor config app weights h k (get_or sums k no_sum)

-- for each task
pub record AreAllSums (config : Config) (app : App) (weights : List BodyWeights) (table : List (List Sum)) : Type 0 where
  pub count : length table ≡ length config.tasks
  pub each : (h : ℕ) → h < length config.tasks → AreToldSums config app weights h (get_or table h [])

-- ---- the greatest of sums

-- the greater of two sums
abbrev pub greater : Sum → Sum → Sum
greater sum.Endless other = sum.Endless
greater sum.Huge sum.Endless = sum.Endless
greater sum.Huge sum.Huge = sum.Huge
greater sum.Huge (sum.Counts m) = sum.Huge
greater (sum.Counts n) sum.Endless = sum.Endless
greater (sum.Counts n) sum.Huge = sum.Huge
greater (sum.Counts n) (sum.Counts m) = sum.Counts (max n m)

-- the greatest of the first sums, so many of them
abbrev pub greatest_of : List Sum → ℕ → Sum
greatest_of sums zero = sum.Counts 0
greatest_of sums (suc k) = greater (greatest_of sums k) (get_or sums k no_sum)
