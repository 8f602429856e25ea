-- What is told of greatest sums.
use Rattle.std.specs.Prelude.{ℕ, ◌-◌, ◌<◌, ◌≤◌, ◌≡◌, ◌⊎◌, leb, cond, List}
use Rattle.sloth_base.specs.declared.config.TaskDecl.{TaskDecl}
use Rattle.sloth_base.specs.declared.app.App.{App}
use Rattle.sloth_base.specs.declared.app.Func.{Func}
use Rattle.sloth_base.specs.Named.{body_of}
use Rattle.sloth_base.specs.Limits.{count_limit}
use Rattle.osek_blocking.specs.Walks.{Position}
use Rattle.bound_rules.specs.declared.bound.Summary.{Summary}
use Rattle.bound_rules.specs.declared.bound.BodyWeights.{BodyWeights}
use Rattle.bound_rules.specs.Summaries.{summary_of}
use Rattle.bound_rules.specs.Tasks.{task_summary}
use Rattle.walk_sums.specs.Weights.{sum_of}
use Rattle.walk_sums.specs.declared.sections.Sum.{Sum}
use Rattle.walk_sums.specs.declared.sections.Sum.TheVariants as sum
use Rattle.walk_sums.specs.declared.sections.RoundSums.{RoundSums}
use Rattle.walk_sums.specs.Rounds.{IsFirstRound, IsLaterRound}

-- ---- greatest sums of parts

-- no part of the kind has a larger sum
abbrev pub NoneIsAbove : (Part : List Position → Type 0) → (weights : List BodyWeights) → (n : ℕ) → Type 0
NoneIsAbove Part weights n = (positions : List Position) → Part positions → sum_of weights positions ≤ n

-- some part has a sum of at least so much
abbrev pub SomeReaches : (Part : List Position → Type 0) → (weights : List BodyWeights) → (n : ℕ) → Type 0
SomeReaches Part weights n = (positions : List Position) × Part positions × (n ≤ sum_of weights positions)

-- the greatest sum of a part of the kind; 0 where there is none
pub record IsGreatestSum (Part : List Position → Type 0) (weights : List BodyWeights) (n : ℕ) : Type 0 where
  pub none_above : NoneIsAbove Part weights n
  pub attained : (n ≡ 0) ⊎ SomeReaches Part weights n

-- there is a greatest sum, which is at least so much
pub record ReachesLimit (Part : List Position → Type 0) (weights : List BodyWeights) (limit : ℕ) : Type 0 where
  pub some_reaches : SomeReaches Part weights limit
  pub most : ℕ
  pub none_above : NoneIsAbove Part weights most

-- ---- what is told

-- What is told of the greatest sum of the parts of a kind is so: its number, where it is less than 1,000,000; that it is at least that; or that there
-- is none, since parts go through a cycle with a weight.
abbrev pub IsToldSum : (Part : List Position → Type 0) → (weights : List BodyWeights) → Sum → Type 0
IsToldSum Part weights (sum.Counts n) = IsGreatestSum Part weights n × (n < count_limit)
IsToldSum Part weights sum.Huge = ReachesLimit Part weights count_limit
IsToldSum Part weights sum.Endless = (n : ℕ) → SomeReaches Part weights n

-- of two kinds together: both have a greatest sum, or one of them has none
pub data AreToldBoth (First Later : List Position → Type 0) (weights : List BodyWeights) : RoundSums → Type 0 where
  are_limited : (told : RoundSums) → (told.first ≡ sum.Endless → ⊥) → (told.later ≡ sum.Endless → ⊥) → IsToldSum First weights told.first → IsToldSum Later weights told.later
      → AreToldBoth First Later weights told
  are_endless : ((n : ℕ) → SomeReaches First weights n ⊎ SomeReaches Later weights n) → AreToldBoth First Later weights (record { first = sum.Endless; later = sum.Endless })

-- of the rounds of task t
abbrev pub AreToldRounds : App → (t : ℕ) → (weights : List BodyWeights) → RoundSums → Type 0
AreToldRounds app t weights told = AreToldBoth (IsFirstRound app t) (IsLaterRound app t) weights told

-- ---- how it is found

-- by a size, which is one more than the sum and counted up to 1,000,001
abbrev pub told : ℕ → Sum
told size = cond (leb size count_limit) (sum.Counts (size - 1)) sum.Huge

-- the greatest sums of the rounds of task t, by the summaries of all functions
abbrev pub told_rounds : List Func → List Summary → (t : ℕ) → RoundSums
told_rounds funcs table t =
    let s = summary_of table (body_of funcs t) in
    cond s.is_endless (record { first = sum.Endless; later = sum.Endless }) (record { first = told s.on; later = told s.most })

-- of its turns
abbrev pub told_turn : List Func → List Summary → (t : ℕ) → Sum
told_turn funcs table t = let s = summary_of table (body_of funcs t) in cond s.is_endless sum.Endless (told s.on)

-- of its raised sections
abbrev pub told_section : List TaskDecl → List Func → (whole own : List Summary) → (t : ℕ) → Sum
told_section tasks funcs whole own t = let s = task_summary tasks funcs whole own t in cond s.is_endless sum.Endless (told s.most)
