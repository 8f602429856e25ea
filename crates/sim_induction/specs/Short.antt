-- How long generated code keeps interrupts masked, and what it touches.
use Rattle.std.specs.Prelude.{ℕ, ◌+◌, ◌≤◌, List, [], ◌∷◌, length, IfSome, All, Contains}
use Rattle.sloth_base.specs.declared.service.Event.{Event}
use Rattle.sloth_base.specs.declared.numbers.Step.{Step}
use Rattle.sloth_base.specs.declared.config.Config.{Config}
use Rattle.sloth_base.specs.Stretches.{Beginning, beginning_of, stretch_limit, touch_limit}
use Rattle.sloth_base.specs.Limits.{unseen_counts}
use Rattle.observe.specs.Pieces.{RunPiece, Outside, Stretch, pieces, cut_off_steps}
use Rattle.observe.specs.Observe.{View, mark_at, outside_events}

-- a step touches no line but these
abbrev pub TouchesOnly : List ℕ → Step → Type 0
TouchesOnly lines step = IfSome step.touched (Contains lines)

-- The steps of a stretch that begins so, finished or not: no more than the limit, and they touch no more lines than the limit.
abbrev pub IsShortAt : Config → Beginning → List Step → Type 0
IsShortAt config beginning steps =
    (length steps ≤ stretch_limit config beginning) × ((lines : List ℕ) × (length lines ≤ touch_limit config beginning) × All (TouchesOnly lines) steps)

-- the same of steps that may be none
abbrev pub AreShort : Config → List Step → Type 0
AreShort config [] = Unit {0}
AreShort config (first ∷ more) = IsShortAt config (beginning_of first) (first ∷ more)

-- a short stretch, or a step outside that touches no line
abbrev pub IsShortPiece : Config → RunPiece → Type 0
IsShortPiece config (Outside step) = TouchesOnly [] step
IsShortPiece config (Stretch steps) = AreShort config steps

-- how many steps without an event follow one another, the one last passed with them: `before` had been passed
abbrev pub passed_count : List Event → ℕ → ℕ
passed_count [] before = before + 1
passed_count (event ∷ events) before = 0

-- the same behind a piece of a run
abbrev pub passed_length : View → RunPiece → ℕ → ℕ
passed_length view (Outside step) before = passed_count (outside_events (mark_at view step.pc) view step) before
passed_length view (Stretch steps) before = 0

-- they are at most `unseen_counts`
abbrev pub HasShortGaps : View → ℕ → List RunPiece → Type 0
HasShortGaps view before [] = Unit {0}
HasShortGaps view before (piece ∷ rest) = (passed_length view piece before ≤ unseen_counts) × HasShortGaps view (passed_length view piece before) rest

-- each stretch of a run is short, and so are the gaps between its events
pub record Short (config : Config) (view : View) (steps : List Step) : Type 0 where
  pub finished : All (IsShortPiece config) (pieces [] steps)
  pub cut : AreShort config (cut_off_steps [] steps)
  pub gaps : HasShortGaps view 0 (pieces [] steps)
