-- What is said of the lists of labels: that they can be filled in, or why no lists keep the rules.
use Rattle.std.specs.Prelude.{ℕ, ◌≡◌, ◌<◌, ◌⊎◌, ◌++◌, Bool, true, false, List, [], ◌∷◌, length, codes}
use Rattle.sloth_base.specs.declared.config.Config.{Config}
use Rattle.sloth_base.specs.declared.app.App.{App}
use Rattle.sloth_base.specs.declared.app.Func.{Func}
use Rattle.sloth_base.specs.declared.refusal.Code.{Code}
use Rattle.sloth_base.specs.declared.refusal.Code.TheVariants as code
use Rattle.sloth_base.specs.declared.refusal.Refusal.{Refusal}
use Rattle.sloth_base.specs.Named.{function, label_of}
use Rattle.sloth_source.specs.RankedTexts.{HasRanks, EarlyRefusal}
use Rattle.command_line.specs.LastLine.{code_text}
use Rattle.why_text.specs.RuleLines.{spaced_number, way_line, list_line}
use Rattle.why_text.specs.WhyLines.{HasWitnessLines}
use Rattle.holds_infer.specs.FilledSource.{IsFilledSource, HasNoLists}
use Rattle.holds_infer.specs.LabelWays.{AreOtherWays}
use Rattle.holds_infer.specs.WayLists.{IsWayFilled}
use Rattle.holds_infer.specs.declared.other_ways.HoldingWay.{HoldingWay}
use Rattle.holds_infer.specs.declared.other_ways.OtherWays.{OtherWays}
use Rattle.holds_infer.specs.declared.label_answers.LabelAnswer.{LabelAnswer}
use Rattle.holds_infer.specs.declared.label_answers.LabelAnswer.TheVariants as answer

-- ---- two ways to a label

-- the lines of a way's items, `-` where the body begins at the label
abbrev pub led_line : Func → List ℕ → List ℕ
led_line f [] = codes "way -\n"
led_line f (i ∷ items) = way_line f (i ∷ items)

-- a way and what it holds
abbrev pub holding_lines : Config → Func → HoldingWay → List ℕ
holding_lines config f way = led_line f way.items ++ list_line config (codes "holds") way.held

-- the line and the name of a label
abbrev pub label_line : Func → ℕ → List ℕ
label_line f k = ((codes "label" ++ spaced_number (label_of f k).line) ++ (codes " " ++ (label_of f k).name)) ++ codes "\n"

abbrev pub other_ways_lines : Config → Func → OtherWays → List ℕ
other_ways_lines config f ways = label_line f ways.label ++ (holding_lines config f ways.one ++ holding_lines config f ways.other)

-- The lines tell two ways to a label of one body, which hold different resources.
pub record TellsWays (config : Config) (app : App) (lines : List ℕ) : Type 0 where
  pub body : ℕ
  pub known : body < length app.funcs
  pub ways : OtherWays
  pub are_other : AreOtherWays (function app body) ways
  pub are : lines ≡ other_ways_lines config (function app body) ways

-- ---- a rule that is broken

-- V7, the rule on the lists of labels
abbrev pub is_list_rule : Code → Bool
is_list_rule code.V7 = true
is_list_rule _ = false

-- the line and the code of a rule
abbrev pub rule_line : Refusal → List ℕ
rule_line r = ((codes "rule" ++ spaced_number r.line) ++ (codes " " ++ code_text r.code)) ++ codes "\n"

-- The lines tell a rule other than V7 that this task code breaks, and a witness of it.
pub record TellsBrokenRule (config : Config) (app : App) (lines : List ℕ) : Type 0 where
  pub refusal : Refusal
  pub other_rule : is_list_rule refusal.code ≡ false
  pub behind : List ℕ
  pub witness : HasWitnessLines config app refusal behind
  pub are : lines ≡ rule_line refusal ++ behind

-- so it is with the lists that ways hold at the labels
pub record TellsRule (config : Config) (app : App) (lines : List ℕ) : Type 0 where
  pub filled : App
  pub is_filled : IsWayFilled app filled
  pub tells : TellsBrokenRule config filled lines

-- ---- the answer

-- two ways to a label, or a rule that is broken
abbrev pub TellsReason : Config → App → List ℕ → Type 0
TellsReason config app lines = TellsWays config app lines ⊎ TellsRule config app lines

-- so it is of the texts' task code
pub record HasReason (oil src lines : List ℕ) : Type 0 where
  pub config : Config
  pub app : App
  pub has_ranks : HasRanks oil src config app
  pub tells : TellsReason config app lines

-- a line, and behind it the reason, if one is shown
pub record IsNoListsText (oil src text : List ℕ) : Type 0 where
  pub lines : List ℕ
  pub reason : (lines ≡ []) ⊎ HasReason oil src lines
  pub is : text ≡ codes "no holds\n" ++ lines

-- the lists can be filled in; no lists keep the rules, and why; or there is a refusal before the rules of task code
abbrev pub IsLabelAnswer : (oil src : List ℕ) → LabelAnswer → Type 0
IsLabelAnswer oil src answer.Filled = (out : List ℕ) × IsFilledSource oil src out
IsLabelAnswer oil src (answer.NoLists text) = HasNoLists oil src × IsNoListsText oil src text
IsLabelAnswer oil src answer.Unjudged = (refusal : Refusal) × EarlyRefusal oil src refusal
