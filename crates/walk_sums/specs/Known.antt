-- When the summary of a function is right.
use Rattle.std.specs.Prelude.{ℕ, ◌+◌, ◌<◌, ◌≤◌, ◌≡◌, ◌⊎◌, min, MatchBool, List, length, get_or, Option, None}
use Rattle.sloth_base.specs.declared.config.Config.{Config}
use Rattle.sloth_base.specs.declared.app.App.{App}
use Rattle.sloth_base.specs.Named.{function}
use Rattle.sloth_base.specs.Limits.{size_limit}
use Rattle.code_rules.specs.Code.{HasCall}
use Rattle.code_rules.specs.WellFormed.{WellFormed}
use Rattle.bound_rules.specs.declared.bound.Summary.{Summary}
use Rattle.bound_rules.specs.declared.bound.BodyWeights.{BodyWeights}
use Rattle.bound_rules.specs.Summaries.{summary_of, AreCountedUp}
use Rattle.walk_sums.specs.declared.levels.Kind.{Kind}
use Rattle.walk_sums.specs.declared.levels.Kind.TheVariants as kind
use Rattle.walk_sums.specs.KnownBodies.{IsKnownBody, no_body}
use Rattle.walk_sums.specs.WalkedCode.{WalkedCode}
use Rattle.walk_sums.specs.Computed.{KnownBody, known_body_of}
use Rattle.walk_sums.specs.Weights.{AreWeights, AreWeightless, SmallEndings}
use Rattle.walk_sums.specs.Parts.{SumsOn, SumsBack, SumsWithin, SumsOut}

-- The size of the greatest part of a kind: one more than its sum, counted up to the limit; 0 where there is none.
pub record IsGreatestPart (Part : ℕ → Type 0) (size : ℕ) : Type 0 where
  pub none_larger : (n : ℕ) → Part n → min size_limit (n + 1) ≤ size
  pub attained : 0 < size → (n : ℕ) × Part n × (min size_limit (n + 1) ≡ size)

-- no part of function f weighs more than this, however it is counted
pub record HasLimit (config : Config) (app : App) (weights : List BodyWeights) (kind : Kind) (level : Option ℕ) (f : ℕ) : Type 0 where
  pub limit : ℕ
  pub on : (n : ℕ) → SumsOn config app weights kind level f 0 n → n ≤ limit
  pub back : (n : ℕ) → SumsBack config app weights kind level f 0 n → n ≤ limit
  pub most : (n : ℕ) → SumsWithin config app weights kind level f n → n ≤ limit
  pub out : (n : ℕ) → SumsOut config app weights kind level f n → n ≤ limit

-- the greatest sizes of the parts of function f, which have a limit
pub record IsExact (config : Config) (app : App) (weights : List BodyWeights) (kind : Kind) (level : Option ℕ) (f : ℕ) (s : Summary) : Type 0 where
  pub on : IsGreatestPart (SumsOn config app weights kind level f 0) s.on
  pub back : IsGreatestPart (SumsBack config app weights kind level f 0) s.back
  pub most : IsGreatestPart (SumsWithin config app weights kind level f) s.most
  pub out : IsGreatestPart (SumsOut config app weights kind level f) s.out
  pub limited : HasLimit config app weights kind level f

-- a part that begins with the first item of function f, or where parts may, weighs n
abbrev pub SumsAny : Config → App → (weights : List BodyWeights) → (kind : Kind) → (level : Option ℕ) → (f n : ℕ) → Type 0
SumsAny config app weights kind level f n = SumsOn config app weights kind level f 0 n ⊎ SumsWithin config app weights kind level f n

-- in which parts a loop has no end: of sections that begin early in those of all sections
abbrev pub endless_kind : Kind → Kind
endless_kind kind.Turns = kind.Turns
endless_kind kind.Rounds = kind.Rounds
endless_kind kind.Sections = kind.Sections
endless_kind (kind.EarlySections line) = kind.Sections
endless_kind (kind.Uncleared events) = kind.Uncleared events

-- such parts have no limit
abbrev pub IsEndless : Config → App → (weights : List BodyWeights) → (kind : Kind) → (level : Option ℕ) → (f : ℕ) → Type 0
IsEndless config app weights kind level f = (n : ℕ) → (k : ℕ) × SumsAny config app weights (endless_kind kind) level f k × (n ≤ k)

-- the summary of function f at a level
abbrev pub IsSummary : Config → App → (weights : List BodyWeights) → (kind : Kind) → (level : Option ℕ) → (f : ℕ) → Summary → Type 0
IsSummary config app weights kind level f s =
    MatchBool s.is_endless (IsEndless config app weights kind level f) (IsExact config app weights kind level f s)

-- the summaries of all functions at a level
pub record AreSums (config : Config) (app : App) (weights : List BodyWeights) (kind : Kind) (level : Option ℕ) (table : List Summary) : Type 0 where
  pub count : length table ≡ length app.funcs
  pub small : AreCountedUp table
  pub each : (f : ℕ) → f < length app.funcs → IsSummary config app weights kind level f (summary_of table f)

-- Which sums have one answer for all parts of a function: those of sections, early ones too; of turns and rounds where all is raised; and those of weights that are 0
-- where parts go on.
abbrev pub IsSummed : (weights : List BodyWeights) → Kind → (level : Option ℕ) → Type 0
IsSummed weights k level =
    (endless_kind k ≡ kind.Sections) ⊎ ((level ≡ None) × ((k ≡ kind.Turns) ⊎ (k ≡ kind.Rounds))) ⊎ (AreWeightless weights × SmallEndings weights)

-- a function before its summary: its parts are summed by these weights, and what is known of its body
pub record CallerCode : Type 0 where
  pub config : Config
  pub app : App
  pub weights : List BodyWeights
  pub kind : Kind
  pub number : ℕ
  pub known : KnownBody

-- what its body is, and the summaries of the functions that it calls
pub record IsBefore (c : CallerCode) : Type 0 where
  pub well_formed : WellFormed c.config c.app
  pub fit : AreWeights c.app c.weights
  pub known : c.number < length c.app.funcs
  pub is_func : c.known.func ≡ function c.app c.number
  pub is_body : IsKnownBody c.config c.app c.number c.known.body
  pub whole_is : (g : ℕ) → HasCall c.app c.number g → IsSummary c.config c.app c.weights c.kind None g (summary_of c.known.whole g)
  pub own_is : (g : ℕ) → HasCall c.app c.number g → IsSummary c.config c.app c.weights c.kind c.known.level g (summary_of c.known.own g)
  pub whole_small : AreCountedUp c.known.whole
  pub own_small : AreCountedUp c.known.own
  pub summed : IsSummed c.weights c.kind c.known.level

-- its summary
abbrev pub IsSummaryFor : CallerCode → Summary → Type 0
IsSummaryFor c s = IsSummary c.config c.app c.weights c.kind c.known.level c.number s

-- function f of task code that is walked, before its summary at a level
abbrev pub caller_code : WalkedCode → (weights : List BodyWeights) → Kind → (level : Option ℕ) → (f : ℕ) → (whole own : List Summary) → CallerCode
caller_code w weights kind level f whole own = record {
  config = w.config;
  app = w.app;
  weights = weights;
  kind = kind;
  number = f;
  known = known_body_of (function w.app f) (get_or w.bodies f no_body) level whole own;
}
