-- The answer of the command `why`.
use Rattle.std.specs.Prelude.{ℕ, ◌≡◌, ◌<◌, ◌≤◌, ◌⊎◌, List, [], length}
use Rattle.sloth_base.specs.declared.config.Config.{Config}
use Rattle.sloth_base.specs.declared.app.App.{App}
use Rattle.sloth_base.specs.declared.refusal.Code.{Code}
use Rattle.sloth_base.specs.declared.refusal.Code.TheVariants as code
use Rattle.sloth_base.specs.declared.refusal.BuildError.{BuildError}
use Rattle.sloth_base.specs.declared.refusal.BuildError.TheVariants as error
use Rattle.sloth_base.specs.declared.refusal.Part.TheVariants.{Oil, Src}
use Rattle.sloth_base.specs.declared.refusal.Refusal.{Refusal}
use Rattle.sloth_base.specs.Named.{function}
use Rattle.sloth_base.specs.Order.{NoFault}
use Rattle.asm_lines.specs.Faults.{source_lines, SourceLinesFault}
use Rattle.oil_parse.specs.declared.tree.OilTree.{OilTree}
use Rattle.oil_parse.specs.Text.{HasTree}
use Rattle.sloth_source.specs.OilText.{OilText}
use Rattle.sloth_source.specs.RankedTexts.{HasRanks}
use Rattle.sloth_source.specs.SourceText.{HasApp}
use Rattle.sloth_source.specs.Texts.{AreAccepted, FirstRefusal}
use Rattle.fault_witnesses.specs.CallChains.{IsCycle}
use Rattle.fault_witnesses.specs.Witnesses.{IsWitness}
use Rattle.fault_witnesses.specs.declared.chains.Link.{Link}
use Rattle.fault_witnesses.specs.declared.witnesses.Witness.{Witness}
use Rattle.stage_faults.specs.ToldModel.{ToldModel}
use Rattle.stage_faults.specs.ToldNarrow.{ToldForm}
use Rattle.stage_faults.specs.ToldNames.{ToldName}
use Rattle.why_text.specs.NameLines.{AreFaultLines, AreNamedLines}
use Rattle.why_text.specs.RuleLines.{witness_lines, cycle_line}
use Rattle.why_text.specs.declared.explaining.Cause.{Cause}
use Rattle.why_text.specs.declared.explaining.Cause.TheVariants as cause
use Rattle.why_text.specs.declared.explaining.Why.{Why}
use Rattle.why_text.specs.declared.explaining.Why.TheVariants as why

-- The lines tell a witness of the refusal.
pub record HasWitnessLines (config : Config) (app : App) (r : Refusal) (lines : List ℕ) : Type 0 where
  pub witness : Witness
  pub is_witness : IsWitness config app r witness
  pub are : lines ≡ witness_lines config app r witness

-- The lines tell a fault of V2 to V12 of the texts' task code.
pub record TellsFault (oil src : List ℕ) (r : Refusal) (lines : List ℕ) : Type 0 where
  pub config : Config
  pub app : App
  pub has_ranks : HasRanks oil src config app
  pub tells : HasWitnessLines config app r lines

-- The line tells a cycle of calls of function f.
pub record IsCycleLine (app : App) (f : ℕ) (lines : List ℕ) : Type 0 where
  pub links : List Link
  pub is_cycle : IsCycle app f links
  pub are : lines ≡ cycle_line app f links

-- so it is of a function whose header stands on this line of the source
pub record IsCycleOn (app : App) (line : ℕ) (lines : List ℕ) : Type 0 where
  pub func : ℕ
  pub known : func < length app.funcs
  pub header : line ≡ (function app func).line
  pub calls : IsCycleLine app func lines

-- so it is of the task code of a text
pub record HasCycleIn (src : List ℕ) (config : Config) (line : ℕ) (lines : List ℕ) : Type 0 where
  pub app : App
  pub has_app : HasApp src config app
  pub is_on : IsCycleOn app line lines

-- The line tells a cycle of calls of the texts' task code, of a function on the refusal's line.
pub record TellsCycle (oil src : List ℕ) (r : Refusal) (lines : List ℕ) : Type 0 where
  pub config : Config
  pub configuration : OilText oil config
  pub calls : HasCycleIn src config r.line lines

-- a text has no tree, for this error; want of memory says nothing
abbrev pub LacksTree : List ℕ → BuildError → Type 0
LacksTree oil (error.Refused r) = (tree : OilTree) → HasTree oil tree → ⊥
LacksTree oil error.Memory = Unit {0}

-- The lines tell each fault of the meaning of the text's tree.
abbrev pub TellsMeaning : List ℕ → List ℕ → Type 0
TellsMeaning oil lines = (tree : OilTree) → HasTree oil tree → AreNamedLines Oil (ToldModel tree) lines

-- The lines tell each fault of the source's lines.
abbrev pub TellsForms : List ℕ → List ℕ → Type 0
TellsForms src lines = AreFaultLines Src (ToldForm src) lines

-- They tell each fault of its names and limits for a configuration, where its lines have no fault.
abbrev pub TellsNamesFor : Config → List ℕ → List ℕ → Type 0
TellsNamesFor config src lines = NoFault (SourceLinesFault src) → AreFaultLines Src (ToldName config (source_lines src)) lines

-- so they do for the configuration of a text
abbrev pub TellsNames : (oil src : List ℕ) → List ℕ → Type 0
TellsNames oil src lines = (config : Config) → OilText oil config → TellsNamesFor config src lines

-- what explains a refusal, by its code
abbrev pub code_cause : Code → Cause
code_cause code.O7 = cause.OilName
code_cause code.O8 = cause.OilName
code_cause code.O9 = cause.OilName
code_cause code.O10 = cause.OilName
code_cause code.O11 = cause.OilName
code_cause code.O12 = cause.OilName
code_cause code.O13 = cause.OilName
code_cause code.O14 = cause.OilName
code_cause code.O15 = cause.OilName
code_cause code.A1 = cause.SourceForm
code_cause code.A2 = cause.SourceForm
code_cause code.A3 = cause.SourceForm
code_cause code.A4 = cause.SourceForm
code_cause code.A5 = cause.SourceName
code_cause code.A6 = cause.SourceName
code_cause code.A7 = cause.SourceName
code_cause code.V1 = cause.Cycle
code_cause code.V2 = cause.Rule
code_cause code.V3 = cause.Rule
code_cause code.V4 = cause.Rule
code_cause code.V5 = cause.Rule
code_cause code.V6 = cause.Rule
code_cause code.V7 = cause.Rule
code_cause code.V8 = cause.Rule
code_cause code.V9 = cause.Rule
code_cause code.V10 = cause.Rule
code_cause code.V11 = cause.Rule
code_cause code.V12 = cause.Rule
code_cause _ = cause.Nothing

-- the most bytes of the lines of a cycle or of a fault of task code; where they are more, none is told
abbrev pub lines_limit : ℕ
lines_limit = 1073741824

-- what the lines are, by what explains the refusal
abbrev pub AreLinesBy : Cause → (oil src : List ℕ) → Refusal → List ℕ → Type 0
AreLinesBy cause.Nothing oil src r lines = lines ≡ []
AreLinesBy cause.OilName oil src r lines = TellsMeaning oil lines
AreLinesBy cause.SourceForm oil src r lines = TellsForms src lines
AreLinesBy cause.SourceName oil src r lines = TellsNames oil src lines
AreLinesBy cause.Cycle oil src r lines = (lines ≡ []) ⊎ (TellsCycle oil src r lines × (length lines ≤ lines_limit))
AreLinesBy cause.Rule oil src r lines = (lines ≡ []) ⊎ (TellsFault oil src r lines × (length lines ≤ lines_limit))

-- what the lines behind a refusal are
abbrev pub AreWhyLines : (oil src : List ℕ) → Refusal → List ℕ → Type 0
AreWhyLines oil src r lines = AreLinesBy (code_cause r.code) oil src r lines

-- the texts are accepted
abbrev pub AreAcceptedTexts : (oil src : List ℕ) → Type 0
AreAcceptedTexts oil src = (config : Config) × (app : App) × AreAccepted oil src config app

-- the texts are accepted, or have this first refusal with these lines behind it
abbrev pub IsWhy : (oil src : List ℕ) → Why → Type 0
IsWhy oil src why.Accepted = AreAcceptedTexts oil src
IsWhy oil src (why.Refused refusal lines) = FirstRefusal oil src refusal × AreWhyLines oil src refusal lines
