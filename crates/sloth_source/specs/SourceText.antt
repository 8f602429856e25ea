-- What task source means for a configuration, and why it is refused.
use Rattle.std.specs.Prelude.{ℕ, ◌≡◌, ◌⊎◌, List}
use Rattle.sloth_base.specs.declared.config.Config.{Config}
use Rattle.sloth_base.specs.declared.app.App.{App}
use Rattle.sloth_base.specs.declared.refusal.Refusal.{Refusal}
use Rattle.sloth_base.specs.Order.{IsLeast, NoFault}
use Rattle.code_rules.specs.WellFormed.{CycleFault, RuleFault}
use Rattle.sloth_base.specs.Named.{declaration, function, IsBodyOf}
use Rattle.asm_parse.specs.AppTexts.{AppText, SourceTextFault}

-- the text has no fault of its lines, names and limits, and says this task code
pub record HasApp (text : List ℕ) (config : Config) (app : App) : Type 0 where
  pub no_fault : NoFault (SourceTextFault config text)
  pub says : AppText text config app

-- the body of a task has the task's name
abbrev pub BodiesAreNamed : Config → App → Type 0
BodiesAreNamed config app = (f t : ℕ) → IsBodyOf app t f → (function app f).name ≡ (declaration config t).name

-- the text has no fault, and says this task code
pub record SourceText (text : List ℕ) (config : Config) (app : App) : Type 0 where
  pub has_app : HasApp text config app
  pub no_cycle : NoFault (CycleFault app)
  pub no_fault : NoFault (RuleFault config app)

-- the least of the functions of the text's task code that lie on a cycle of calls
pub record HasCycleFault (text : List ℕ) (config : Config) (refusal : Refusal) : Type 0 where
  pub app : App
  pub has_app : HasApp text config app
  pub least : IsLeast (CycleFault app) refusal

-- the least fault of the text's task code against the other rules
pub record HasRuleFault (text : List ℕ) (config : Config) (refusal : Refusal) : Type 0 where
  pub app : App
  pub has_app : HasApp text config app
  pub no_cycle : NoFault (CycleFault app)
  pub least : IsLeast (RuleFault config app) refusal

-- The text is refused so: for its lines (A1 to A4), or else its names and limits (A5 to A7), or else its cycles of calls (V1), or else the
-- other rules of task code (V2 to V12). A later one is judged only where the text has no fault of an earlier one.
abbrev pub SourceRefusal : List ℕ → Config → Refusal → Type 0
SourceRefusal text config refusal =
    IsLeast (SourceTextFault config text) refusal ⊎ (HasCycleFault text config refusal ⊎ HasRuleFault text config refusal)
