-- What an OIL text means, and why it is refused.
use Rattle.std.specs.Prelude.{ℕ, ◌⊎◌, List}
use Rattle.sloth_base.specs.declared.config.Config.{Config}
use Rattle.sloth_base.specs.declared.refusal.Refusal.{Refusal}
use Rattle.sloth_base.specs.declared.refusal.BuildError.{BuildError}
use Rattle.sloth_base.specs.declared.refusal.BuildError.TheVariants as error
use Rattle.sloth_base.specs.Order.{IsLeast, NoFault}
use Rattle.oil_parse.specs.Tokens.{TextFault}
use Rattle.oil_parse.specs.declared.tree.OilTree.{OilTree}
use Rattle.oil_parse.specs.Text.{HasTree, HasGrammarFault}
use Rattle.oil_rules.specs.ModelFaults.{ModelFault}
use Rattle.oil_rules.specs.Configs.{IsConfig}

-- the text has no fault, and declares this configuration
pub record OilText (text : List ℕ) (config : Config) : Type 0 where
  pub tree : OilTree
  pub has_tree : HasTree text tree
  pub no_fault : NoFault (ModelFault tree)
  pub means : IsConfig tree config

-- the least fault of the meaning of the text's tree
pub record HasModelFault (text : List ℕ) (refusal : Refusal) : Type 0 where
  pub tree : OilTree
  pub has_tree : HasTree text tree
  pub least : IsLeast (ModelFault tree) refusal

-- The text is refused so: for its tokens, or else its grammar, or else its meaning. A later one is judged only where the text
-- has no fault of an earlier one.
abbrev pub OilRefusal : List ℕ → Refusal → Type 0
OilRefusal text refusal = IsLeast (TextFault text) refusal ⊎ (IsLeast (HasGrammarFault text) refusal ⊎ HasModelFault text refusal)

-- why no configuration was read: want of memory, or the refusal
abbrev pub OilErrorIs : List ℕ → BuildError → Type 0
OilErrorIs text (error.Refused refusal) = OilRefusal text refusal
OilErrorIs text error.Memory = Unit {0}
