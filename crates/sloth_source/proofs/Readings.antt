-- From the readers of the stages to the readings of the texts.
use Rattle.std.proofs.Common.{◌≡◌, ◌∙◌, ℕ, List, sym, ap, inl, inr}
use Rattle.sloth_base.specs.declared.config.Config.{Config}
use Rattle.sloth_base.specs.declared.refusal.BuildError.{BuildError}
use Rattle.sloth_base.specs.declared.refusal.BuildError.TheVariants as error
use Rattle.sloth_base.specs.Order.{NoFault, ErrorIs}
use Rattle.oil_parse.specs.Tokens.{Lexeme, AreTokens, TextFault}
use Rattle.oil_parse.specs.Faults.{GrammarFault}
use Rattle.oil_parse.proofs.Texts.{one_tree, grammar_of}
use Rattle.oil_rules.specs.Configs.{config_of}
use Rattle.sloth_source.specs.OilText.{OilText, OilErrorIs}

-- a text declares one configuration
pub one_configuration : (text : List ℕ) (config other : Config) → OilText text config → OilText text other → config ≡ other
one_configuration text config other a b =
    a.means ∙ (ap (λ t. config_of t.objects) (one_tree text a.tree b.tree a.has_tree b.has_tree) ∙ sym b.means)

-- the least fault of the grammar, told from the tokens
pub grammar_refused : (text : List ℕ) (tokens : List Lexeme) (error : BuildError) → AreTokens text tokens → NoFault (TextFault text)
    → ErrorIs (GrammarFault tokens) error → OilErrorIs text error
grammar_refused text tokens (error.Refused r) are none h = inr (inl (record {
  is_fault = (grammar_of text tokens are none r).1 h.is_fault;
  is_least = λ s fault. h.is_least s ((grammar_of text tokens are none s).0 fault);
}))
grammar_refused text tokens error.Memory are none h = tt
