-- A text has one tree, or faults of its grammar, and never both.
use Rattle.std.proofs.Common.{◌≡◌, ℕ, List, subst, ◌↔◌}
use Rattle.sloth_base.specs.declared.refusal.Refusal.{Refusal}
use Rattle.sloth_base.specs.Order.{NoFault}
use Rattle.oil_parse.specs.Tokens.{Lexeme, AreTokens, TextFault}
use Rattle.oil_parse.proofs.Cuts.{tokens_one}
use Rattle.oil_parse.specs.declared.tree.OilTree.{OilTree}
use Rattle.oil_parse.specs.Grammar.{IsFile}
use Rattle.oil_parse.specs.Faults.{GrammarFault}
use Rattle.oil_parse.specs.Text.{HasTree, HasGrammarFault}
use Rattle.oil_parse.proofs.Complete.{file_one}

pub one_tree : (text : List ℕ) (tree other : OilTree) → HasTree text tree → HasTree text other → tree ≡ other
one_tree text tree other a b =
    file_one a.is_file (subst (λ (ts : List Lexeme). IsFile ts other) (tokens_one text b.tokens a.tokens b.are_tokens a.are_tokens) b.is_file)

-- The faults of a text's grammar are those of its tokens.
pub grammar_of : (text : List ℕ) (tokens : List Lexeme) → AreTokens text tokens → NoFault (TextFault text) → (r : Refusal) → HasGrammarFault text r ↔ GrammarFault tokens r
grammar_of text tokens a n r = (
  λ b. subst (λ (ts : List Lexeme). GrammarFault ts r) (tokens_one text b.tokens tokens b.are_tokens a) b.fault,
  λ f. record { tokens = tokens; are_tokens = a; no_text_fault = n; fault = f },
)

pub not_both : (text : List ℕ) (tree : OilTree) (r : Refusal) → HasTree text tree → HasGrammarFault text r → ⊥
not_both text tree r h b =
    h.no_grammar_fault r (subst (λ (ts : List Lexeme). GrammarFault ts r) (tokens_one text b.tokens h.tokens b.are_tokens h.are_tokens) b.fault)
