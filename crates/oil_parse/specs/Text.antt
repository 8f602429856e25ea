-- What an OIL text says before its meaning is judged: the tree, or a fault of the grammar.
use Rattle.std.specs.Prelude.{ℕ, List}
use Rattle.sloth_base.specs.declared.refusal.Refusal.{Refusal}
use Rattle.sloth_base.specs.Order.{NoFault}
use Rattle.oil_parse.specs.Tokens.{Lexeme, AreTokens, TextFault}
use Rattle.oil_parse.specs.declared.tree.OilTree.{OilTree}
use Rattle.oil_parse.specs.Grammar.{IsFile}
use Rattle.oil_parse.specs.Faults.{GrammarFault}

-- The text has this tree: its tokens are a file with the tree, and neither they nor the text have a fault.
pub record HasTree (text : List ℕ) (tree : OilTree) : Type 0 where
  pub tokens : List Lexeme
  pub are_tokens : AreTokens text tokens
  pub no_text_fault : NoFault (TextFault text)
  pub is_file : IsFile tokens tree
  pub no_grammar_fault : NoFault (GrammarFault tokens)

-- The text breaks the grammar. This is judged only where the text has no fault of its own.
pub record HasGrammarFault (text : List ℕ) (r : Refusal) : Type 0 where
  pub tokens : List Lexeme
  pub are_tokens : AreTokens text tokens
  pub no_text_fault : NoFault (TextFault text)
  pub fault : GrammarFault tokens r
