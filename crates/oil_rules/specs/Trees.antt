-- Trees that the grammar gives.
use Rattle.std.specs.Prelude.{ℕ, List}
use Rattle.oil_parse.specs.declared.tree.OilTree.{OilTree}
use Rattle.oil_parse.specs.Text.{HasTree}

-- the grammar gives the tree for some text
pub record IsTree (tree : OilTree) : Type 0 where
  pub text : List ℕ
  pub has_tree : HasTree text tree
