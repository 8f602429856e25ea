use Rattle.oil_parse.proofs.Words.{tree_words}
use Rattle.oil_parse.proofs.tree.words_of_tree.Goals as goal

pub returns : goal.returns
returns c = tree_words
