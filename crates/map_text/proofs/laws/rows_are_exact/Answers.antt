use Rattle.map_text.proofs.ExactRows.{rows_are_exact}
use Rattle.map_text.proofs.laws.rows_are_exact.Goals as goal

pub returns : goal.returns
returns c = rows_are_exact
