use Rattle.symbol_build.proofs.Rows.{source_lines_are_rows}
use Rattle.symbol_build.proofs.laws.source_lines_are_rows.Goals as goal

pub returns : goal.returns
returns c = source_lines_are_rows
