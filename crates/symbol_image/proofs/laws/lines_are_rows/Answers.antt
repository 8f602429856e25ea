use Rattle.symbol_image.proofs.Matrix.{program_makes}
use Rattle.symbol_image.proofs.OneProgram.{one_matrix}
use Rattle.symbol_image.proofs.laws.lines_are_rows.Goals as goal

pub returns-clause-makes : goal.returns-clause-makes
returns-clause-makes c = program_makes

pub returns-clause-one : goal.returns-clause-one
returns-clause-one c = one_matrix
