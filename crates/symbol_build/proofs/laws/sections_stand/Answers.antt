use Rattle.symbol_build.proofs.Standing.{names_stand, sections_stand}
use Rattle.symbol_build.proofs.laws.sections_stand.Goals as goal

pub returns-clause-bytes : goal.returns-clause-bytes
returns-clause-bytes c = sections_stand

pub returns-clause-names : goal.returns-clause-names
returns-clause-names c = names_stand
