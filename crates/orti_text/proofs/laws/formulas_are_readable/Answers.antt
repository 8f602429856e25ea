use Rattle.orti_text.proofs.Places.{formulas_are_readable}
use Rattle.orti_text.proofs.laws.formulas_are_readable.Goals as goal

pub returns : goal.returns
returns c = formulas_are_readable
