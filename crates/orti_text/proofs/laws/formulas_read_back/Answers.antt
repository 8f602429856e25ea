use Rattle.orti_text.proofs.FormulaReading.{formulas_read_back}
use Rattle.orti_text.proofs.laws.formulas_read_back.Goals as goal

pub returns : goal.returns
returns c = formulas_read_back
