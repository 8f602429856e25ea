use Rattle.orti_text.proofs.TableReading.{tables_read_back}
use Rattle.orti_text.proofs.laws.tables_read_back.Goals as goal

pub returns : goal.returns
returns c = tables_read_back
