use Rattle.orti_text.proofs.OwnTables.{files_read_back}
use Rattle.orti_text.proofs.laws.files_read_back.Goals as goal

pub returns : goal.returns
returns c = files_read_back
