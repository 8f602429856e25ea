use Rattle.orti_text.proofs.NamesApart.{names_differ}
use Rattle.orti_text.proofs.laws.names_differ.Goals as goal

pub returns : goal.returns
returns c = names_differ
