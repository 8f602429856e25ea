use Rattle.response_laws.proofs.Never.{others_never_come}
use Rattle.response_laws.proofs.laws.others_never_come.Goals as goal

pub returns : goal.returns
returns c = others_never_come
