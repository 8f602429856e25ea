use Rattle.osek_blocking.proofs.Protocol.{exclude}
use Rattle.osek_blocking.proofs.laws.runs_exclude.Goals as goal

pub returns : goal.returns
returns c = λ config app events w run. exclude config app events w
