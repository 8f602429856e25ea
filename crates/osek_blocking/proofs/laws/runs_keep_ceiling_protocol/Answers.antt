use Rattle.osek_blocking.proofs.Protocol.{keeps_protocol}
use Rattle.osek_blocking.proofs.laws.runs_keep_ceiling_protocol.Goals as goal

pub returns : goal.returns
returns c = keeps_protocol
