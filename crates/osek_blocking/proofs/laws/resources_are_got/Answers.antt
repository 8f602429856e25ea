use Rattle.osek_blocking.proofs.Protocol.{always_gets}
use Rattle.osek_blocking.proofs.laws.resources_are_got.Goals as goal

pub returns : goal.returns
returns c = always_gets
