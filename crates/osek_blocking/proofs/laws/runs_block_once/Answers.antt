use Rattle.osek_blocking.proofs.Once.{block_once}
use Rattle.osek_blocking.proofs.laws.runs_block_once.Goals as goal

pub returns : goal.returns
returns c = block_once
