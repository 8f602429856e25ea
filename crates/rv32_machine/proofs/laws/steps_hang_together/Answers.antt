use Rattle.rv32_machine.proofs.Coherence.{coherent}
use Rattle.rv32_machine.proofs.laws.steps_hang_together.Goals as goal

pub returns : goal.returns
returns c n arrivals start = coherent n arrivals 0 start
