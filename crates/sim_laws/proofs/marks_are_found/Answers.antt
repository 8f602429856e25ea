use Rattle.sim_laws.proofs.marks_are_found.Goals as goal
use Rattle.sim_laws.proofs.Items as items

pub returns : goal.returns
returns c = λ image mark rising contains. items.marks_found image mark rising contains
