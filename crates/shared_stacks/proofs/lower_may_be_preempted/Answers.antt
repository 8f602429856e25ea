use Rattle.shared_stacks.proofs.lower_may_be_preempted.Goals as goal
use Rattle.shared_stacks.proofs.Together.{lower_may}

pub returns : goal.returns
returns c = λ config app s t u v owes lt lu active over. lower_may config app s v owes t u lt lu active over
