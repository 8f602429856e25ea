use Rattle.sim_routines.proofs.entries.enter_law.Goals as goal
use Rattle.sim_routines.proofs.Enter as enter

pub returns : goal.returns
returns c = λ b state end s t place fits k sane declared e fresh has_item alone x2 ran effect.
    enter.enter_law b state end s t place fits k sane declared e fresh has_item alone x2 ran effect
