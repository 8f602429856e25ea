use Rattle.sim_routines.proofs.entries.enter_stretch.Goals as goal
use Rattle.sim_routines.proofs.EnterRoute as route

pub returns : goal.returns
returns c = λ b passed view arrivals count t state s bound setting fits positive stands sane declared chosen fresh alone prologue.
    route.enter_stretch b passed view arrivals setting fits count positive state s stands bound sane t declared chosen fresh alone prologue
