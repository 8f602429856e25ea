use Rattle.sim_routines.proofs.entries.resume_stretch.Goals as goal
use Rattle.sim_routines.proofs.EnterRoute as route

pub returns : goal.returns
returns c = λ b passed view arrivals count t state s bound setting fits positive stands sane declared chosen some extended prologue.
    route.resume_stretch b passed view arrivals setting fits count positive state s stands bound sane t declared chosen some extended prologue
