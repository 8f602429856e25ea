use Rattle.sim_routines.proofs.ticks.tick_stretch.Goals as goal
use Rattle.sim_routines.proofs.TickRoute.{stretches}

pub returns : goal.returns
returns c = λ b view arrivals count counter state s setting fits after_boot stands chosen may tick.
    stretches b view arrivals setting fits count after_boot state s stands counter chosen may tick
