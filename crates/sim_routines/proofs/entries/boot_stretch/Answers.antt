use Rattle.sim_routines.proofs.entries.boot_stretch.Goals as goal
use Rattle.sim_routines.proofs.BootRoute as route

pub returns : goal.returns
returns c = λ b view arrivals image setting fits is boot. route.boot_stretch b view arrivals setting image fits is boot
