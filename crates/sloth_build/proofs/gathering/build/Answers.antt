use Rattle.sloth_build.proofs.Ready.{may_build}
use Rattle.sloth_build.proofs.gathering.build.Goals as goal

pub image-requires : goal.image-requires
image-requires c =
    let read = c.in_ok-config.ensures in
    may_build _ _ read.well_formed read.named _ read.bounds
