use Rattle.sloth_build.proofs.Ready.{may_build}
use Rattle.symbol_build.proofs.building.symbols_file.Goals as goal

pub planned_file-requires-clause-may : goal.planned_file-requires-clause-may
planned_file-requires-clause-may c =
    let read = c.in_ok-config.ensures in
    may_build _ _ read.well_formed read.named _ read.bounds

pub returns-clause-file : goal.returns-clause-file
returns-clause-file c =
    let read = c.in_ok-config.field-0 in
    let file = c.in_ok-file.ensures in
    record { config = read.config; app = read.app; image = file.0; accepted = c.in_ok-config.ensures.accepted; of_image = file.1 }
