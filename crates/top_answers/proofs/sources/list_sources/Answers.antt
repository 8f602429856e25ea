use Rattle.sloth_build.proofs.Ready.{may_build}
use Rattle.top_answers.proofs.sources.list_sources.Goals as goal

pub list_meaning-requires : goal.list_meaning-requires
list_meaning-requires c =
    let source = c.in_ok-source.source in
    let read = c.in_ok-source.ensures in
    may_build source.config source.app read.well_formed read.named source.bounds read.bounds
