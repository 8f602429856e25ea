use Rattle.run_windows.proofs.Settling.{grown_so}
use Rattle.run_windows.proofs.responses.grow.Goals as goal

pub returns-clause-below : goal.returns-clause-below
returns-clause-below c =
    grown_so c.args.costs.now c.args.window.now c.args.numbers.now c.args.counts c.requires.below c.args.j c.requires.inside c.made_within-made.result
    c.max.result c.max-2.result c.made_within-made.ensures c.max.ensures c.max-2.ensures
