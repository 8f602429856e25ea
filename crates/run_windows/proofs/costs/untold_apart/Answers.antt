use Rattle.std.proofs.Common.{rules, ◌≡◌}
use Rattle.run_windows.specs.FirstUntold.{untold_section_making}
use Rattle.run_windows.proofs.Firsts.{one_further}
use Rattle.run_windows.proofs.costs.untold_apart.Goals as goal

pub loop-j-preserved : goal.loop-j-preserved
loop-j-preserved c =
    let here : c.unless_told.result ≡ untold_section_making c.args.costs.now c.args.h c.args.k c.loop-j.j = search rules in
    one_further (untold_section_making c.args.costs.now c.args.h c.args.k) c.loop-j.j c.loop-j.makings c.unless_told.result c.or-makings.result c.loop-j.invariant here c.or-makings.ensures
