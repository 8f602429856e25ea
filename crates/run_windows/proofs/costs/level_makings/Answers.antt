use Rattle.std.proofs.Common.{rules, ◌≡◌}
use Rattle.run_windows.specs.FirstUntold.{level_making}
use Rattle.run_windows.proofs.Firsts.{one_further}
use Rattle.run_windows.proofs.costs.level_makings.Goals as goal

pub loop-j-preserved : goal.loop-j-preserved
loop-j-preserved c =
    let here : c.untold_making.result ≡ level_making c.args.costs.now c.args.h c.args.k c.loop-j.j = search rules in
    one_further (level_making c.args.costs.now c.args.h c.args.k) c.loop-j.j c.loop-j.found c.untold_making.result c.or-found.result c.loop-j.invariant here c.or-found.ensures
