use Rattle.std.proofs.Common.{rules, ◌≡◌}
use Rattle.run_windows.specs.FirstUntold.{joined_making, making_of_joined}
use Rattle.run_windows.proofs.Firsts.{one_further}
use Rattle.run_windows.proofs.costs.untold_joined.Goals as goal

pub loop-j-preserved : goal.loop-j-preserved
loop-j-preserved c =
    let own : c.untold_making.result ≡ joined_making c.args.costs.now c.args.h c.args.k c.loop-j.j = search rules in
    let other : c.untold_making-in-loop-j.result ≡ making_of_joined c.args.costs.now c.args.h c.args.k c.loop-j.j = search rules in
    record {
      makings = one_further (joined_making c.args.costs.now c.args.h c.args.k) c.loop-j.j c.loop-j.makings c.untold_making.result c.or-makings.result c.loop-j.invariant.makings own c.or-makings.ensures;
      makers = one_further (making_of_joined c.args.costs.now c.args.h c.args.k) c.loop-j.j c.loop-j.makers c.untold_making-in-loop-j.result c.or-makers.result c.loop-j.invariant.makers other c.or-makers.ensures;
    }
