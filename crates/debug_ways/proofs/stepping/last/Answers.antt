use Rattle.std.proofs.Common.{arith}
use Rattle.debug_ways.proofs.Sides.{last_few}
use Rattle.debug_ways.proofs.stepping.last.Goals as goal

pub returns : goal.returns
returns c = last_few c.args.lines.now c.saturating_sub.result (omega (arith, c.saturating_sub.ensures))
