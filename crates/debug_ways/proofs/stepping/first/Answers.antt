use Rattle.std.proofs.Common.{arith}
use Rattle.debug_ways.proofs.Sides.{first_few, first_eight}
use Rattle.debug_ways.proofs.stepping.first.Goals as goal

pub returns-then-lines-lt-SIDE : goal.returns-then-lines-lt-SIDE
returns-then-lines-lt-SIDE c = first_few c.args.lines.now (omega (arith, c.if-lines-lt-SIDE.true))

pub returns : goal.returns
returns c = first_eight c.args.lines.now
