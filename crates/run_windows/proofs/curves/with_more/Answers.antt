use Rattle.run_windows.proofs.LowerBounds.{curve_burst, curve_rate}
use Rattle.run_windows.proofs.curves.with_more.Goals as goal

pub returns-then-saturating_mul : goal.returns-then-saturating_mul
returns-then-saturating_mul c more x y le is h =
    curve_rate c.args.curve c.args.rate c.args.each c.times.result c.plus.result more x y c.times.ensures c.plus.ensures is h

pub returns-else-saturating_mul : goal.returns-else-saturating_mul
returns-else-saturating_mul c more x y le is h =
    curve_burst c.args.curve c.args.number c.args.each c.times-else-saturating_mul.result c.plus-else-saturating_mul.result more x y c.times-else-saturating_mul.ensures c.plus-else-saturating_mul.ensures le h
