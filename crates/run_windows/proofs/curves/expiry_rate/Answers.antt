use Rattle.std.proofs.Common.{arith}
use Rattle.run_windows.specs.Arrivals.{expiries}
use Rattle.run_windows.proofs.LowerBounds.{no_rate, set_rate, cyclic_rate}
use Rattle.run_windows.proofs.curves.expiry_rate.Goals as goal

pub returns-then-alarm : goal.returns-then-alarm
returns-then-alarm c counts x h = set_rate c.args.boot c.args.alarm.now counts x c.args.ticks c.if-alarm.true h

pub returns : goal.returns
returns c counts x h =
    let timed = c.if-alarm-eq0.false in
    cyclic_rate c.args.boot c.args.alarm.now counts x c.arrival_rate.result c.if-alarm.false c.if-boot.false (λ e. omega (arith, e, timed)) (c.arrival_rate.ensures counts x h)
