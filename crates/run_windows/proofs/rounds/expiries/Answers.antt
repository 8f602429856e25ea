use Rattle.std.proofs.Common.{arith}
use Rattle.run_windows.proofs.Booted.{booted_so}
use Rattle.run_windows.proofs.rounds.expiries.Goals as goal

pub returns-then-boot : goal.returns-then-boot
returns-then-boot c =
    let timed = c.if-alarm-eq0.false in
    let behind = c.saturating_sub-behind.ensures in
    let wait = c.from.ensures in
    booted_so c.args.boot c.args.alarm.now c.args.ticks c.saturating_sub-behind.result c.cyclic_expiries.result c.if-boot.true c.if-alarm.false (λ e. omega (arith, e, timed))
    (omega (arith, behind, wait, timed)) c.cyclic_expiries.ensures
