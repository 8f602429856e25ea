use Rattle.std.proofs.Common.{ℕ, ◌≡◌, ◌<◌, arith}
use Rattle.run_windows.proofs.LowerBounds.{asked, none_asked}
use Rattle.run_windows.proofs.curves.least_counts.Goals as goal

pub returns-then-curve-lt-RATE_SPAN : goal.returns-then-curve-lt-RATE_SPAN
returns-then-curve-lt-RATE_SPAN c more h =
    let e = c.saturating_mul.ensures in asked c.args.curve c.saturating_mul.result more c.if-curve-lt-RATE_SPAN.true (omega (arith, e)) h

pub returns-then-curve-eq0 : goal.returns-then-curve-eq0
returns-then-curve-eq0 c more h = omega arith

pub returns-else-curve-eq0 : goal.returns-else-curve-eq0
returns-else-curve-eq0 c more h =
    let le = c.if-curve-lt-RATE_SPAN.false in
    let some = c.if-curve-eq0.false in
    absurd (none_asked c.args.curve more (omega (arith, le)) (omega (arith, some)) h)
