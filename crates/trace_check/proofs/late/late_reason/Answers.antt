use Rattle.std.proofs.Common.{arith}
use Rattle.trace_check.proofs.Explained.{missing, none_differs}
use Rattle.trace_check.proofs.late.late_reason.Goals as goal

pub returns-then-moment-n : goal.returns-then-moment-n
returns-then-moment-n c =
    let past = c.if-moment-n.true in
    none_differs c.args.n c.args.arrivals.now c.args.events.now c.front_in_place-count.result c.in_ok-number.number c.front_in_place-count.ensures c.in_ok-number.ensures c.requires.late
    (omega (arith, past))

pub returns : goal.returns
returns c =
    let word = c.ranges.n.fits in
    let inside = c.if-moment-n.false in
    let all = c.if-count-events.false in
    missing c.args.n c.args.arrivals.now c.args.events.now c.front_in_place-count.result c.in_ok-number.number c.front_in_place-count.ensures c.in_ok-number.ensures c.requires.late
    (omega (arith, word)) (omega (arith, inside)) c.in_default.ensures.none c.in_default-passing_place.ensures.none (omega (arith, all))
