use Rattle.run_windows.proofs.LowerBounds.{no_span, asked_solution, front_curve}
use Rattle.run_windows.proofs.curves.counts_ahead.Goals as goal

pub returns : goal.returns
returns c m more s =
    let below = c.requires.below.numbers_below m more s in
    let le = c.requires.below.counts_below m more s in
    let rounds = c.with_rounds-rounds.ensures more c.args.window.now.front m (front_curve c.args.window.now.front more) below (c.requires.rates m more s) in
    c.least_counts.ensures more
    (asked_solution c.args.costs.now c.args.window.now m more c.with_ticks.result
    (no_span c.args.window.now.span c.is_some.result c.is_some.ensures c.if-is_some.false) s (c.with_ticks.ensures more _ rounds le))
