use Rattle.std.proofs.Common.{ℕ, ◌<◌, List, length, sym, subst, arith}
use Rattle.run_windows.specs.declared.costs.Made.{Made}
use Rattle.run_windows.specs.Settling.{IsMet}
use Rattle.run_windows.proofs.Settling.{zeros_below, settled, risen, raised, above}
use Rattle.run_windows.proofs.LowerBounds.{no_rates}
use Rattle.run_windows.proofs.responses.settle.Goals as goal

pub loop-numbers-init : goal.loop-numbers-init
loop-numbers-init c =
    let count = c.requires.count in
    let same = c.loop-made.auto.numbers in
    record {
      below = zeros_below c.args.costs.now c.args.window.now c.loop-made.numbers (omega (arith, count, same)) (λ k lt. c.loop-made.invariant k (omega (arith, lt, same)));
      within = omega arith;
      rates = no_rates c.args.costs.now c.args.window.now 30;
    }

pub returns-then-has_cycle-clause-found : goal.returns-then-has_cycle-clause-found
returns-then-has_cycle-clause-found c m more s = absurd (c.has_cycle.ensures c.if-has_cycle.true m more s)

pub pass-grown-requires : goal.pass-grown-requires
pass-grown-requires c = record {
  below =
      raised c.args.costs.now c.args.window.now c.loop-numbers.numbers c.loop-numbers.counts c.counts_ahead.result c.max-from.result c.loop-numbers.invariant.below
      c.counts_ahead.ensures c.max-from.ensures;
}

pub returns-then-limit-from-clause-found : goal.returns-then-limit-from-clause-found
returns-then-limit-from-clause-found c m more s =
    let ahead = c.counts_ahead.ensures m more s in
    let below = c.loop-numbers.invariant.below.counts_below m more s in
    let e = c.max-from.ensures in
    let lt = c.if-limit-from.true in
    omega (arith, ahead, below, e, lt)

pub returns-then-limit-filled-clause-found : goal.returns-then-limit-filled-clause-found
returns-then-limit-filled-clause-found c =
    let e = c.window_counts-filled.ensures in
    let lt = c.if-limit-filled.true in
    let top = c.requires.limit in
    above c.args.costs.now c.args.window.now c.pass-grown.new.numbers c.max-from.result c.args.limit top c.pass-grown.ensures.below (omega (arith, e, lt, top))

pub returns-then-filled-from-clause-found : goal.returns-then-filled-from-clause-found
returns-then-filled-from-clause-found c =
    let costs = c.args.costs.now in
    let w = c.args.window.now in
    let new : List Made = c.pass-grown.new.numbers in
    let from : ℕ = c.max-from.result in
    let g = c.if-not-grown.ensures.grown in
    let met : (j : ℕ) → j < length costs.tasks → IsMet costs w new from j = λ j lt. subst (λ (l : List Made). IsMet costs w l from j) (sym g.0) (g.1 j lt) in
    let e = c.window_counts-filled.ensures in
    let le = c.if-filled-from.true in
    let within = c.if-limit-from.false in
    (settled costs w new from c.args.limit c.requires.costs c.pass-grown.ensures.below c.requires.limit (omega (arith, within)) met (omega (arith, e, le)), omega (arith, within))

pub loop-numbers-preserved : goal.loop-numbers-preserved
loop-numbers-preserved c =
    let e = c.max-counts.ensures in
    let within = c.if-limit-from.false in
    let more = c.if-limit-filled.false in
    record {
      below = risen c.args.costs.now c.args.window.now c.pass-grown.new.numbers c.max-from.result c.window_counts-filled.result c.max-counts.result c.pass-grown.ensures.below c.window_counts-filled.ensures c.max-counts.ensures;
      within = omega (arith, e, within, more);
      rates = c.raise_rates.ensures;
    }
