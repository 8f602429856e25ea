use Rattle.std.proofs.Common.{◌≡◌, ◌-◌, ℕ, arith, ◌∙◌, ap}
use Rattle.debug_ways.specs.Cursor.{cursor_run}
use Rattle.debug_ways.specs.Runs.{Run}
use Rattle.debug_ways.specs.Ways.{Tests, ends_ahead, least_behind}
use Rattle.debug_ways.proofs.Searching.{least_found, least_passed}
use Rattle.debug_ways.proofs.ways.least.Goals as goal

pub returns-then-ends_ahead-clause-count : goal.returns-then-ends_ahead-clause-count
returns-then-ends_ahead-clause-count g c =
    let r : Run = cursor_run g.M.Machine.run c.args.cursor.now in
    let t : Tests = g.H.Hits.tests c.args.hits.now in
    let x : Run = cursor_run g.M.Machine.run c.loop-count.cursor in
    least_found r x t c.end-end.result c.loop-count.count c.args.from c.ends_ahead.result c.ends_ahead.ensures.ends c.loop-count.invariant.run c.if-ends_ahead.true
    c.loop-count-test.true c.loop-count.invariant.least
    ∙ ap (λ (end : ℕ). least_behind (ends_ahead r t) (end - c.args.from) c.args.from) c.end-end.ensures

pub loop-count-preserved : goal.loop-count-preserved
loop-count-preserved g c =
    let r : Run = cursor_run g.M.Machine.run c.args.cursor.now in
    let t : Tests = g.H.Hits.tests c.args.hits.now in
    let x : Run = cursor_run g.M.Machine.run c.loop-count.cursor in
    record {
      run = c.ends_ahead.ensures.run ∙ c.loop-count.invariant.run;
      within = omega (arith, c.loop-count-test.true);
      least = least_passed r x t c.end-end.result c.loop-count.count c.args.from c.ends_ahead.result c.ends_ahead.ensures.ends c.loop-count.invariant.run
          c.if-ends_ahead.false c.loop-count-test.true c.loop-count.invariant.least;
    }
