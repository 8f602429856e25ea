use Rattle.std.proofs.Common.{ℕ, arith, ◌∙◌}
use Rattle.debug_ways.specs.Cursor.{cursor_run}
use Rattle.debug_ways.specs.Runs.{Run}
use Rattle.debug_ways.specs.Ways.{Tests, ends_back}
use Rattle.debug_ways.proofs.Searching.{last_more, below_more, guarded_more, ends_back_at}
use Rattle.debug_ways.proofs.ways.last_hit.Goals as goal

pub loop-count-preserved : goal.loop-count-preserved
loop-count-preserved g c =
    let r : Run = cursor_run g.M.Machine.run c.args.cursor.now in
    let t : Tests = g.H.Hits.tests c.args.hits.now in
    let k : ℕ = c.loop-count.count in
    let inv = c.loop-count.invariant in
    let found = c.count_tests-found.ensures in
    let x : Run = cursor_run g.M.Machine.run c.loop-count.cursor in
    let ends = ends_back_at r x t k c.count_tests-found.result.0 c.loop-count.guarded found.stops inv.run inv.guarded in
    record {
      below = below_more _ k c.args.to c.loop-count.last c.later-last.result c.later-last.ensures (omega (arith, c.loop-count-test.true)) inv.below;
      run = found.run ∙ inv.run;
      guarded = guarded_more r x t k c.count_tests-found.result.1 found.guards inv.run;
      last = last_more (ends_back r t) c.args.low k _ c.loop-count.last c.later-last.result (omega arith) ends inv.last c.later-last.ensures;
    }
