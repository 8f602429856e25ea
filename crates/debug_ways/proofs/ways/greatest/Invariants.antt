use Rattle.std.proofs.Common.{◌≡◌, ◌≤◌, ◌-◌}
use Rattle.debug_ways.specs.Cursor.{cursor_run}
use Rattle.debug_ways.specs.Ways.{greatest_below, ends_back}
use Rattle.debug_ways.proofs.ways.greatest.Given as goal

abbrev pub invariant-loop-to : goal.invariant-loop-to
invariant-loop-to g l = record {
  run : cursor_run g.M.Machine.run l.cursor ≡ cursor_run g.M.Machine.run l.fn.cursor;
  within : l.to ≤ l.fn.below;
  wide : 1 ≤ l.width;
  greatest : greatest_below (ends_back (cursor_run g.M.Machine.run l.fn.cursor) (g.H.Hits.tests l.hits)) l.to
      ≡ greatest_below (ends_back (cursor_run g.M.Machine.run l.fn.cursor) (g.H.Hits.tests l.hits)) l.fn.below;
}

abbrev pub decreases-loop-to : goal.decreases-loop-to
decreases-loop-to g l = l.to
