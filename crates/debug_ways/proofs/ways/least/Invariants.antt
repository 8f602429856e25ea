use Rattle.std.proofs.Common.{◌≡◌, ◌≤◌, ◌-◌}
use Rattle.debug_ways.specs.Cursor.{cursor_run}
use Rattle.debug_ways.specs.Ways.{least_behind, ends_ahead}
use Rattle.debug_ways.proofs.ways.least.Given as goal

abbrev pub invariant-loop-count : goal.invariant-loop-count
invariant-loop-count g l = record {
  run : cursor_run g.M.Machine.run l.cursor ≡ cursor_run g.M.Machine.run l.fn.cursor;
  within : l.count ≤ l.end;
  least : least_behind (ends_ahead (cursor_run g.M.Machine.run l.fn.cursor) (g.H.Hits.tests l.hits)) (l.end - l.count) l.count
      ≡ least_behind (ends_ahead (cursor_run g.M.Machine.run l.fn.cursor) (g.H.Hits.tests l.hits)) (l.end - l.fn.from) l.fn.from;
}

abbrev pub decreases-loop-count : goal.decreases-loop-count
decreases-loop-count g l = l.end - l.count
