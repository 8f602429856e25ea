use Rattle.std.proofs.Common.{IfSome, ◌<◌, ◌≡◌, ◌≤◌, ◌-◌}
use Rattle.debug_ways.specs.Cursor.{cursor_run}
use Rattle.debug_ways.specs.Ways.{last_hit, ends_back, guards_before}
use Rattle.debug_ways.proofs.ways.last_hit.Given as goal

abbrev pub invariant-loop-count : goal.invariant-loop-count
invariant-loop-count g l = record {
  below : IfSome l.last (λ last. last < l.to);
  run : cursor_run g.M.Machine.run l.cursor ≡ cursor_run g.M.Machine.run l.fn.cursor;
  guarded : l.guarded ≡ guards_before (cursor_run g.M.Machine.run l.fn.cursor) (g.H.Hits.tests l.hits) l.count;
  last : l.last ≡ last_hit (ends_back (cursor_run g.M.Machine.run l.fn.cursor) (g.H.Hits.tests l.hits)) (l.count - l.low) l.low;
}
