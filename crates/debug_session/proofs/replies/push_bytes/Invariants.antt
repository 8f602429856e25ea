use Rattle.std.proofs.Common.{◌≡◌, ◌+◌, ◌-◌, ◌++◌}
use Rattle.debug_ways.specs.Cursor.{cursor_run}
use Rattle.debug_session.specs.Replies.{bytes_from}
use Rattle.debug_session.proofs.replies.push_bytes.Given as goal

abbrev pub invariant-loop-place : goal.invariant-loop-place
invariant-loop-place g l = record {
  bytes : l.out.items ++ bytes_from ((cursor_run g.M.Machine.run l.fn.cursor).byte l.count) (l.length - l.place) (l.address + l.place)
      ≡ l.fn.out.items ++ bytes_from ((cursor_run g.M.Machine.run l.fn.cursor).byte l.count) l.length l.address;
  run : cursor_run g.M.Machine.run l.cursor ≡ cursor_run g.M.Machine.run l.fn.cursor;
}
