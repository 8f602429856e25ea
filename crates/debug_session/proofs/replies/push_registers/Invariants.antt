use Rattle.std.proofs.Common.{◌≡◌, ◌++◌}
use Rattle.debug_ways.specs.Cursor.{cursor_run}
use Rattle.debug_session.specs.Replies.{register_text}
use Rattle.debug_session.specs.Texts.{up_to}
use Rattle.debug_session.proofs.replies.push_registers.Given as goal

abbrev pub invariant-loop-number : goal.invariant-loop-number
invariant-loop-number g l = record {
  text : l.out.items ≡ l.fn.out.items ++ up_to (register_text (cursor_run g.M.Machine.run l.fn.cursor) l.standing) l.number;
  run : cursor_run g.M.Machine.run l.cursor ≡ cursor_run g.M.Machine.run l.fn.cursor;
}
