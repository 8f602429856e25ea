use Rattle.std.proofs.Common.{◌≡◌, ◌≤◌}
use Rattle.debug_ways.specs.Cursor.{cursor_run}
use Rattle.debug_session.specs.Serving.{IsOwed, HasAnswered}
use Rattle.debug_session.proofs.serving.serve_bytes.Given as goal

abbrev pub invariant-loop-count : goal.invariant-loop-count
invariant-loop-count g l = record {
  owed : IsOwed (cursor_run g.M.Machine.run l.fn.cursor) l.names (g.I.Input.coming l.fn.input) (g.S.Sink.seen l.fn.out) l.session l.reader
      (g.I.Input.coming l.input) l._count (g.S.Sink.seen l.out);
  answered : HasAnswered (cursor_run g.M.Machine.run l.fn.cursor) l.names (g.I.Input.given l.fn.input) (g.I.Input.given l.input)
      l.fn.transcript.notes.items l.transcript.notes.items (g.S.Sink.seen l.fn.out) (g.S.Sink.seen l.out) l.session l.reader;
  run : cursor_run g.M.Machine.run l.cursor ≡ cursor_run g.M.Machine.run l.fn.cursor;
  passed : g.S.Sink.passed_on l.fn.out → g.S.Sink.passed_on l.out;
  within : l.session.standing.count ≤ (cursor_run g.M.Machine.run l.fn.cursor).end;
}
