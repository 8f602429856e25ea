use Rattle.debug_ways.specs.Cursor.{cursor_run}
use Rattle.debug_ways.specs.Runs.{Run}
use Rattle.debug_session.proofs.Answered.{part_first, transcribed_first}
use Rattle.debug_session.proofs.Answering.{broke_first}
use Rattle.debug_session.proofs.serving.serve.Goals as goal

pub returns-in-Err-clause-ended : goal.returns-in-Err-clause-ended
returns-in-Err-clause-ended g c =
    let run : Run = cursor_run g.M.Machine.run c.args.cursor.now in
    record {
      broke = broke_first run c.args.names.now (g.I.Input.coming c.args.input.now) (g.S.Sink.seen c.args.out.now);
      partly = part_first run c.args.names.now (g.I.Input.given c.args.input.now) (g.S.Sink.seen c.args.out.now);
      transcribed = transcribed_first run c.args.names.now (g.I.Input.given c.args.input.now) c.args.transcript.now.notes.items (g.S.Sink.seen c.args.out.now);
    }
