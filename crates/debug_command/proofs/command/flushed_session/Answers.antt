use Rattle.debug_ways.specs.Runs.{Run}
use Rattle.debug_view.specs.ShownRun.{run_of}
use Rattle.debug_command.proofs.Ending.{answered_before, broke_before, handed_behind, transcribed_before}
use Rattle.debug_command.proofs.command.flushed_session.Goals as goal

pub returns-in-Err-clause-ended : goal.returns-in-Err-clause-ended
returns-in-Err-clause-ended g c =
    let run : Run = run_of c.args.image.now c.args.arrivals.now in
    let now = g.S.Sink.seen c.flush.new.self in
    record {
      broke = broke_before run c.args.image.now.tasks (g.I.Input.coming c.args.input.now) (g.S.Sink.seen c.args.out.now) now c.in-Err.ensures.err;
      partly = answered_before run c.args.image.now.tasks (g.I.Input.given c.args.input.now) (g.S.Sink.seen c.args.out.now) now c.in-Err.ensures.err;
      transcribed = transcribed_before run c.args.image.now.tasks (g.I.Input.given c.args.input.now) c.args.transcript.now.notes.items (g.S.Sink.seen c.args.out.now) now c.in-Err.ensures.err;
    }

pub returns-in-Ok-clause-passed : goal.returns-in-Ok-clause-passed
returns-in-Ok-clause-passed g c =
    handed_behind c.session.result (g.S.Sink.passed_on c.flush.new.self) (g.S.Sink.passed_on c.session.new.out) c.in-Ok.ensures.passed c.session.ensures.passed
