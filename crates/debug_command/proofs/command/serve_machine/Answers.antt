use Rattle.std.proofs.Common.{subst}
use Rattle.debug_ways.specs.Runs.{Run}
use Rattle.debug_session.specs.Serving.{HasEnded}
use Rattle.debug_session.proofs.Answered.{part_first, transcribed_first}
use Rattle.debug_session.proofs.Answering.{broke_first}
use Rattle.debug_command.proofs.command.serve_machine.Goals as goal

pub returns-in-Ok-clause-ended : goal.returns-in-Ok-clause-ended
returns-in-Ok-clause-ended g c =
    let coming = g.I.Input.coming c.args.input.now in
    let old = g.I.Input.given c.args.input.now in
    let new = g.I.Input.given c.serve.new.input in
    let first = c.args.transcript.now.notes.items in
    let last = c.serve.new.transcript.notes.items in
    let before = g.S.Sink.seen c.args.out.now in
    let now = g.S.Sink.seen c.serve.new.out in
    let R : Run → Type 0 = λ run. HasEnded run c.args.names.now coming old new first last before now c.serve.result in
    subst R c.in-Ok.ensures c.serve.ensures.ended

pub returns-in-Err-clause-ended : goal.returns-in-Err-clause-ended
returns-in-Err-clause-ended g c = record {
  broke = broke_first (g.M.Machine.run c.args.machine) c.args.names.now (g.I.Input.coming c.args.input.now) (g.S.Sink.seen c.args.out.now);
  partly = part_first (g.M.Machine.run c.args.machine) c.args.names.now (g.I.Input.given c.args.input.now) (g.S.Sink.seen c.args.out.now);
  transcribed = transcribed_first (g.M.Machine.run c.args.machine) c.args.names.now (g.I.Input.given c.args.input.now) c.args.transcript.now.notes.items (g.S.Sink.seen c.args.out.now);
}
