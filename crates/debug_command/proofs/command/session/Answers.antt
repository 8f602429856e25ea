use Rattle.std.proofs.Common.{ℕ, List, subst}
use Rattle.debug_session.specs.Serving.{HasEnded}
use Rattle.debug_ways.specs.Runs.{Run}
use Rattle.debug_view.specs.ShownRun.{run_of}
use Rattle.debug_view.specs.Standing.{Standing}
use Rattle.debug_view.proofs.Standing.{ends_in_limit}
use Rattle.debug_session.proofs.Answered.{part_first, transcribed_first}
use Rattle.debug_session.proofs.Answering.{broke_first}
use Rattle.debug_command.proofs.command.session.Goals as goal

pub serve_machine-requires-clause-short : goal.serve_machine-requires-clause-short
serve_machine-requires-clause-short g c = ends_in_limit c.in-Ok.place.image c.in-Ok.place.arrivals

pub returns-in-Err-clause-ended : goal.returns-in-Err-clause-ended
returns-in-Err-clause-ended g c =
    let run : Run = run_of c.args.image.now c.args.arrivals.now in
    record {
      broke = broke_first run c.args.image.now.tasks (g.I.Input.coming c.args.input.now) (g.S.Sink.seen c.args.out.now);
      partly = part_first run c.args.image.now.tasks (g.I.Input.given c.args.input.now) (g.S.Sink.seen c.args.out.now);
      transcribed = transcribed_first run c.args.image.now.tasks (g.I.Input.given c.args.input.now) c.args.transcript.now.notes.items (g.S.Sink.seen c.args.out.now);
    }

pub returns-in-Ok-clause-ended : goal.returns-in-Ok-clause-ended
returns-in-Ok-clause-ended g c =
    let coming = g.I.Input.coming c.args.input.now in
    let old = g.I.Input.given c.args.input.now in
    let new = g.I.Input.given c.serve_machine.new.input in
    let first = c.args.transcript.now.notes.items in
    let last = c.serve_machine.new.transcript.notes.items in
    let before = g.S.Sink.seen c.args.out.now in
    let now = g.S.Sink.seen c.serve_machine.new.out in
    let P : Standing → Type 0 = λ place. HasEnded (run_of place.image place.arrivals) c.items.result.now coming old new first last before now c.serve_machine.result in
    let N : List (List ℕ) → Type 0 = λ names. HasEnded (run_of c.args.image.now c.args.arrivals.now) names coming old new first last before now c.serve_machine.result in
    subst N c.items.ensures (subst P c.in-Ok.ensures c.serve_machine.ensures.ended)
