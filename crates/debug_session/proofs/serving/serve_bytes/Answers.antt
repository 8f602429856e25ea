use Rattle.std.proofs.Common.{◌≡◌, ◌≤◌, ◌∙◌, ℕ, List, [], ◌∷◌, ◌++◌, refl, sym, ap, subst, append-nil, arith}
use Rattle.sloth_io.specs.Sink.{GainsPart, output_with}
use Rattle.debug_ways.specs.Cursor.{cursor_run}
use Rattle.debug_ways.specs.Runs.{Run}
use Rattle.debug_session.specs.Serving.{event_answer, behind_event}
use Rattle.debug_session.specs.Sessions.{Session}
use Rattle.debug_session.specs.Transcripts.{Write}
use Rattle.debug_session.proofs.Answered.{answered_end, answered_first, answered_in_part, answered_more, answered_whole, transcribed_end, transcribed_in_part, transcribed_wanting, written_in_part}
use Rattle.debug_session.proofs.Answering.{IsByte, owed_first, owed_more, owed_over, owed_end, broke_reading, broke_counting, broke_wanting, broke_writing}
use Rattle.debug_session.proofs.serving.serve_bytes.Goals as goal

pub returns-then-is_over-clause-ended : goal.returns-then-is_over-clause-ended
returns-then-is_over-clause-ended g c = record {
  whole = owed_over _ _ _ _ _ _ _ _ _ c.loop-count.invariant.owed (sym c.is_over.ensures ∙ c.if-is_over.true);
  answered = answered_whole _ _ _ _ _ _ _ _ _ _ c.loop-count.invariant.answered;
  transcribed = c.loop-count.invariant.answered.so_far;
}

pub returns-in-Ok-None-clause-ended : goal.returns-in-Ok-None-clause-ended
returns-in-Ok-None-clause-ended g c =
    let none = rw c.in-Ok-None.field-0-is at c.in-Ok-None.ensures.given in
    let ends = rw c.in-Ok-None.field-0-is at c.in-Ok-None.ensures.end in
    let asked = rw c.in-Ok-None.field-0-is at c.in-Ok-None.ensures.noted in
    let same = none ∙ append-nil (g.I.Input.given c.loop-count.input) in
    record {
      whole = owed_end _ _ _ _ _ _ _ _ _ _ _ c.loop-count.invariant.owed ends;
      answered = answered_end _ _ _ _ _ _ _ _ _ _ c.loop-count.invariant.answered _ _ same asked;
      transcribed = transcribed_end _ _ _ _ _ _ _ _ _ _ c.loop-count.invariant.answered _ _ same asked;
    }

pub returns-in-Err-clause-ended : goal.returns-in-Err-clause-ended
returns-in-Err-clause-ended g c =
    let k = c.in-Err.ensures in
    record {
      broke = broke_reading _ _ _ _ _ _ _ _ _ _ c.loop-count.invariant.owed k.err;
      partly = answered_end _ _ _ _ _ _ _ _ _ _ c.loop-count.invariant.answered _ _ k.kept_given k.noted_fault;
      transcribed = transcribed_end _ _ _ _ _ _ _ _ _ _ c.loop-count.invariant.answered _ _ k.kept_given k.noted_fault;
    }

pub returns-in-Err-answer-clause-ended : goal.returns-in-Err-answer-clause-ended
returns-in-Err-answer-clause-ended g c =
    let run : Run = cursor_run g.M.Machine.run c.args.cursor.now in
    let inv = c.loop-count.invariant in
    let session : Session = c.loop-count.session in
    let byte = rw c.in-Ok-Some.field-0-is at c.in-Ok-Some.ensures.byte in
    let given = rw c.in-Ok-Some.field-0-is at c.in-Ok-Some.ensures.given in
    let asked = rw c.in-Ok-Some.field-0-is at c.in-Ok-Some.ensures.noted in
    let next : Session = behind_event run c.args.names.now session c.take-event.result c.take-event.new.self.content in
    let is : IsByte run c.args.names.now (g.I.Input.coming c.loop-count.input) (g.I.Input.coming c.next.new.input) session next
    c.loop-count.reader c.take-event.new.self c.take-event.result c.in-Ok-Some.byte
    = record {
      on = sym c.is_over.ensures ∙ c.if-is_over.false;
      gives = byte;
      event_is = c.take-event.ensures.event;
      reading_is = c.take-event.ensures.reading;
      next_is = refl;
    } in
    record {
      broke = broke_wanting run _ _ _ _ _ _ _ _ _ _ _ _ _ inv.owed is;
      partly = answered_in_part run _ _ _ _ _ _ _ _ _ inv.answered _ _ _ _ _ c.in-Ok-Some.byte _ _ is given asked;
      transcribed = transcribed_wanting run _ _ _ _ _ _ _ _ _ inv.answered _ _ _ _ _ c.in-Ok-Some.byte _ _ is given asked;
    }

pub returns-in-Err-deliver-clause-ended : goal.returns-in-Err-deliver-clause-ended
returns-in-Err-deliver-clause-ended g c =
    let run : Run = cursor_run g.M.Machine.run c.args.cursor.now in
    let inv = c.loop-count.invariant in
    let session : Session = c.loop-count.session in
    let byte = rw c.in-Ok-Some.field-0-is at c.in-Ok-Some.ensures.byte in
    let given = rw c.in-Ok-Some.field-0-is at c.in-Ok-Some.ensures.given in
    let asked = c.in-Err-deliver.ensures.kept ∙ (rw c.in-Ok-Some.field-0-is at c.in-Ok-Some.ensures.noted) in
    let next : Session = behind_event run c.args.names.now session c.take-event.result c.take-event.new.self.content in
    let is : IsByte run c.args.names.now (g.I.Input.coming c.loop-count.input) (g.I.Input.coming c.next.new.input) session next
    c.loop-count.reader c.take-event.new.self c.take-event.result c.in-Ok-Some.byte
    = record {
      on = sym c.is_over.ensures ∙ c.if-is_over.false;
      gives = byte;
      event_is = c.take-event.ensures.event;
      reading_is = c.take-event.ensures.reading;
      next_is = refl;
    } in
    let text : c.as_slice.result.now ≡ event_answer run c.args.names.now session c.take-event.result c.take-event.new.self.content =
    c.as_slice.ensures.value ∙ c.in-Ok.ensures.text
    ∙ ap (λ (first : List ℕ). first ++ event_answer (cursor_run g.M.Machine.run c.loop-count.cursor) c.args.names.now session c.take-event.result c.content.result.now)
    c.new-due.ensures.items
    ∙ ap (λ r. event_answer r c.args.names.now session c.take-event.result c.content.result.now) inv.run
    ∙ ap (λ content. event_answer run c.args.names.now session c.take-event.result content) c.content.ensures in
    let P : List ℕ → Type 0 = λ due. GainsPart (g.S.Sink.seen c.loop-count.out) (g.S.Sink.seen c.deliver.new.out) due in
    let broken = subst P text c.in-Err-deliver.ensures.part in
    record {
      broke = broke_writing run _ _ _ _ _ _ _ _ _ _ _ _ _ _ inv.owed is broken;
      partly = written_in_part run _ _ _ _ _ _ _ _ _ inv.answered _ _ _ _ _ c.in-Ok-Some.byte _ _ is given asked _ broken;
      transcribed = transcribed_in_part run _ _ _ _ _ _ _ _ _ inv.answered _ _ _ _ _ c.in-Ok-Some.byte _ _ is given asked _ broken;
    }

pub returns-clause-ended : goal.returns-clause-ended
returns-clause-ended g c = record {
  broke = broke_counting _ _ _ _ _ _ _ _ c.loop-count._count c.loop-count.invariant.owed (omega (arith, c.loop-count-test.false));
  partly = answered_whole _ _ _ _ _ _ _ _ _ _ c.loop-count.invariant.answered;
  transcribed = c.loop-count.invariant.answered.so_far;
}

pub loop-count-init : goal.loop-count-init
loop-count-init g c =
    let run : Run = cursor_run g.M.Machine.run c.args.cursor.now in
    let W : Session → Type 0 = λ s. s.standing.count ≤ run.end in
    record {
      owed = owed_first run c.args.names.now (g.I.Input.coming c.args.input.now) (g.S.Sink.seen c.args.out.now) c.new-session.result c.args.reader.now
          c.new-session.ensures c.requires.fresh;
      answered = answered_first run c.args.names.now (g.I.Input.given c.args.input.now) c.args.transcript.now.notes.items (g.S.Sink.seen c.args.out.now)
          c.new-session.result c.args.reader.now c.new-session.ensures c.requires.fresh;
      run = refl;
      passed = λ before. before;
      within = subst W (sym c.new-session.ensures) (omega arith);
    }

pub loop-count-preserved : goal.loop-count-preserved
loop-count-preserved g c =
    let run : Run = cursor_run g.M.Machine.run c.args.cursor.now in
    let inv = c.loop-count.invariant in
    let session : Session = c.loop-count.session in
    let byte = rw c.in-Ok-Some.field-0-is at c.in-Ok-Some.ensures.byte in
    let given = rw c.in-Ok-Some.field-0-is at c.in-Ok-Some.ensures.given in
    let asked = rw c.in-Ok-Some.field-0-is at c.in-Ok-Some.ensures.noted in
    let k = c.in-Ok.ensures in
    let h = c.in-Ok-deliver.ensures in
    let is : IsByte run c.args.names.now (g.I.Input.coming c.loop-count.input) (g.I.Input.coming c.next.new.input) session c.answer.new.self
    c.loop-count.reader c.take-event.new.self c.take-event.result c.in-Ok-Some.byte
    = record {
      on = sym c.is_over.ensures ∙ c.if-is_over.false;
      gives = byte;
      event_is = c.take-event.ensures.event;
      reading_is = c.take-event.ensures.reading;
      next_is = k.session ∙ ap (λ r. behind_event r c.args.names.now session c.take-event.result c.content.result.now) inv.run
          ∙ ap (λ content. behind_event run c.args.names.now session c.take-event.result content) c.content.ensures;
    } in
    let text : c.as_slice.result.now ≡ event_answer run c.args.names.now session c.take-event.result c.take-event.new.self.content =
    c.as_slice.ensures.value ∙ k.text
    ∙ ap (λ (first : List ℕ). first ++ event_answer (cursor_run g.M.Machine.run c.loop-count.cursor) c.args.names.now session c.take-event.result c.content.result.now)
    c.new-due.ensures.items
    ∙ ap (λ r. event_answer r c.args.names.now session c.take-event.result c.content.result.now) inv.run
    ∙ ap (λ content. event_answer run c.args.names.now session c.take-event.result content) c.content.ensures in
    let put = h.whole ∙ ap (λ due. output_with (g.S.Sink.seen c.loop-count.out) due) text in
    let noted = h.noted ∙ ap (λ due. c.next.new.self.notes.items ++ Write due ∷ []) text in
    let W : Run → Type 0 = λ r. c.answer.new.self.standing.count ≤ r.end in
    record {
      owed = owed_more run _ _ _ _ _ _ _ _ _ _ _ _ _ _ inv.owed is put;
      answered = answered_more run _ _ _ _ _ _ _ _ _ inv.answered _ _ _ _ _ c.in-Ok-Some.byte _ _ is given asked _ _ noted put;
      run = k.run ∙ inv.run;
      passed = λ before. h.passed (inv.passed before);
      within = subst W inv.run k.within;
    }
