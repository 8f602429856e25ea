use Rattle.std.proofs.Common.{◌∙◌, ◌++◌, ap, ℕ}
use Rattle.debug_ways.specs.Cursor.{cursor_run}
use Rattle.debug_ways.specs.Runs.{Run}
use Rattle.debug_session.specs.Replies.{register_text}
use Rattle.debug_session.specs.Texts.{register_digits}
use Rattle.debug_session.proofs.Growing.{one_more, none_yet}
use Rattle.debug_session.proofs.replies.push_registers.Goals as goal

pub loop-number-init : goal.loop-number-init
loop-number-init g c =
    let run : Run = cursor_run g.M.Machine.run c.args.cursor.now in
    record { text = none_yet (register_text run c.args.standing.now) c.args.out.now.items; run = c.shown_thread-thread.ensures.run }

pub loop-number-preserved : goal.loop-number-preserved
loop-number-preserved g c =
    let run : Run = cursor_run g.M.Machine.run c.args.cursor.now in
    let inv = c.loop-number.invariant in
    let count : ℕ = c.args.standing.now.count in
    let out = c.loop-number.out.items in
    record {
      text = one_more (register_text run c.args.standing.now) c.loop-number.number c.args.out.now.items c.loop-number.out.items _ inv.text
          (c.in_ok-push_register.ensures
          ∙ ap (λ o. out ++ register_digits o) c.register.ensures.register
          ∙ ap (λ (r : Run). out ++ register_digits (r.register count c.shown_thread-thread.result c.loop-number.number)) inv.run
          ∙ ap (λ thread. out ++ register_digits (run.register count thread c.loop-number.number)) c.shown_thread-thread.ensures.thread);
      run = c.register.ensures.run ∙ inv.run;
    }
