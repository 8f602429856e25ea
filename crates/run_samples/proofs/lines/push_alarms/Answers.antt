use Rattle.std.proofs.Common.{◌∙◌, ◌++◌, get_or, ap, sym, append_assoc, append-nil}
use Rattle.run_samples.specs.SystemText.{alarm_line, alarm_lines}
use Rattle.run_samples.proofs.Rows.{no-alarms, one-alarm-more}
use Rattle.run_samples.proofs.lines.push_alarms.Goals as goal

pub loop-alarm-init : goal.loop-alarm-init
loop-alarm-init c =
    let words = c.args.words.now in
    let text = c.args.text.now.items in
    sym (append-nil text) ∙ ap (λ lines. text ++ lines) (sym (no-alarms words))

pub loop-alarm-preserved : goal.loop-alarm-preserved
loop-alarm-preserved c =
    let words = c.args.words.now in
    let text = c.args.text.now.items in
    let k = c.loop-alarm.alarm in
    let line = alarm_line k (get_or words.alarms k 0) in
    c.in_ok-push_alarm.ensures ∙ ap (λ t. t ++ line) c.loop-alarm.invariant ∙ append_assoc text (alarm_lines words k) line
    ∙ ap (λ lines. text ++ lines) (sym (one-alarm-more words k))
