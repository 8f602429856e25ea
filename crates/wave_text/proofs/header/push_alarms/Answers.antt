use Rattle.std.proofs.Common.{◌∙◌, ◌+◌, ◌++◌, List, ℕ, ap, sym, append_assoc, append-nil}
use Rattle.wave_text.specs.declared.signals.Scope.TheVariants as scope
use Rattle.wave_text.specs.Header.{variable_line, alarm_name, alarm_lines}
use Rattle.wave_text.specs.Signals.{first_code, signal_width}
use Rattle.wave_text.proofs.Declaring.{no-alarms, alarms-more}
use Rattle.wave_text.proofs.header.push_alarms.Goals as goal

pub loop-alarm-init : goal.loop-alarm-init
loop-alarm-init c =
    let text = c.args.text.now.items in
    sym (append-nil text) ∙ ap (λ lines. text ++ lines) (sym no-alarms)

pub loop-alarm-preserved : goal.loop-alarm-preserved
loop-alarm-preserved c =
    let text = c.args.text.now.items in
    let k = c.loop-alarm.alarm in
    let line : List ℕ = variable_line (signal_width scope.Alarms) (first_code scope.Alarms + k) (alarm_name k) in
    c.in_ok-push_alarm.ensures ∙ ap (λ t. t ++ line) c.loop-alarm.invariant ∙ append_assoc text (alarm_lines k) line
    ∙ ap (λ lines. text ++ lines) (sym (alarms-more k))
