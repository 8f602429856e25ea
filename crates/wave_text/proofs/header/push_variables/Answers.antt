use Rattle.std.proofs.Common.{◌≡◌, ◌∙◌, ◌+◌, ◌++◌, [], ap, sym, get_or, append_assoc, append-nil}
use Rattle.std.proofs.lemmas.List.{get_or_default}
use Rattle.wave_text.specs.Header.{variable_line, variable_lines}
use Rattle.wave_text.specs.Signals.{first_code, signal_width}
use Rattle.wave_text.proofs.Declaring.{no-variables, variables-more}
use Rattle.wave_text.proofs.header.push_variables.Goals as goal

pub loop-task-init : goal.loop-task-init
loop-task-init c =
    let front = c.args.text.now.items in
    sym (append-nil front) ∙ ap (λ lines. front ++ lines) (sym (no-variables c.args.scope c.args.names.now))

pub loop-task-preserved : goal.loop-task-preserved
loop-task-preserved c =
    let s = c.args.scope in
    let names = c.args.names.now in
    let k = c.loop-task.task in
    let front = c.args.text.now.items in
    let line : c.variable_line-line.result ≡ variable_line (signal_width s) (first_code s + k) (get_or names k []) =
    c.variable_line-line.ensures ∙ ap (λ w. variable_line w (c.first_code.result + k) c.bytes.result.now) c.signal_width.ensures
    ∙ ap (λ n. variable_line (signal_width s) (n + k) c.bytes.result.now) c.first_code.ensures.is
    ∙ ap (variable_line (signal_width s) (first_code s + k)) (c.bytes.ensures ∙ c.index-names-task.is ∙ get_or_default names k c.index-names-task.result [] c.loop-task-test.true) in
    c.in_ok-extend_from_slice.ensures.items ∙ ap (λ l. c.loop-task.text.items ++ l) (c.bytes-in-loop-task.ensures ∙ line)
    ∙ ap (λ t. t ++ variable_line (signal_width s) (first_code s + k) (get_or names k [])) c.loop-task.invariant
    ∙ append_assoc front (variable_lines s names k) (variable_line (signal_width s) (first_code s + k) (get_or names k []))
    ∙ ap (λ l. front ++ l) (sym (variables-more s names k))
