use Rattle.std.proofs.Common.{◌∙◌, ◌++◌, List, [], ℕ, false, get_or, ap}
use Rattle.std.proofs.lemmas.List.{get_or_read}
use Rattle.osek_scheduler.specs.declared.state.TaskState.{TaskState}
use Rattle.run_samples.specs.SystemText.{state_line}
use Rattle.trace_check.proofs.Below.{states_begin, states_go_on}
use Rattle.trace_check.proofs.lines.push_states.Goals as goal

pub loop-task-init : goal.loop-task-init
loop-task-init c = states_begin c.args.names.now c.args.osek.now.system c.args.text.now.items

pub loop-task-preserved : goal.loop-task-preserved
loop-task-preserved c =
    let names = c.args.names.now in
    let task = c.loop-task.task in
    let line : List ℕ → TaskState → List ℕ = λ name state. state_line name false state in
    let name = c.bytes.ensures ∙ get_or_read names task c.index-names-task.result c.loop-task-test.true c.index-names-task.is [] in
    let told =
    c.bytes-in-loop-task.ensures
    ∙ (c.state_line.ensures
    ∙ (ap (λ (x : List ℕ). line x c.state-state.result) name ∙ ap (line (get_or names task [])) c.state-state.ensures)) in
    states_go_on names c.args.osek.now.system c.args.text.now.items c.loop-task.text.items _ task c.loop-task.invariant
    (c.in_ok-extend_from_slice.ensures.items ∙ ap (λ (x : List ℕ). c.loop-task.text.items ++ x) told)
