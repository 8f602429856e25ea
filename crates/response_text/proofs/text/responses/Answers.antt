use Rattle.std.proofs.Common.{◌≡◌, ◌<◌, ◌≤◌, List, length, subst, arith}
use Rattle.call_graph.proofs.Growing.{held_more}
use Rattle.run_windows.specs.declared.costs.TaskCosts.{TaskCosts}
use Rattle.response_text.specs.declared.task_text.Response.{Response}
use Rattle.response_text.specs.Lines.{no_response}
use Rattle.response_text.specs.ResponseText.{IsTaskResponse, AreResponses}
use Rattle.response_text.proofs.text.responses.Goals as goal

pub response-requires-clause-there : goal.response-requires-clause-there
response-requires-clause-there c = subst (λ (x : List TaskCosts). c.loop-task.task < length x) c.items-task-end.ensures c.loop-task-test.true

pub loop-task-preserved : goal.loop-task-preserved
loop-task-preserved c =
    let old = c.loop-task.invariant in
    let held = held_more Response (λ t r. IsTaskResponse c.args.run.now.longest c.args.run.now.late c.args.run.now.costs t r) c.loop-task.responses.items c.push.new.list.items c.in_ok-response.response no_response
    c.loop-task.task old.count_is old.each c.in_ok-push.ensures c.in_ok-response.ensures in
    record { count_is = held.count; each = held.each }

pub returns : goal.returns
returns c =
    let over = subst (λ (x : List TaskCosts). length x ≤ c.loop-task.task) c.items-task-end.ensures c.loop-task-test.false in
    let most = subst (λ (x : List TaskCosts). c.loop-task.task ≤ length x) c.items-task-end.ensures c.loop-task.auto.task-end in
    let all : c.loop-task.task ≡ length c.args.run.now.costs.tasks = omega (arith, over, most) in
    subst (λ n. AreResponses c.args.run.now.longest c.args.run.now.late c.args.run.now.costs n c.loop-task.responses.items) all c.loop-task.invariant
