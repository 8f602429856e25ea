use Rattle.std.proofs.Common.{◌≡◌, ◌<◌, ◌≤◌, ℕ, Bool, false, List, length, get_or, Option, None, sym, subst, arith}
use Rattle.std.specs.Prelude.{Decides}
use Rattle.call_graph.proofs.Growing.{held_more}
use Rattle.walk_sums.specs.Rounds.{IsClean}
use Rattle.response_reasons.specs.declared.reasons.Reason.{Reason}
use Rattle.response_text.specs.declared.task_text.Response.{Response}
use Rattle.response_text.specs.Lines.{response_at}
use Rattle.response_text.specs.Reasons.{IsReason, AreReasons}
use Rattle.response_text.proofs.text.reasons.Goals as goal

pub reason-requires-clause-clean : goal.reason-requires-clause-clean
reason-requires-clause-clean c =
    let w = c.args.walks.now in
    subst (λ (l : List Bool). (t : ℕ) → t < length w.config.tasks → Decides (get_or l t false) (IsClean w.app t)) (sym c.deref.ensures.value) c.in_ok-clean.ensures.exact

pub loop-task-preserved : goal.loop-task-preserved
loop-task-preserved c =
    let w = c.args.walks.now in
    let costs = c.args.costs.now in
    let responses = c.args.responses.now in
    let old = c.loop-task.invariant in
    let here = subst (λ (r : Response). IsReason w.config w.app costs c.loop-task.task r c.in_ok-reason.reason) c.response_at-response.ensures c.in_ok-reason.ensures in
    let held = held_more (Option Reason) (λ t why. IsReason w.config w.app costs t (response_at responses t) why) c.loop-task.reasons.items c.push.new.list.items c.in_ok-reason.reason None
    c.loop-task.task old.count_is old.each c.in_ok-push.ensures here in
    record { count_is = held.count; each = held.each }

pub returns : goal.returns
returns c =
    let w = c.args.walks.now in
    let over = c.loop-task-test.false in
    let most = c.loop-task.auto.task-end in
    let all : c.loop-task.task ≡ c.tasks-task-end.result = omega (arith, over, most) in
    subst (λ n. AreReasons w.config w.app c.args.costs.now c.args.responses.now n c.loop-task.reasons.items) c.tasks-task-end.ensures.is
    (subst (λ n. AreReasons w.config w.app c.args.costs.now c.args.responses.now n c.loop-task.reasons.items) all c.loop-task.invariant)
