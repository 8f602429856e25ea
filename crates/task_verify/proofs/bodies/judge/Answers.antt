use Rattle.std.proofs.Common.{◌<◌, ◌≤◌, List, length, subst}
use Rattle.sloth_base.specs.declared.app.Func.{Func}
use Rattle.code_rules.specs.WellFormed.{BodyFault}
use Rattle.code_rules.proofs.Judged.{judged_more, judged_end}
use Rattle.task_verify.proofs.bodies.judge.Goals as goal

pub loop-body-preserved : goal.loop-body-preserved
loop-body-preserved c =
    let config = c.args.config.now in
    let app = c.args.app.now in
    let b = c.loop-body.body in
    judged_more (BodyFault config app) (length app.funcs) b c.loop-body.least c.in_ok-found.found c.merge-least.result
    (subst (λ (x : List Func). b < length x) c.items-func-items.ensures c.loop-body-test.true) c.in_ok-found.ensures c.merge-least.ensures c.loop-body.invariant

pub returns : goal.returns
returns c =
    let app = c.args.app.now in
    let b = c.loop-body.body in
    judged_end (BodyFault c.args.config.now app) (length app.funcs) b c.loop-body.least
    (subst (λ (x : List Func). length x ≤ b) c.items-func-items.ensures c.loop-body-test.false) c.loop-body.invariant
