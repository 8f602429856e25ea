use Rattle.std.proofs.Common.{ℕ, ◌≡◌, ◌∙◌, ◌≤◌, ◌<◌, List, length, get_or, subst, arith}
use Rattle.bound_rules.specs.declared.bound.Body.{Body}
use Rattle.walk_sums.specs.KnownBodies.{IsKnownBody, no_body}
use Rattle.call_graph.proofs.Growing.{held_more}
use Rattle.sloth_base.specs.declared.app.Func.{Func}
use Rattle.walk_sums.proofs.bodies.bodies.Goals as goal

pub loop-number-preserved : goal.loop-number-preserved
loop-number-preserved c =
    let g =
    held_more Body (IsKnownBody c.args.config.now c.args.app.now) c.loop-number.bodies.items c.push.new.list.items c.in_ok-body.body no_body c.loop-number.number
    c.loop-number.invariant.count c.loop-number.invariant.each c.in_ok-push.ensures c.in_ok-body.ensures in
    record { count = g.count; each = g.each }

pub returns : goal.returns
returns c =
    let over = subst (λ (x : List Func). length x ≤ c.loop-number.number) c.items-number-end.ensures c.loop-number-test.false in
    let most = subst (λ (x : List Func). c.loop-number.number ≤ length x) c.items-number-end.ensures c.loop-number.auto.number-end in
    let all : c.loop-number.number ≡ length c.args.app.now.funcs = omega (arith, over, most) in
    let Each : ℕ → Type 0 = λ n. (f : ℕ) → f < n → IsKnownBody c.args.config.now c.args.app.now f (get_or c.loop-number.bodies.items f no_body) in
    record { count = c.loop-number.invariant.count ∙ all; each = subst Each all c.loop-number.invariant.each }
