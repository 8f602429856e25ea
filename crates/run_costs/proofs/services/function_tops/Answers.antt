use Rattle.std.proofs.Common.{◌∙◌, ℕ, ◌+◌, ◌<◌, List, length, get_or, set, take, ap, sym, subst, arith}
use Rattle.sloth_base.specs.declared.app.App.{App}
use Rattle.sloth_base.specs.declared.app.Func.{Func}
use Rattle.sloth_base.specs.Named.{function}
use Rattle.bound_rules.specs.declared.bound.Body.{Body}
use Rattle.walk_sums.specs.KnownBodies.{no_body}
use Rattle.walk_sums.proofs.Bodily.{facts_of}
use Rattle.run_costs.specs.Tops.{IsTop, body_top}
use Rattle.run_costs.proofs.Topping.{AreTopsOf, is_top, next_known, next_inside, called_topped, one_topped}
use Rattle.run_costs.proofs.services.function_tops.Goals as goal

pub numbered_function-func-requires : goal.numbered_function-func-requires
numbered_function-func-requires c =
    let w = c.args.walks.now in
    let walked = c.order-number-items.ensures.walked in
    let is = c.order-number-items.ensures.is in
    let k = c.loop-number.number-index in
    let lt = subst (λ (l : List ℕ). k < length l) is c.loop-number-test.true in
    let known = next_known w.config w.app c.args.counted w.order walked.order c.loop-number.table.items k c.loop-number.invariant lt in
    subst (λ (l : List ℕ). get_or l k 0 < length c.app-app.result.now.funcs) (sym is)
    (subst (λ (a : App). get_or w.order k 0 < length a.funcs) (sym c.app-app.ensures.is) known)

pub numbered_body-body-requires : goal.numbered_body-body-requires
numbered_body-body-requires c =
    let w = c.args.walks.now in
    let walked = c.order-number-items.ensures.walked in
    let is = c.order-number-items.ensures.is in
    let k = c.loop-number.number-index in
    let lt = subst (λ (l : List ℕ). k < length l) is c.loop-number-test.true in
    let known = next_known w.config w.app c.args.counted w.order walked.order c.loop-number.table.items k c.loop-number.invariant lt in
    let count = walked.bodies.count in
    subst (λ (l : List ℕ). get_or l k 0 < length c.bodies-bodies.result.now) (sym is)
    (subst (λ (b : List Body). get_or w.order k 0 < length b) (sym c.bodies-bodies.ensures.is) (omega (arith, known, count)))

pub index_mut-requires : goal.index_mut-requires
index_mut-requires c =
    let w = c.args.walks.now in
    let walked = c.order-number-items.ensures.walked in
    let is = c.order-number-items.ensures.is in
    let k = c.loop-number.number-index in
    let lt = subst (λ (l : List ℕ). k < length l) is c.loop-number-test.true in
    let inside = subst (λ (l : List ℕ). get_or l k 0 < length c.loop-number.table.items) (sym is)
    (next_inside w.config w.app c.args.counted w.order walked.order c.loop-number.table.items k c.loop-number.invariant lt) in
    let len = c.loop-number.table.ok.0 in
    omega (arith, inside, len)

pub loop-number-preserved : goal.loop-number-preserved
loop-number-preserved c =
    let w = c.args.walks.now in
    let counted = c.args.counted in
    let walked = c.order-number-items.ensures.walked in
    let order = c.order-number-items.ensures.is in
    let k = c.loop-number.number-index in
    let table = c.loop-number.table.items in
    let f = get_or w.order k 0 in
    let lt = subst (λ (l : List ℕ). k < length l) order c.loop-number-test.true in
    let known = next_known w.config w.app counted w.order walked.order table k c.loop-number.invariant lt in
    let called = called_topped w.config w.app counted w.order walked.order table k c.loop-number.invariant lt in
    let body = get_or w.bodies f no_body in
    let top = is_top w.config w.app (facts_of w.config w.app walked.well_formed) counted f known body (walked.bodies.each f known) table called in
    let number = ap (λ (l : List ℕ). get_or l k 0) order in
    let func_is = c.numbered_function-func.ensures ∙ ap (λ (a : App). function a (get_or c.order-number-items.result.now k 0)) c.app-app.ensures.is ∙ ap (function w.app) number in
    let body_is = c.numbered_body-body.ensures ∙ ap (λ (b : List Body). get_or b (get_or c.order-number-items.result.now k 0) no_body) c.bodies-bodies.ensures.is
    ∙ ap (λ (n : ℕ). get_or w.bodies n no_body) number in
    let is = c.body_top-top.ensures
    ∙ ap (λ (g : Func). body_top counted g c.numbered_body-body.result.now c.deref.result.now) func_is
    ∙ ap (λ (b : Body). body_top counted (function w.app f) b c.deref.result.now) body_is
    ∙ ap (λ (t : List ℕ). body_top counted (function w.app f) body t) c.deref.ensures.value in
    subst (λ (l : List ℕ). AreTopsOf w.config w.app counted (take (k + 1) w.order) (set table (get_or l k 0) c.body_top-top.result)) (sym order)
    (one_topped w.config w.app counted w.order walked.order table k c.loop-number.invariant lt c.body_top-top.result (subst (IsTop w.config w.app counted f) (sym is) top))
