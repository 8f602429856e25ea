use Rattle.std.proofs.Common.{ℕ, ◌+◌, ◌<◌, List, get_or, length, set, take, Option, sym, subst, arith}
use Rattle.code_rules.specs.Code.{HasCall}
use Rattle.response_reasons.specs.LoopCode.{line_at}
use Rattle.response_reasons.specs.Calls.{IsCallLine}
use Rattle.response_reasons.proofs.Tables.{AreLinesOf, next_known, next_inside, called_lines, one_more_line}
use Rattle.response_reasons.proofs.calls.function_lines.Goals as goal

pub function_line-line-requires-clause-known : goal.function_line-line-requires-clause-known
function_line-line-requires-clause-known c =
    let w = c.args.walks.now in
    let walked = c.order-number-items.ensures.walked in
    let is = c.order-number-items.ensures.is in
    let k = c.loop-number.number-index in
    let lt = subst (λ (l : List ℕ). k < length l) is c.loop-number-test.true in
    subst (λ (l : List ℕ). get_or l k 0 < length w.app.funcs) (sym is)
    (next_known w.app (IsCallLine w.app c.args.counted) w.order walked.order c.loop-number.lines.items k c.loop-number.invariant lt)

pub function_line-line-requires-clause-called : goal.function_line-line-requires-clause-called
function_line-line-requires-clause-called c =
    let w = c.args.walks.now in
    let walked = c.order-number-items.ensures.walked in
    let is = c.order-number-items.ensures.is in
    let k = c.loop-number.number-index in
    let lt = subst (λ (l : List ℕ). k < length l) is c.loop-number-test.true in
    subst (λ (l : List ℕ). (g : ℕ) → HasCall w.app (get_or l k 0) g → IsCallLine w.app c.args.counted g (line_at c.deref.result.now g)) (sym is)
    (subst (λ (t : List (Option ℕ)). (g : ℕ) → HasCall w.app (get_or w.order k 0) g → IsCallLine w.app c.args.counted g (line_at t g)) (sym c.deref.ensures.value)
    (called_lines w.app (IsCallLine w.app c.args.counted) w.order walked.order c.loop-number.lines.items k c.loop-number.invariant lt))

pub index_mut-requires : goal.index_mut-requires
index_mut-requires c =
    let w = c.args.walks.now in
    let walked = c.order-number-items.ensures.walked in
    let is = c.order-number-items.ensures.is in
    let k = c.loop-number.number-index in
    let lt = subst (λ (l : List ℕ). k < length l) is c.loop-number-test.true in
    let inside = subst (λ (l : List ℕ). get_or l k 0 < length c.loop-number.lines.items) (sym is)
    (next_inside w.app (IsCallLine w.app c.args.counted) w.order walked.order c.loop-number.lines.items k c.loop-number.invariant lt) in
    let len = c.loop-number.lines.ok.0 in
    omega (arith, inside, len)

pub loop-number-preserved : goal.loop-number-preserved
loop-number-preserved c =
    let w = c.args.walks.now in
    let counted = c.args.counted in
    let walked = c.order-number-items.ensures.walked in
    let is = c.order-number-items.ensures.is in
    let k = c.loop-number.number-index in
    let lines = c.loop-number.lines.items in
    let line = c.function_line-line.result in
    let lt = subst (λ (l : List ℕ). k < length l) is c.loop-number-test.true in
    let here = subst (λ (l : List ℕ). IsCallLine w.app counted (get_or l k 0) line) is c.function_line-line.ensures in
    subst (λ (l : List ℕ). AreLinesOf w.app (IsCallLine w.app counted) (take (k + 1) w.order) (set lines (get_or l k 0) line)) (sym is)
    (one_more_line w.app (IsCallLine w.app counted) w.order walked.order lines k c.loop-number.invariant lt line here)
