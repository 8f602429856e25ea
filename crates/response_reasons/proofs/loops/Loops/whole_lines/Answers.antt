use Rattle.std.proofs.Common.{◌≡◌, ℕ, ◌+◌, ◌<◌, List, get_or, length, set, take, Option, None, ap, sym, subst, arith}
use Rattle.code_rules.specs.Code.{HasCall}
use Rattle.response_reasons.specs.LoopCode.{LoopCode, IsLoopCode, line_at, IsLeastLine}
use Rattle.response_reasons.proofs.Tables.{AreLinesOf, next_known, next_inside, called_lines, one_more_line}
use Rattle.response_reasons.proofs.loops.Loops.whole_lines.Goals as goal

pub line-requires-clause-known : goal.line-requires-clause-known
line-requires-clause-known c =
    let v = c.args.self.now in
    let is = subst IsLoopCode c.self.view_is c.self.invariant in
    let order : c.self.inside.order.now ≡ v.walks.order = ap (λ (x : LoopCode). x.walks.order) c.self.view_is in
    let k = c.loop-number.number-index in
    let lt = subst (λ (l : List ℕ). k < length l) order c.loop-number-test.true in
    subst (λ (l : List ℕ). get_or l k 0 < length v.walks.app.funcs) (sym order)
    (next_known v.walks.app (IsLeastLine v None) v.walks.order is.walked.order c.loop-number.lines.items k c.loop-number.invariant lt)

pub line-requires-clause-whole : goal.line-requires-clause-whole
line-requires-clause-whole c =
    let v = c.args.self.now in
    let is = subst IsLoopCode c.self.view_is c.self.invariant in
    let order : c.self.inside.order.now ≡ v.walks.order = ap (λ (x : LoopCode). x.walks.order) c.self.view_is in
    let k = c.loop-number.number-index in
    let lt = subst (λ (l : List ℕ). k < length l) order c.loop-number-test.true in
    subst (λ (l : List ℕ). (g : ℕ) → HasCall v.walks.app (get_or l k 0) g → IsLeastLine v None g (line_at c.deref.result.now g)) (sym order)
    (subst (λ (t : List (Option ℕ)). (g : ℕ) → HasCall v.walks.app (get_or v.walks.order k 0) g → IsLeastLine v None g (line_at t g)) (sym c.deref.ensures.value)
    (called_lines v.walks.app (IsLeastLine v None) v.walks.order is.walked.order c.loop-number.lines.items k c.loop-number.invariant lt))

pub line-requires-clause-own : goal.line-requires-clause-own
line-requires-clause-own c =
    let v = c.args.self.now in
    let is = subst IsLoopCode c.self.view_is c.self.invariant in
    let order : c.self.inside.order.now ≡ v.walks.order = ap (λ (x : LoopCode). x.walks.order) c.self.view_is in
    let k = c.loop-number.number-index in
    let lt = subst (λ (l : List ℕ). k < length l) order c.loop-number-test.true in
    subst (λ (l : List ℕ). (g : ℕ) → HasCall v.walks.app (get_or l k 0) g → IsLeastLine v None g (line_at c.deref-in-loop-number.result.now g)) (sym order)
    (subst (λ (t : List (Option ℕ)). (g : ℕ) → HasCall v.walks.app (get_or v.walks.order k 0) g → IsLeastLine v None g (line_at t g)) (sym c.deref-in-loop-number.ensures.value)
    (called_lines v.walks.app (IsLeastLine v None) v.walks.order is.walked.order c.loop-number.lines.items k c.loop-number.invariant lt))

pub index_mut-requires : goal.index_mut-requires
index_mut-requires c =
    let v = c.args.self.now in
    let is = subst IsLoopCode c.self.view_is c.self.invariant in
    let order : c.self.inside.order.now ≡ v.walks.order = ap (λ (x : LoopCode). x.walks.order) c.self.view_is in
    let k = c.loop-number.number-index in
    let lt = subst (λ (l : List ℕ). k < length l) order c.loop-number-test.true in
    let inside = subst (λ (l : List ℕ). get_or l k 0 < length c.loop-number.lines.items) (sym order)
    (next_inside v.walks.app (IsLeastLine v None) v.walks.order is.walked.order c.loop-number.lines.items k c.loop-number.invariant lt) in
    let len = c.loop-number.lines.ok.0 in
    omega (arith, inside, len)

pub loop-number-preserved : goal.loop-number-preserved
loop-number-preserved c =
    let v = c.args.self.now in
    let is = subst IsLoopCode c.self.view_is c.self.invariant in
    let order : c.self.inside.order.now ≡ v.walks.order = ap (λ (x : LoopCode). x.walks.order) c.self.view_is in
    let k = c.loop-number.number-index in
    let lines = c.loop-number.lines.items in
    let line = c.in_ok-line.line in
    let lt = subst (λ (l : List ℕ). k < length l) order c.loop-number-test.true in
    let here = subst (λ (l : List ℕ). IsLeastLine v None (get_or l k 0) line) order c.in_ok-line.ensures in
    subst (λ (l : List ℕ). AreLinesOf v.walks.app (IsLeastLine v None) (take (k + 1) v.walks.order) (set lines (get_or l k 0) line)) (sym order)
    (one_more_line v.walks.app (IsLeastLine v None) v.walks.order is.walked.order lines k c.loop-number.invariant lt line here)
