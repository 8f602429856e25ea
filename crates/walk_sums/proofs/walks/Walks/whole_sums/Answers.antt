use Rattle.std.proofs.Common.{ℕ, ◌+◌, ◌<◌, List, get_or, length, set, take, None, refl, sym, subst, arith}
use Rattle.bound_rules.specs.declared.bound.Summary.{Summary}
use Rattle.walk_sums.specs.declared.levels.Kind.TheVariants as kinds
use Rattle.walk_sums.specs.Known.{IsBefore, IsSummary, caller_code}
use Rattle.walk_sums.proofs.OrderSummaries.{AreSummariesOf}
use Rattle.walk_sums.proofs.Summaries.{next_known, next_inside, called_summed, one_summed}
use Rattle.walk_sums.proofs.walks.Walks.whole_sums.Goals as goal

pub function_summary-requires : goal.function_summary-requires
function_summary-requires c =
    let w = c.args.self.now in
    let weights = c.args.weights.now in
    let walked = c.order-number-items.ensures.walked in
    let k = c.loop-number.number-index in
    let table = c.loop-number.whole.items in
    let f = get_or w.order k 0 in
    let lt = subst (λ (l : List ℕ). k < length l) c.order-number-items.ensures.is c.loop-number-test.true in
    let known = next_known w.config w.app weights c.args.kind None w.order walked.order table k c.loop-number.invariant lt in
    let called = called_summed w.config w.app weights c.args.kind None w.order walked.order table k c.loop-number.invariant lt in
    let before : IsBefore (caller_code w weights c.args.kind None f table table) = record {
      well_formed = walked.well_formed;
      fit = c.requires.weights;
      known = known;
      is_func = refl;
      is_body = walked.bodies.each f known;
      whole_is = called;
      own_is = called;
      whole_small = c.loop-number.invariant.small;
      own_small = c.loop-number.invariant.small;
      summed = c.requires.summed;
    } in
    subst (λ (l : List ℕ). IsBefore (caller_code w weights c.args.kind None (get_or l k 0) c.deref.result.now c.deref-in-loop-number.result.now)) (sym c.order-number-items.ensures.is)
    (subst (λ (t : List Summary). IsBefore (caller_code w weights c.args.kind None f t c.deref-in-loop-number.result.now)) (sym c.deref.ensures.value)
    (subst (λ (t : List Summary). IsBefore (caller_code w weights c.args.kind None f table t)) (sym c.deref-in-loop-number.ensures.value) before))

pub index_mut-requires : goal.index_mut-requires
index_mut-requires c =
    let w = c.args.self.now in
    let weights = c.args.weights.now in
    let walked = c.order-number-items.ensures.walked in
    let k = c.loop-number.number-index in
    let lt = subst (λ (l : List ℕ). k < length l) c.order-number-items.ensures.is c.loop-number-test.true in
    let inside = subst (λ (l : List ℕ). get_or l k 0 < length c.loop-number.whole.items) (sym c.order-number-items.ensures.is)
    (next_inside w.config w.app weights c.args.kind None w.order walked.order c.loop-number.whole.items k c.loop-number.invariant lt) in
    let len = c.loop-number.whole.ok.0 in
    omega (arith, inside, len)

pub loop-number-preserved : goal.loop-number-preserved
loop-number-preserved c =
    let w = c.args.self.now in
    let weights = c.args.weights.now in
    let walked = c.order-number-items.ensures.walked in
    let k = c.loop-number.number-index in
    let table = c.loop-number.whole.items in
    let summary = c.in_ok-summary.summary in
    let is = c.order-number-items.ensures.is in
    let lt = subst (λ (l : List ℕ). k < length l) is c.loop-number-test.true in
    let here = subst (λ (l : List ℕ). IsSummary w.config w.app weights c.args.kind None (get_or l k 0) summary) is c.in_ok-summary.ensures.is in
    subst (λ (l : List ℕ). AreSummariesOf w.config w.app weights c.args.kind None (take (k + 1) w.order) (set table (get_or l k 0) summary)) (sym is)
    (one_summed w.config w.app weights c.args.kind None w.order walked.order table k c.loop-number.invariant lt summary here c.in_ok-summary.ensures.small)
