use Rattle.std.proofs.Common.{ℕ, ◌+◌, ◌<◌, List, get_or, length, set, take, None, Some, refl, sym, subst, arith}
use Rattle.bound_rules.specs.declared.bound.Summary.{Summary}
use Rattle.walk_sums.specs.Known.{IsBefore, IsSummary, caller_code}
use Rattle.walk_sums.proofs.OrderSummaries.{AreSummariesOf}
use Rattle.walk_sums.proofs.Summaries.{next_known, next_inside, called_summed, one_summed, known_called}
use Rattle.walk_sums.proofs.walks.Walks.own_sums.Goals as goal

pub function_summary-requires : goal.function_summary-requires
function_summary-requires c =
    let w = c.args.self.now in
    let weights = c.args.weights.now in
    let walked = c.order-number-items.ensures.walked in
    let k = c.loop-number.number-index in
    let table = c.loop-number.own.items in
    let f = get_or w.order k 0 in
    let lt = subst (λ (l : List ℕ). k < length l) c.order-number-items.ensures.is c.loop-number-test.true in
    let known = next_known w.config w.app weights c.args.kind (Some c.args.priority) w.order walked.order table k c.loop-number.invariant lt in
    let called = called_summed w.config w.app weights c.args.kind (Some c.args.priority) w.order walked.order table k c.loop-number.invariant lt in
    let before : IsBefore (caller_code w weights c.args.kind (Some c.args.priority) f c.args.whole.now table) = record {
      well_formed = walked.well_formed;
      fit = c.requires.weights;
      known = known;
      is_func = refl;
      is_body = walked.bodies.each f known;
      whole_is = (λ g calls. known_called w.config w.app weights c.args.kind None c.args.whole.now walked.well_formed f g c.requires.whole calls);
      own_is = called;
      whole_small = c.requires.whole.small;
      own_small = c.loop-number.invariant.small;
      summed = c.requires.summed;
    } in
    subst (λ (l : List ℕ). IsBefore (caller_code w weights c.args.kind (Some c.args.priority) (get_or l k 0) c.args.whole.now c.deref.result.now)) (sym c.order-number-items.ensures.is)
    (subst (λ (t : List Summary). IsBefore (caller_code w weights c.args.kind (Some c.args.priority) f c.args.whole.now t)) (sym c.deref.ensures.value) before)

pub index_mut-requires : goal.index_mut-requires
index_mut-requires c =
    let w = c.args.self.now in
    let weights = c.args.weights.now in
    let walked = c.order-number-items.ensures.walked in
    let k = c.loop-number.number-index in
    let lt = subst (λ (l : List ℕ). k < length l) c.order-number-items.ensures.is c.loop-number-test.true in
    let inside = subst (λ (l : List ℕ). get_or l k 0 < length c.loop-number.own.items) (sym c.order-number-items.ensures.is)
    (next_inside w.config w.app weights c.args.kind (Some c.args.priority) w.order walked.order c.loop-number.own.items k c.loop-number.invariant lt) in
    let len = c.loop-number.own.ok.0 in
    omega (arith, inside, len)

pub loop-number-preserved : goal.loop-number-preserved
loop-number-preserved c =
    let w = c.args.self.now in
    let weights = c.args.weights.now in
    let walked = c.order-number-items.ensures.walked in
    let k = c.loop-number.number-index in
    let table = c.loop-number.own.items in
    let summary = c.in_ok-summary.summary in
    let is = c.order-number-items.ensures.is in
    let lt = subst (λ (l : List ℕ). k < length l) is c.loop-number-test.true in
    let here = subst (λ (l : List ℕ). IsSummary w.config w.app weights c.args.kind (Some c.args.priority) (get_or l k 0) summary) is c.in_ok-summary.ensures.is in
    subst (λ (l : List ℕ). AreSummariesOf w.config w.app weights c.args.kind (Some c.args.priority) (take (k + 1) w.order) (set table (get_or l k 0) summary)) (sym is)
    (one_summed w.config w.app weights c.args.kind (Some c.args.priority) w.order walked.order table k c.loop-number.invariant lt summary here c.in_ok-summary.ensures.small)
