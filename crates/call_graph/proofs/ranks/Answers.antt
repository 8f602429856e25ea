use Rattle.std.proofs.Common.{◌≡◌, ◌∙◌, ◌<◌, length, ap, subst, sym, List, ℕ}
use Rattle.sloth_base.specs.declared.app.App.{App}
use Rattle.sloth_base.specs.declared.app.Func.{Func}
use Rattle.sloth_base.specs.Order.{NoFault, IsLeast}
use Rattle.sloth_base.proofs.Kept.{least_same}
use Rattle.code_rules.specs.WellFormed.{CycleFault}
use Rattle.std.specs.Bool.{Decides}
use Rattle.call_graph.specs.Cycles.{RowCycle}
use Rattle.call_graph.specs.Rows.{row_has, IsRowChain}
use Rattle.call_graph.specs.Gathered.{AreGathered}
use Rattle.call_graph.specs.Reached.{AreFew, func_of, is_direct_call}
use Rattle.call_graph.proofs.Belongs.{Closed, cycle_is, is_cycle, belongs}
use Rattle.call_graph.proofs.Few.{few}
use Rattle.call_graph.proofs.ranks.Goals as goal

few_of : (app : App) (funcs : List Func) → funcs ≡ app.funcs → AreFew app.funcs → AreFew funcs
few_of app funcs e h = subst (λ (x : List Func). AreFew x) (sym e) h

pub direct_calls-requires : goal.direct_calls-requires
direct_calls-requires c = few_of c.args.app.now c.items-funcs.result.now c.items-funcs.ensures (few c.args.app.now c.requires)

pub gathered-requires-clause-few : goal.gathered-requires-clause-few
gathered-requires-clause-few c = few_of c.args.app.now c.items-funcs.result.now c.items-funcs.ensures (few c.args.app.now c.requires)

closed_of : (app : App) (funcs : List Func) (direct rows slice : List ℕ) → funcs ≡ app.funcs → slice ≡ rows → length direct ≡ length funcs
    → ((f g : ℕ) → f < length funcs → row_has direct f g ≡ is_direct_call (func_of funcs f) g)
    → ((i j : ℕ) → Decides (row_has rows i j) ((between : List ℕ) × IsRowChain direct i between j)) → Closed app direct slice
closed_of app funcs direct rows slice e v count calls reach = record {
  count = count ∙ ap length e;
  calls = λ f g l. calls f g (subst (λ (n : ℕ). f < n) (ap length (sym e)) l) ∙ ap (λ (x : List Func). is_direct_call (func_of x f) g) e;
  closed = subst (λ (x : List ℕ). (i j : ℕ) → Decides (row_has x i j) ((between : List ℕ) × IsRowChain direct i between j)) (sym v) reach;
}

no_cycle : (app : App) (funcs : List Func) (rows slice slice' : List ℕ) → funcs ≡ app.funcs → slice ≡ rows → slice' ≡ rows
    → NoFault (RowCycle funcs slice) → NoFault (RowCycle app.funcs slice')
no_cycle app funcs rows slice slice' e v w none =
    subst (λ (x : List Func). NoFault (RowCycle x slice')) e (subst (λ (x : List ℕ). NoFault (RowCycle funcs x)) (v ∙ sym w) none)

pub returns-in-Some-clause-refused : goal.returns-in-Some-clause-refused
returns-in-Some-clause-refused c =
    let app = c.args.app.now in
    let funcs = c.items-funcs.result.now in
    let direct = c.in_ok-direct.direct.items in
    let slice = c.deref.result.now in
    let e = c.items-funcs.ensures in
    let closed = closed_of app funcs direct c.closed-rows.result.items slice e c.deref.ensures.value c.in_ok-direct.ensures.count c.in_ok-direct.ensures.calls c.closed-rows.ensures.reach in
    least_same (RowCycle app.funcs slice) (CycleFault app) (cycle_is app direct slice closed) (is_cycle app direct slice closed) c.in-Some.refusal
    (subst (λ (x : List Func). IsLeast (RowCycle x slice) c.in-Some.refusal) e c.in-Some.ensures)

pub returns-clause-belong : goal.returns-clause-belong
returns-clause-belong c =
    let app = c.args.app.now in
    let funcs = c.items-funcs.result.now in
    let direct = c.in_ok-direct.direct.items in
    let slice = c.deref-2.result.now in
    let e = c.items-funcs.ensures in
    let closed = closed_of app funcs direct c.closed-rows.result.items slice e c.deref-2.ensures.value c.in_ok-direct.ensures.count c.in_ok-direct.ensures.calls c.closed-rows.ensures.reach in
    let ranks = c.in_ok-gathered.field-0 in
    belongs app direct slice closed ranks
    (subst (λ (x : List Func). AreGathered x slice ranks) e c.in_ok-gathered.ensures)
    (no_cycle app funcs c.closed-rows.result.items c.deref.result.now slice e c.deref.ensures.value c.deref-2.ensures.value c.in_default.ensures)

pub returns-clause-none : goal.returns-clause-none
returns-clause-none c =
    let app = c.args.app.now in
    let funcs = c.items-funcs.result.now in
    let direct = c.in_ok-direct.direct.items in
    let slice = c.deref.result.now in
    let e = c.items-funcs.ensures in
    let closed = closed_of app funcs direct c.closed-rows.result.items slice e c.deref.ensures.value c.in_ok-direct.ensures.count c.in_ok-direct.ensures.calls c.closed-rows.ensures.reach in
    let none = no_cycle app funcs c.closed-rows.result.items slice slice e c.deref.ensures.value c.deref.ensures.value c.in_default.ensures in
    λ r fault. none r (is_cycle app direct slice closed r fault)
