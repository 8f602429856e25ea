use Rattle.std.proofs.Common.{◌≡◌, length, true, sym, subst, ◌∙◌}
use Rattle.sloth_base.specs.declared.app.Func.{Func}
use Rattle.sloth_base.specs.declared.refusal.Code.TheVariants as code
use Rattle.sloth_base.specs.Search.{IsSearchResult}
use Rattle.code_rules.specs.WellFormed.{fault_at_line}
use Rattle.code_rules.proofs.Judged.{judged_more, judged_end, decided}
use Rattle.call_graph.specs.Rows.{row_has}
use Rattle.call_graph.specs.Cycles.{RowCycleAt}
use Rattle.call_graph.proofs.Itself.{func_is}
use Rattle.call_graph.proofs.rows.cycle.Goals as goal

pub loop-number-preserved : goal.loop-number-preserved
loop-number-preserved c =
    let funcs = c.args.funcs.now in
    let rows = c.args.rows.now in
    let i = c.loop-number.number in
    let f = c.index-funcs-number.result in
    let found = c.fault_if.result in
    let e = c.has-itself.ensures in
    let here = subst (λ (x : Func). IsSearchResult (λ r. (row_has rows i i ≡ true) × (r ≡ fault_at_line x.line code.V1)) found)
    (func_is funcs i f c.loop-number-test.true c.index-funcs-number.is)
    (decided (row_has rows i i ≡ true) c.has-itself.result f.line code.V1 found c.fault_if.ensures (λ h. sym e ∙ h, λ h. e ∙ h)) in
    judged_more (RowCycleAt funcs rows) (length funcs) i c.loop-number.least found c.merge-least.result c.loop-number-test.true here c.merge-least.ensures c.loop-number.invariant

pub returns : goal.returns
returns c =
    judged_end (RowCycleAt c.args.funcs.now c.args.rows.now) (length c.args.funcs.now) c.loop-number.number c.loop-number.least c.loop-number-test.false c.loop-number.invariant
