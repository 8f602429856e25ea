use Rattle.std.proofs.Common.{◌∙◌, get_or, sym, subst}
use Rattle.std.proofs.lemmas.List.{get_or_default}
use Rattle.sloth_base.specs.declared.app.Func.{Func}
use Rattle.sloth_base.specs.Named.{no_function}
use Rattle.call_graph.proofs.Growing.{held_more}
use Rattle.holds_infer.specs.RightLists.{HasItsLabels}
use Rattle.holds_infer.specs.WayLists.{IsWayFilling}
use Rattle.holds_infer.proofs.label_answers.way_fillings.Goals as goal

pub way_filling-requires : goal.way_filling-requires
way_filling-requires c =
    let b = c.loop-func.func-index in
    let here = c.func-item.is ∙ get_or_default c.args.funcs.now b c.func-item.result no_function c.loop-func-test.true in
    subst HasItsLabels (sym here) (c.requires b c.loop-func-test.true)

pub loop-func-preserved : goal.loop-func-preserved
loop-func-preserved c =
    let fs = c.args.funcs.now in
    let b = c.loop-func.func-index in
    let g = c.in_ok-func.func in
    let here = subst (λ (x : Func). IsWayFilling x g) (c.func-item.is ∙ get_or_default fs b c.func-item.result no_function c.loop-func-test.true) c.in_ok-func.ensures in
    let more = held_more Func (λ k x. IsWayFilling (get_or fs k no_function) x) c.loop-func.made.items c.push.new.list.items g no_function b
    c.loop-func.invariant.count c.loop-func.invariant.each c.in_ok-push.ensures here in
    record { count = more.count; each = more.each }
