use Rattle.std.proofs.Common.{◌≡◌, ◌∙◌, ℕ, ◌<◌, true, List, ap, subst, sym}
use Rattle.std.specs.List.{list_any}
use Rattle.sloth_base.specs.declared.app.Func.{Func}
use Rattle.sloth_base.specs.declared.app.Item.{Item}
use Rattle.call_graph.specs.Bits.{is_member}
use Rattle.call_graph.specs.Rows.{is_call}
use Rattle.call_graph.proofs.Growing.{held_more}
use Rattle.call_graph.specs.Reached.{CallsFew, func_of, is_direct_call}
use Rattle.call_graph.proofs.Itself.{func_is}
use Rattle.call_graph.proofs.lists.direct_calls.Goals as goal

pub called-requires : goal.called-requires
called-requires c =
    let i = c.loop-func.func-index in
    let f = c.func-item.result in
    subst (λ (items : List Item). (g : ℕ) → list_any (λ item. is_call g item.op) items ≡ true → g < 64) (sym c.items.ensures)
    (subst (λ (x : Func). CallsFew x) (sym (func_is c.args.funcs.now i f c.loop-func-test.true c.func-item.is)) (c.requires.calls i c.loop-func-test.true))

pub loop-func-preserved : goal.loop-func-preserved
loop-func-preserved c =
    let i = c.loop-func.func-index in
    let f = c.func-item.result in
    let h =
    held_more ℕ (λ f x. (g : ℕ) → is_member x g ≡ is_direct_call (func_of c.args.funcs.now f) g) c.loop-func.rows.items c.push.new.list.items c.called.result 0 i
    c.loop-func.invariant.count (λ f lt g. c.loop-func.invariant.calls f g lt) c.in_ok-push.ensures
    (λ g. c.called.ensures g ∙ ap (λ (items : List Item). list_any (λ item. is_call g item.op) items) c.items.ensures
    ∙ ap (λ (x : Func). is_direct_call x g) (func_is c.args.funcs.now i f c.loop-func-test.true c.func-item.is)) in
    record { count = h.count; calls = λ f g lt. h.each f lt g }
