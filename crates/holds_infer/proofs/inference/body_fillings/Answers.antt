use Rattle.std.proofs.Common.{◌∙◌, List, sym, ap, subst, length, get_or, arith}
use Rattle.std.proofs.lemmas.List.{length_push, get_or_default}
use Rattle.sloth_base.specs.declared.app.Func.{Func}
use Rattle.sloth_base.specs.Named.{no_function}
use Rattle.holds_infer.specs.RightLists.{HasItsLabels}
use Rattle.holds_infer.specs.BodyFilling.{IsBodyFilling}
use Rattle.holds_infer.proofs.BodyFillings.{fillings_more}
use Rattle.holds_infer.proofs.inference.body_fillings.Goals as goal

pub body_filling-requires : goal.body_filling-requires
body_filling-requires c =
    let b = c.loop-func.func-index in
    let here = c.func-item.is ∙ get_or_default c.args.funcs.now b c.func-item.result no_function c.loop-func-test.true in
    subst HasItsLabels (sym here) (c.requires b c.loop-func-test.true)

pub loop-func-preserved : goal.loop-func-preserved
loop-func-preserved c =
    let fs = c.args.funcs.now in
    let b = c.loop-func.func-index in
    let made = c.loop-func.made.items in
    let g = c.in_ok-func.func in
    let n = c.loop-func.invariant.count in
    let count = ap (λ (xs : List Func). length xs) c.in_ok-push.ensures in
    let more = length_push made g in
    let here : IsBodyFilling (get_or fs b no_function) g =
    subst (λ (x : Func). IsBodyFilling x g) (c.func-item.is ∙ get_or_default fs b c.func-item.result no_function c.loop-func-test.true) c.in_ok-func.ensures in
    record {
      count = omega (arith, count, more, n);
      each = fillings_more fs made c.push.new.list.items b g here c.in_ok-push.ensures n c.loop-func.invariant.each;
    }
