use Rattle.std.proofs.Common.{◌≡◌, ◌∙◌, ◌+◌, List, ◌++◌, length, get_or, sym, ap, subst, arith}
use Rattle.std.proofs.lemmas.Grind.{common_steps}
use Rattle.sloth_base.specs.declared.app.Func.{Func}
use Rattle.rv32_expand.specs.Passes.{IsCountable}
use Rattle.rv32_expand.proofs.InRangeOf.{small}
use Rattle.rv32_expand.proofs.AllBodies.{one_more, whole, AreSizesTo}
use Rattle.rv32_expand.proofs.lengths.sizes.Goals as goal

pub shortest-requires : goal.shortest-requires
shortest-requires c =
    let app = c.args.app.now in
    let body = c.body-item.result in
    let h : length app.funcs ≡ length c.items-body-items.result.now = ap length (sym c.items-body-items.ensures) in
    let e = c.body-item.is ∙ ap (λ (xs : List Func). get_or xs c.loop-body.body-index body) c.items-body-items.ensures in
    subst (IsCountable app) (sym e) (small app c.requires c.loop-body.body-index body (omega (arith, h, c.loop-body-test.true)))

pub loop-body-preserved : goal.loop-body-preserved
loop-body-preserved c =
    let app = c.args.app.now in
    let body = c.body-item.result in
    let i = c.loop-body.body-index in
    let own = c.in_ok-own.own.items in
    let e : c.loop-body.sizes.items ++ own ≡ c.extend_from_slice.new.self.items = grind (arith, common_steps) in
    let h : length app.funcs ≡ length c.items-body-items.result.now = ap length (sym c.items-body-items.ensures) in
    subst (AreSizesTo app app.funcs (i + 1)) e
    (one_more app app.funcs i c.loop-body.sizes.items own body (omega (arith, h, c.loop-body-test.true))
    (c.body-item.is ∙ ap (λ (xs : List Func). get_or xs i body) c.items-body-items.ensures) c.loop-body.invariant c.in_ok-own.ensures)

pub returns : goal.returns
returns c =
    let app = c.args.app.now in
    let h : length app.funcs ≡ length c.items-body-items.result.now = ap length (sym c.items-body-items.ensures) in
    whole app c.loop-body.body-index c.loop-body.sizes.items (omega (arith, h, c.loop-body-test.false)) c.loop-body.invariant
