use Rattle.std.proofs.Common.{◌≡◌, ◌∙◌, List, ◌++◌, ◌∷◌, [], ℕ, ◌+◌, length, get_or, refl, sym, ap, subst, arith}
use Rattle.std.proofs.lemmas.List.{get_or_read_under}
use Rattle.sloth_base.specs.declared.app.Func.{Func}
use Rattle.sloth_base.specs.Named.{function, no_function}
use Rattle.rv32_expand.specs.Passes.{IsCountable, AreShortest}
use Rattle.rv32_expand.proofs.InRangeOf.{small}
use Rattle.sim_induction.specs.Items.{AreLengths}
use Rattle.sim_induction.proofs.BodyLengths.{AreLengthsTo, one_more, whole, short}
use Rattle.sim_induction.proofs.items.lengths.Goals as goal

pub shortest-requires : goal.shortest-requires
shortest-requires c =
    let app = c.args.app.now in
    let body = c.body-item.result in
    let h : length app.funcs ≡ length c.items-body-items.result.now = ap length (sym c.items-body-items.ensures) in
    let e = c.body-item.is ∙ ap (λ (xs : List Func). get_or xs c.loop-body.body-index body) c.items-body-items.ensures in
    subst (IsCountable app) (sym e) (small app c.requires c.loop-body.body-index body (omega (arith, h, c.loop-body-test.true)))

pub loop-body-preserved : goal.loop-body-preserved
loop-body-preserved c =
    let app = c.args.app.now in
    let body = c.body-item.result in
    let i = c.loop-body.body-index in
    let done = c.loop-body.bodies.items in
    let own = c.in_ok-own.own.items in
    let h : length app.funcs ≡ length c.items-body-items.result.now = ap length (sym c.items-body-items.ensures) in
    let is : body ≡ get_or app.funcs i body = c.body-item.is ∙ ap (λ (xs : List Func). get_or xs i body) c.items-body-items.ensures in
    let same : body ≡ function app i = get_or_read_under app.funcs i (length app.funcs) body no_function is (omega (arith, h, c.loop-body-test.true)) refl in
    let shortest = subst (λ (f : Func). AreShortest app f own) same c.in_ok-own.ensures in
    subst (AreLengthsTo app (i + 1)) (sym (c.in_ok-push.ensures ∙ ap (λ (x : List ℕ). done ++ x ∷ []) c.from_vec.ensures))
    (one_more app i done own c.loop-body.invariant shortest)

pub returns-clause-short : goal.returns-clause-short
returns-clause-short c =
    let app = c.args.app.now in
    let i = c.loop-body.body-index in
    let h : length app.funcs ≡ length c.items-body-items.result.now = ap length (sym c.items-body-items.ensures) in
    let end : i ≡ length app.funcs = omega (arith, h, c.loop-body-test.false, c.loop-body.auto.body-index-end) in
    short app c.requires c.from_vec-2.result (subst (AreLengths app) (sym c.from_vec-2.ensures) (whole app i c.loop-body.bodies.items end c.loop-body.invariant))
