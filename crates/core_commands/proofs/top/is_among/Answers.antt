use Rattle.std.proofs.Common.{◌∙◌, ap, sym, subst, true, false}
use Rattle.std.specs.Prelude.{IsTrue, string_bytes}
use Rattle.sloth_io.specs.Store.{Files, IsSaidSame}
use Rattle.core_commands.proofs.OwnOutput.{among-here, apart-first, apart-more, none-asked, only-asked, said-not, said-so}
use Rattle.core_commands.proofs.top.is_among.Goals as goal

pub loop-input-init : goal.loop-input-init
loop-input-init g c = apart-first (g.F.Store.seen c.args.files.now) c.args.name.now c.args.inputs.now

pub loop-input-preserved : goal.loop-input-preserved
loop-input-preserved g c =
    let old = g.F.Store.seen c.args.files.now in
    let now = g.F.Store.seen c.loop-input.files in
    let kept = c.loop-input.invariant.kept in
    let same = c.as_str.ensures.value ∙ ap (λ w. string_bytes w) c.input-item.is in
    apart-more old now (g.F.Store.seen c.is_same.new.self) c.args.name.now c.args.inputs.now c.loop-input.input-index c.input-item.result c.loop-input-test.true
    c.loop-input.invariant
    (said-not c.is_same.result old now (g.F.Store.seen c.is_same.new.self) _ _ kept c.if-is_same.false c.is_same.ensures.said)
    (λ tells e.
    let yes = c.is_same.ensures.no (subst (λ (files : Files). IsTrue files.tells) (sym kept) tells) (e ∙ sym same) in
    let no = c.if-is_same.false in
    cc)

pub returns-then-is_same-clause-yes : goal.returns-then-is_same-clause-yes
returns-then-is_same-clause-yes g c _ =
    let old = g.F.Store.seen c.args.files.now in
    let now = g.F.Store.seen c.loop-input.files in
    let new = g.F.Store.seen c.is_same.new.self in
    let same = c.as_str.ensures.value ∙ ap (λ w. string_bytes w) c.input-item.is in
    among-here old now new c.args.name.now c.args.inputs.now c.loop-input.input-index c.input-item.result c.loop-input-test.true
    c.loop-input.invariant
    (subst (IsSaidSame old new c.args.name.now) same
    (said-so c.is_same.result old now new _ _ c.loop-input.invariant.kept c.if-is_same.true (c.is_same.ensures.yes c.if-is_same.true) c.is_same.ensures.said))

pub returns-then-is_same-clause-only : goal.returns-then-is_same-clause-only
returns-then-is_same-clause-only g c =
    only-asked c.is_same.result (g.F.Store.seen c.args.files.now) (g.F.Store.seen c.loop-input.files) (g.F.Store.seen c.is_same.new.self) _ _
    c.loop-input.invariant.kept c.is_same.ensures.said

pub returns-clause-kept : goal.returns-clause-kept
returns-clause-kept g c _ = c.loop-input.invariant.kept

pub returns-clause-only : goal.returns-clause-only
returns-clause-only g c = none-asked (g.F.Store.seen c.args.files.now) (g.F.Store.seen c.loop-input.files) c.loop-input.invariant.kept
