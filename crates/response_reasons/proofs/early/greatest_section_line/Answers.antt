use Rattle.std.proofs.Common.{◌≡◌, ◌∙◌, ℕ, ap, sym, subst}
use Rattle.sloth_base.specs.declared.app.App.{App}
use Rattle.response_reasons.specs.EarlySections.{last_line, IsAround}
use Rattle.response_reasons.proofs.EarlyLines.{all_around, least_found}
use Rattle.response_reasons.proofs.early.greatest_section_line.Goals as goal

pub loop-range-init : goal.loop-range-init
loop-range-init c =
    let w = c.args.walks.now in
    let is : c.last_line-most.result ≡ last_line w.app.funcs =
    c.last_line-most.ensures ∙ ap last_line (c.items.ensures ∙ ap (λ (a : App). a.funcs) c.app.ensures.is) in
    subst (λ (m : ℕ). IsAround w.config w.app c.args.weights.now c.args.above c.args.task c.args.counts (record { least = 0; most = m })) (sym is)
    (all_around w.config w.app c.args.weights.now c.args.above c.args.task c.args.counts c.requires.told c.requires.some)

pub returns : goal.returns
returns c =
    let w = c.args.walks.now in
    least_found w.config w.app c.args.weights.now c.args.above c.args.task c.args.counts c.requires.told c.requires.some c.loop-range.range c.loop-range-test.false c.loop-range.invariant

pub loop-range-smaller : goal.loop-range-smaller
loop-range-smaller c = c.in_ok-half.ensures.fewer
