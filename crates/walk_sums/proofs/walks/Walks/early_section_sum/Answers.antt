use Rattle.std.proofs.Common.{◌∙◌, ℕ, List, Some, ap, sym, subst}
use Rattle.bound_rules.specs.declared.bound.Summary.{Summary}
use Rattle.walk_sums.specs.declared.levels.Kind.TheVariants as kinds
use Rattle.walk_sums.specs.Early.{IsToldEarly}
use Rattle.walk_sums.specs.Known.{AreSums}
use Rattle.walk_sums.specs.Told.{told_section}
use Rattle.walk_sums.proofs.Bodily.{facts_of}
use Rattle.walk_sums.proofs.Telling.{early_told}
use Rattle.walk_sums.proofs.walks.Walks.early_section_sum.Goals as goal

pub returns : goal.returns
returns c =
    let w = c.args.self.now in
    let weights = c.args.weights.now in
    let t = c.args.task in
    let whole = c.in_ok-whole.whole.items in
    let own = c.in_ok-own.own.items in
    let own_is = subst (λ (p : ℕ). AreSums w.config w.app weights (kinds.EarlySections c.args.line) (Some p) own) c.priority.ensures c.in_ok-own.ensures in
    let is = c.told_section.ensures.is
    ∙ ap (λ (l : List Summary). told_section w.config.tasks w.app.funcs l c.deref-3.result.now t) c.deref-2.ensures.value
    ∙ ap (λ (l : List Summary). told_section w.config.tasks w.app.funcs whole l t) c.deref-3.ensures.value in
    subst (IsToldEarly w.config w.app weights c.args.above t c.args.line) (sym is)
    (early_told w.config w.app (facts_of w.config w.app c.told_section.ensures.well_formed) weights c.requires.weights c.args.above c.requires.above t c.requires.lower c.args.line whole own
    c.in_ok-whole.ensures own_is)
