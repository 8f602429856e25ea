use Rattle.std.proofs.Common.{◌≡◌, ◌∙◌, Bool, true, false, cond, refl, ap, ap₂, sym, subst}
use Rattle.bound_rules.specs.declared.bound.Summary.{Summary}
use Rattle.walk_sums.specs.declared.sections.Sum.{Sum}
use Rattle.walk_sums.specs.declared.sections.Sum.TheVariants as sum
use Rattle.walk_sums.specs.declared.sections.RoundSums.{RoundSums}
use Rattle.walk_sums.specs.Told.{AreToldRounds, told}
use Rattle.walk_sums.proofs.Bodily.{facts_of}
use Rattle.walk_sums.proofs.Telling.{rounds_told}
use Rattle.walk_sums.proofs.walks.Walks.round_sums.Goals as goal

abbrev both_sums : Sum → Sum → RoundSums
both_sums one other = record { first = one; later = other }

one_by_one : (b : Bool) (one other : Sum) → both_sums (cond b sum.Endless one) (cond b sum.Endless other) ≡ cond b (both_sums sum.Endless sum.Endless) (both_sums one other)
one_by_one true one other = refl
one_by_one false one other = refl

pub returns : goal.returns
returns c =
    let w = c.args.self.now in
    let s = c.body_summary-summary.result in
    let is = ap₂ both_sums c.told_sum.ensures c.told_sum-2.ensures ∙ one_by_one s.is_endless (told s.on) (told s.most)
    ∙ ap (λ (s : Summary). cond s.is_endless (both_sums sum.Endless sum.Endless) (both_sums (told s.on) (told s.most))) c.body_summary-summary.ensures.is in
    subst (AreToldRounds w.app c.args.task c.args.weights.now) (sym is)
    (rounds_told w.config w.app (facts_of w.config w.app c.body_summary-summary.ensures.well_formed) c.args.weights.now c.requires.weights c.args.table.now c.args.task c.requires.inside c.requires.table)
