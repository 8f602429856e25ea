use Rattle.std.proofs.Common.{◌∙◌, cond, ap, sym, subst}
use Rattle.bound_rules.specs.declared.bound.Summary.{Summary}
use Rattle.walk_sums.specs.declared.sections.Sum.TheVariants as sum
use Rattle.walk_sums.specs.Rounds.{IsTurn}
use Rattle.walk_sums.specs.Told.{IsToldSum, told}
use Rattle.walk_sums.proofs.Bodily.{facts_of}
use Rattle.walk_sums.proofs.Telling.{turn_told}
use Rattle.walk_sums.proofs.walks.Walks.turn_sum.Goals as goal

pub returns : goal.returns
returns c =
    let w = c.args.self.now in
    let is = c.told_sum.ensures ∙ ap (λ (s : Summary). cond s.is_endless sum.Endless (told s.on)) c.body_summary-summary.ensures.is in
    subst (IsToldSum (IsTurn w.app c.args.task) c.args.weights.now) (sym is)
    (turn_told w.config w.app (facts_of w.config w.app c.body_summary-summary.ensures.well_formed) c.args.weights.now c.requires.weights c.args.table.now c.args.task c.requires.inside c.requires.table)
