use Rattle.std.proofs.Common.{◌≡◌, ◌<◌, rules, sym, subst}
use Rattle.osek_blocking.specs.Sections.{IsSection, IsLower}
use Rattle.walk_sums.specs.Told.{IsToldSum}
use Rattle.walk_sums.proofs.Bodily.{facts_of}
use Rattle.walk_sums.proofs.Telling.{section_told}
use Rattle.walk_sums.proofs.walks.Walks.sum_for_task.Goals as goal

pub returns-then-priority : goal.returns-then-priority
returns-then-priority c =
    let w = c.args.self.now in
    let low : IsLower w.config c.args.above c.args.task = search rules in
    record {
      lower = λ low.
          subst (IsToldSum (IsSection w.config w.app c.args.above c.args.task) c.args.weights.now) (sym c.told_section.ensures.is)
          (section_told w.config w.app (facts_of w.config w.app c.told_section.ensures.well_formed) c.args.weights.now c.requires.weights c.args.above c.requires.above
          c.args.whole.now c.args.own.now c.requires.whole c.requires.own c.args.task low);
      other = λ no. absurd (no low);
    }
