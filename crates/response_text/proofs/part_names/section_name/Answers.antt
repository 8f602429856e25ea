use Rattle.std.proofs.Common.{◌≡◌, ◌∙◌, ℕ, Option, Some, sym, ap}
use Rattle.std.specs.Prelude.{unwrap_or}
use Rattle.run_windows.specs.declared.costs.SectionCosts.{SectionCosts}
use Rattle.run_windows.specs.Costs.{section, section_counts}
use Rattle.response_text.proofs.OwnSections.{known_bound}
use Rattle.response_text.proofs.part_names.section_name.Goals as goal

pub returns-in_ok-line-in-Some : goal.returns-in_ok-line-in-Some
returns-in_ok-line-in-Some c =
    let costs = c.args.costs.now in
    let counts = c.in-Some.counts in
    let own : (section costs c.args.h c.args.k).counts ≡ Some counts = ap (λ (s : SectionCosts). s.counts) (sym c.section.ensures) ∙ c.in-Some.is in
    let bound : counts ≡ unwrap_or (section_counts costs c.args.h c.args.k) 0 =
    c.if-counts-bound.true ∙ (c.unwrap_or-bound.ensures ∙ ap (λ (o : Option ℕ). unwrap_or o 0) c.section_counts.ensures) in
    (counts, own, known_bound (section_counts costs c.args.h c.args.k) counts bound c.if-counts-gt0.true, c.in_ok-line-in-Some.ensures)
