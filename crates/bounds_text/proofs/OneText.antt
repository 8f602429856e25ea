-- Texts have one list of lines at most.
use Rattle.std.proofs.Common.{◌∙◌, get_or, length, sym, ap, subst}
use Rattle.sloth_base.specs.declared.config.Config.{Config}
use Rattle.sloth_source.proofs.Unique.{one_meaning}
use Rattle.bound_rules.specs.declared.bound.Bound.TheVariants as bound
use Rattle.bounds_text.specs.Bounds.{AreToldBounds}
use Rattle.bounds_text.proofs.OneTold.{one_told}
use Rattle.bounds_text.specs.BoundsText.{bound_lines, OneText}
use Rattle.bounds_text.proofs.Lines.{same-lines}

pub one_text : OneText
one_text oil src one other a b =
    let same = one_meaning oil src a.config b.config a.app b.app a.accepted b.accepted in
    let there : AreToldBounds a.config a.app b.has_lines.bounds = subst (λ c. AreToldBounds c a.app b.has_lines.bounds) (sym same.0) (subst (λ x. AreToldBounds b.config x b.has_lines.bounds) (sym same.1) b.has_lines.are_bounds) in
    a.has_lines.lines
    ∙ same-lines a.config.tasks a.has_lines.bounds b.has_lines.bounds (length a.config.tasks)
    (λ t lt. one_told a.config a.app t (get_or a.has_lines.bounds t bound.Endless) (get_or b.has_lines.bounds t bound.Endless) (a.has_lines.are_bounds.each t lt) (there.each t lt))
    ∙ ap (λ (c : Config). bound_lines c.tasks b.has_lines.bounds (length c.tasks)) same.0 ∙ sym b.has_lines.lines
