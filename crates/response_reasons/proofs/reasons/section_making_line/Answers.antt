use Rattle.std.proofs.Common.{sym, subst}
use Rattle.run_windows.specs.RunWindows.{IsLeastOf}
use Rattle.run_windows.proofs.Leasts.{least_either}
use Rattle.response_reasons.specs.Reasons.{HasSectionMakingLoop}
use Rattle.response_reasons.proofs.reasons.section_making_line.Goals as goal

pub returns : goal.returns
returns c =
    let w = c.args.walks.now in
    subst (IsLeastOf (HasSectionMakingLoop w.config w.app c.args.h c.args.k c.args.j)) (sym c.lesser.ensures)
    (least_either _ _ c.in_ok-activated.activated c.in_ok-set.set c.in_ok-activated.ensures c.in_ok-set.ensures)
