use Rattle.std.proofs.Common.{◌≡◌, false}
use Rattle.run_windows.specs.RunWindows.{IsLeastOf}
use Rattle.run_windows.specs.Windows.{is_lower}
use Rattle.run_windows.proofs.Leasts.{Below}
use Rattle.response_reasons.specs.Reasons.{HasSectionMakingLoop}
use Rattle.response_reasons.proofs.reasons.level_line.Given as goal

abbrev pub invariant-loop-j : goal.invariant-loop-j
invariant-loop-j l =
    IsLeastOf (Below (λ j line. (is_lower l.costs l.h j ≡ false) × HasSectionMakingLoop l.walks.config l.walks.app l.h l.k j line) l.j) l.least
