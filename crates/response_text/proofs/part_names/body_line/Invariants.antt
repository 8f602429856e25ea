use Rattle.run_windows.specs.RunWindows.{IsLeastOf}
use Rattle.run_windows.proofs.Leasts.{Below}
use Rattle.response_text.specs.PartNames.{HasNumberAt}
use Rattle.response_text.proofs.part_names.body_line.Given as goal

abbrev pub invariant-loop-item : goal.invariant-loop-item
invariant-loop-item l = IsLeastOf (Below (HasNumberAt l.func l.numbers l.wanted) l.item) l.least
