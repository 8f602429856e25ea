use Rattle.std.proofs.Common.{[], get_or}
use Rattle.sloth_base.specs.Named.{function}
use Rattle.run_windows.specs.RunWindows.{IsLeastOf}
use Rattle.run_windows.proofs.Leasts.{Below}
use Rattle.response_text.specs.PartNames.{HasNumber}
use Rattle.response_text.proofs.part_names.long_line.Given as goal

abbrev pub invariant-loop-number : goal.invariant-loop-number
invariant-loop-number l = IsLeastOf (Below (λ f. HasNumber (function l.app f) (get_or l.lengths.bodies f []) l.longest) l.number) l.least
