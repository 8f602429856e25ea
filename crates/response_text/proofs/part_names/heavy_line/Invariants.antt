use Rattle.std.proofs.Common.{get_or}
use Rattle.sloth_base.specs.Named.{function}
use Rattle.bound_rules.specs.Weights.{no_weights}
use Rattle.run_windows.specs.RunWindows.{IsLeastOf}
use Rattle.run_windows.proofs.Leasts.{Below}
use Rattle.response_text.specs.PartNames.{HasNumber}
use Rattle.response_text.proofs.part_names.heavy_line.Given as goal

abbrev pub invariant-loop-number : goal.invariant-loop-number
invariant-loop-number l = IsLeastOf (Below (λ f. HasNumber (function l.app f) (get_or l.weights f no_weights).ending l.late) l.number) l.least
