use Rattle.std.proofs.Common.{◌≡◌, ◌++◌, map, drop}
use Rattle.holds_infer.specs.Spread.{relisted_label}
use Rattle.holds_infer.proofs.inference.relisted_labels.Given as goal

abbrev pub invariant-loop-label : goal.invariant-loop-label
invariant-loop-label l = l.made.items ++ map (relisted_label l.lists) (drop l.label-index l.labels) ≡ map (relisted_label l.lists) l.labels
