use Rattle.std.proofs.Common.{◌≡◌}
use Rattle.sloth_base.specs.Named.{label_of}
use Rattle.task_verify.specs.Labels.{last_label_below}
use Rattle.fault_witnesses.proofs.breaches.label_before.Given as goal

abbrev pub invariant-loop-number : goal.invariant-loop-number
invariant-loop-number l = l.found ≡ last_label_below l.func.labels (label_of l.func l.fn.label).item l.number
