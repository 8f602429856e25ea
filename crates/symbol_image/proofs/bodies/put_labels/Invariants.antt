use Rattle.std.proofs.Common.{◌≡◌, ◌++◌, drop, length}
use Rattle.symbol_image.specs.Entries.{label_entry, stands_before}
use Rattle.symbol_image.proofs.Steps.{kept_bytes}
use Rattle.symbol_image.proofs.bodies.put_labels.Given as goal

abbrev pub invariant-loop-label : goal.invariant-loop-label
invariant-loop-label l =
    l.info.items ++ kept_bytes (label_entry l.places l.end l.n) (stands_before (length l.func.items)) (drop l.label-index l.func.labels)
    ≡ l.fn.info.items ++ kept_bytes (label_entry l.places l.end l.n) (stands_before (length l.func.items)) l.func.labels
