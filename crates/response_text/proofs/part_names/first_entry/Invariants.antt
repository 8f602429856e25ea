use Rattle.std.proofs.Common.{ℕ, ◌<◌}
use Rattle.response_text.specs.PartNames.{IsEntry}
use Rattle.response_text.proofs.part_names.first_entry.Given as goal

abbrev pub invariant-loop-task : goal.invariant-loop-task
invariant-loop-task l = (t : ℕ) → t < l.task → IsEntry l.config l.app l.late t → ⊥
