use Rattle.std.proofs.Common.{◌≡◌, ℕ, ◌<◌, true, false, get_or}
use Rattle.sloth_base.specs.Named.{label_of}
use Rattle.code_rules.specs.Code.{held_list_at}
use Rattle.fault_witnesses.proofs.body_lists.judge_labels.Given as goal

abbrev pub invariant-loop-number : goal.invariant-loop-number
invariant-loop-number l = (k : ℕ) → get_or l.marks k false ≡ true
    → (n : ℕ) → n < l.number → (label_of l.func n).item ≡ k → (label_of l.func n).holds ≡ held_list_at l.func k
