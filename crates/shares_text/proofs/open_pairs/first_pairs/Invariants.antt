use Rattle.std.proofs.Common.{◌≡◌, drop, None}
use Rattle.shares_text.specs.Computed.{first_pairs}
use Rattle.shares_text.proofs.open_pairs.first_pairs.Given as goal

abbrev pub invariant-loop-low : goal.invariant-loop-low
invariant-loop-low l = first_pairs l.tasks l.firsts l.first (drop l.low-index l.uses) ≡ first_pairs l.tasks l.firsts None l.uses
