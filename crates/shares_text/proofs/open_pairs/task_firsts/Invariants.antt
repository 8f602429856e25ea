use Rattle.std.proofs.Common.{◌≡◌, drop}
use Rattle.shares_text.specs.Computed.{firsts_of, no_firsts}
use Rattle.shares_text.proofs.open_pairs.task_firsts.Given as goal

abbrev pub invariant-loop-used : goal.invariant-loop-used
invariant-loop-used l = firsts_of l.task l.firsts (drop l.used-index l.uses) ≡ firsts_of l.task no_firsts l.uses
