use Rattle.std.proofs.Common.{◌≡◌, drop}
use Rattle.shares_text.specs.Computed.{first_pair}
use Rattle.shares_text.proofs.open_pairs.first_pair.Given as goal

abbrev pub invariant-loop-high : goal.invariant-loop-high
invariant-loop-high l = first_pair l.firsts l.low l.high l.first (drop l.high l.tasks) ≡ first_pair l.firsts l.low 0 l.fn.found l.tasks
