use Rattle.std.proofs.Common.{◌≡◌, ◌+◌, drop}
use Rattle.std.specs.List.{prefix_len}
use Rattle.oil_rules.specs.Blocks.{is_inner}
use Rattle.oil_rules.proofs.blocks.count_inner.Given as goal

abbrev pub invariant-loop-n : goal.invariant-loop-n
invariant-loop-n l = l.n + prefix_len is_inner (drop l.n l.attrs) ≡ prefix_len is_inner l.attrs
