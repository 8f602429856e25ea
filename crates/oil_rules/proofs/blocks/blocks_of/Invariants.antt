use Rattle.std.proofs.Common.{◌≡◌, ◌++◌, drop}
use Rattle.oil_rules.specs.Blocks.{blocks_of}
use Rattle.oil_rules.proofs.blocks.blocks_of.Given as goal

abbrev pub invariant-loop-n : goal.invariant-loop-n
invariant-loop-n l = l.blocks.items ++ blocks_of (drop l.n l.attrs) ≡ blocks_of l.attrs
