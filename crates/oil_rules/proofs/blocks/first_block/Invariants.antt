use Rattle.std.proofs.Common.{◌≡◌, drop}
use Rattle.oil_rules.specs.Blocks.{first_block}
use Rattle.oil_rules.proofs.blocks.first_block.Given as goal

abbrev pub invariant-loop-n : goal.invariant-loop-n
invariant-loop-n l = first_block l.name (drop l.n l.attrs) ≡ first_block l.name l.attrs
