use Rattle.std.proofs.Common.{◌≡◌}
use Rattle.sloth_link.specs.Items.{item_blocks}
use Rattle.sloth_link.proofs.linking.items.Given as goal

abbrev pub invariant-loop-func : goal.invariant-loop-func
invariant-loop-func l = l.blocks.items ≡ item_blocks l.app l.places l.func
