use Rattle.std.proofs.Common.{◌≡◌}
use Rattle.sloth_link.specs.Items.{first_items}
use Rattle.sloth_link.proofs.linking.of_function.Given as goal

abbrev pub invariant-loop-index : goal.invariant-loop-index
invariant-loop-index l = l.blocks.items ≡ first_items l.app l.places l.func l.index
