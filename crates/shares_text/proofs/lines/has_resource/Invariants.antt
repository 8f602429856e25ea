use Rattle.std.proofs.Common.{◌≡◌}
use Rattle.shares_text.specs.SharesText.{has_below}
use Rattle.shares_text.proofs.lines.has_resource.Given as goal

abbrev pub invariant-loop-resource : goal.invariant-loop-resource
invariant-loop-resource l = l.found ≡ has_below l.set l.resource
