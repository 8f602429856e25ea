use Rattle.std.proofs.Common.{◌≡◌, ◌++◌, drop}
use Rattle.shares_text.specs.Computed.{uses_among}
use Rattle.shares_text.proofs.contexts.uses.Given as goal

abbrev pub invariant-loop-access : goal.invariant-loop-access
invariant-loop-access l = l.uses.items ++ uses_among l.tasks l.symbol (drop l.access-index l.accesses) ≡ uses_among l.tasks l.symbol l.accesses
