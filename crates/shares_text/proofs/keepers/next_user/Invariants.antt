use Rattle.shares_text.specs.Computed.{IsNextUser}
use Rattle.shares_text.proofs.keepers.next_user.Given as goal

abbrev pub invariant-loop-number : goal.invariant-loop-number
invariant-loop-number l = IsNextUser l.tasks l.users l.above l.number l.best
