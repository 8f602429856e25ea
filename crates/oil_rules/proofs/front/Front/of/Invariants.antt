use Rattle.std.proofs.Common.{◌≡◌, take}
use Rattle.oil_rules.proofs.front.Front.of.Given as goal

abbrev pub invariant-loop-number : goal.invariant-loop-number
invariant-loop-number l = l.front ≡ take l.number l.objects
