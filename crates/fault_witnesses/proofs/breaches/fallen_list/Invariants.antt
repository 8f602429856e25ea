use Rattle.std.proofs.Common.{◌≡◌}
use Rattle.code_rules.specs.Code.{held_list_fallen_into}
use Rattle.fault_witnesses.proofs.breaches.fallen_list.Given as goal

abbrev pub invariant-loop-number : goal.invariant-loop-number
invariant-loop-number l = l.held.items ≡ held_list_fallen_into l.func l.number
