use Rattle.std.proofs.Common.{◌≡◌, ℕ, ◌<◌, get_or}
use Rattle.fault_witnesses.specs.CallChains.{IsCallOn, caller_at, no_link}
use Rattle.fault_witnesses.proofs.chains.is_chain.Given as goal

abbrev pub invariant-loop-number : goal.invariant-loop-number
invariant-loop-number l = record {
  caller : l.caller ≡ caller_at l.start l.links l.number;
  each : (n : ℕ) → n < l.number → IsCallOn l.app (caller_at l.start l.links n) (get_or l.links n no_link);
}
