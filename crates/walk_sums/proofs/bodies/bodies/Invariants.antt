use Rattle.std.proofs.Common.{◌≡◌, ℕ, ◌<◌, length, get_or}
use Rattle.walk_sums.specs.KnownBodies.{IsKnownBody, no_body}
use Rattle.walk_sums.proofs.bodies.bodies.Given as goal

abbrev pub invariant-loop-number : goal.invariant-loop-number
invariant-loop-number l = record {
  count : length l.bodies.items ≡ l.number;
  each : (f : ℕ) → f < l.number → IsKnownBody l.config l.app f (get_or l.bodies.items f no_body);
}
