use Rattle.std.proofs.Common.{◌≡◌, ℕ, ◌<◌, ◌||◌, drop}
use Rattle.code_rules.specs.Code.{is_in}
use Rattle.call_graph.specs.Bits.{is_member}
use Rattle.shares_text.proofs.verdict.resource_set.Given as goal

abbrev pub invariant-loop-resource : goal.invariant-loop-resource
invariant-loop-resource l = (r : ℕ) → r < 64 → (is_member l.set r || is_in r (drop l.resource-index l.held)) ≡ is_in r l.held
