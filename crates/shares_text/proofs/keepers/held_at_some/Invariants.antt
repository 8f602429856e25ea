use Rattle.std.proofs.Common.{◌≡◌, ℕ, ◌||◌, drop}
use Rattle.call_graph.specs.Bits.{is_member}
use Rattle.shares_text.specs.Computed.{is_held_at_some}
use Rattle.shares_text.proofs.keepers.held_at_some.Given as goal

abbrev pub invariant-loop-used : goal.invariant-loop-used
invariant-loop-used l = (r : ℕ) → (is_member l.held r || is_held_at_some (drop l.used-index l.uses) l.task r) ≡ is_held_at_some l.uses l.task r
