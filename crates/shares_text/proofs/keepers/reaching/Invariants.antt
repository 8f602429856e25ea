use Rattle.std.proofs.Common.{◌≡◌, ℕ, ◌<◌, ◌&&◌, ltb}
use Rattle.std.specs.Prelude.{leb, get_or}
use Rattle.call_graph.specs.Bits.{is_member}
use Rattle.shares_text.proofs.keepers.reaching.Given as goal

abbrev pub invariant-loop-resource : goal.invariant-loop-resource
invariant-loop-resource l = (r : ℕ) → r < 64 → is_member l.set r ≡ (ltb r l.resource && leb l.priority (get_or l.ceilings r 0))
