use Rattle.std.proofs.Common.{◌≡◌, ℕ, ◌&&◌, drop}
use Rattle.std.specs.Prelude.{ltb}
use Rattle.std.specs.List.{list_all}
use Rattle.sloth_base.specs.Limits.{ceiling_count}
use Rattle.call_graph.specs.Bits.{is_member}
use Rattle.shares_text.proofs.verdict.guard_set.Given as goal

abbrev pub invariant-loop-used : goal.invariant-loop-used
invariant-loop-used l = (r : ℕ) → (is_member l.guards r && list_all (λ u. is_member u.held r) (drop l.used-index l.uses)) ≡ (ltb r ceiling_count && list_all (λ u. is_member u.held r) l.uses)
