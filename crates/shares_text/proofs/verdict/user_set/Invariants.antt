use Rattle.std.proofs.Common.{◌≡◌, ℕ, ◌<◌, ◌||◌, drop}
use Rattle.std.specs.Prelude.{◌==◌}
use Rattle.std.specs.List.{list_any}
use Rattle.call_graph.specs.Bits.{is_member}
use Rattle.shares_text.proofs.verdict.user_set.Given as goal

abbrev pub invariant-loop-used : goal.invariant-loop-used
invariant-loop-used l = (t : ℕ) → t < 32 → (is_member l.users t || list_any (λ u. u.task == t) (drop l.used-index l.uses)) ≡ list_any (λ u. u.task == t) l.uses
