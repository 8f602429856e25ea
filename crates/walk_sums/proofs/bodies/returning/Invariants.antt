use Rattle.std.proofs.Common.{◌≡◌, ℕ, true, false, length, get_or, take}
use Rattle.std.specs.Prelude.{Decides}
use Rattle.code_rules.specs.Code.{is_in}
use Rattle.walk_sums.specs.Activations.{CanReturn}
use Rattle.walk_sums.proofs.bodies.returning.Given as goal

abbrev pub invariant-loop-number : goal.invariant-loop-number
invariant-loop-number l = record {
  count : length l.returns.items ≡ length l.app.funcs;
  each : (g : ℕ) → is_in g (take l.number-index l.order) ≡ true → Decides (get_or l.returns.items g false) (CanReturn l.app g);
}
