use Rattle.std.proofs.Common.{◌≡◌, ℕ, ◌<◌, length, get_or}
use Rattle.sloth_base.specs.Named.{no_function}
use Rattle.holds_infer.specs.BodyFilling.{IsBodyFilling}
use Rattle.holds_infer.proofs.inference.body_fillings.Given as goal

abbrev pub invariant-loop-func : goal.invariant-loop-func
invariant-loop-func l = record {
  count : length l.made.items ≡ l.func-index;
  each : (b : ℕ) → b < l.func-index → IsBodyFilling (get_or l.funcs b no_function) (get_or l.made.items b no_function);
}
