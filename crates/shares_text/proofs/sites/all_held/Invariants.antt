use Rattle.std.proofs.Common.{◌≡◌, ℕ, ◌<◌, length, get_or}
use Rattle.sloth_base.specs.Named.{function}
use Rattle.shares_text.specs.Sites.{no_row, AreHeld}
use Rattle.shares_text.proofs.sites.all_held.Given as goal

abbrev pub invariant-loop-number : goal.invariant-loop-number
invariant-loop-number l = record {
  count : length l.rows.items ≡ l.number;
  each : (f : ℕ) → f < l.number → AreHeld l.config (function l.app f) (get_or l.rows.items f no_row).items;
}
