use Rattle.std.proofs.Common.{◌≡◌, ◌<◌, ℕ, length}
use Rattle.std.specs.Prelude.{slice_index}
use Rattle.sloth_base.specs.Limits.{ceiling_count}
use Rattle.prio_levels.specs.Levels.{ceiling}
use Rattle.prio_levels.proofs.ceilings.Given as goal

abbrev pub invariant-loop-resource : goal.invariant-loop-resource
invariant-loop-resource l = record {
  done : (r : ℕ) → r < l.resource → slice_index l.ceilings r ≡ ceiling l.tasks r;
  whole : length l.ceilings ≡ ceiling_count;
}
