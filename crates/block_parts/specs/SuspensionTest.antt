-- What the look at a task finds.
use Rattle.std.specs.Prelude.{ℕ, ◌≡◌, slice_index}
use Rattle.sloth_base.specs.Machine.{Core}
use Rattle.sloth_region.specs.Layout.{active}
use Rattle.rv32_instr.specs.Ram.{word_at}

-- a task is Suspended: it is not Active, its line is not pending, and the line is enabled, so it does not wait
abbrev pub IsFoundSuspended : ℕ → Core → Type 0
IsFoundSuspended task core = (word_at core.ram (active task) ≡ 0) × (slice_index core.pending task ≡ 0) × (slice_index core.enabled task ≡ 1)
