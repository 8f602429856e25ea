-- The choice of the line to be taken: the pending and enabled one of highest level above the running level.
use Rattle.std.specs.Prelude.{ℕ, zero, suc, ◌≡◌, ◌<◌, ◌≤◌, ◌⊎◌, Option, Some, None, Bool, ◌&&◌, ◌==◌, nat_lt, if◌then◌else◌, slice_index}
use Rattle.sloth_base.specs.Machine.{Core}
use Rattle.sloth_base.specs.Lines.{Lines, lines_of}
use Rattle.sloth_base.specs.MemoryMap.{line_count}

-- a line may be taken where this level runs
pub record MayTake (lines : Lines) (level line : ℕ) : Type 0 where
  pub in_range : line < line_count
  pub is_pending : slice_index lines.pending line ≡ 1
  pub is_enabled : slice_index lines.enabled line ≡ 1
  pub is_above : level < slice_index lines.levels line

-- a line comes before another: by a higher level, or on equal levels by a number that is not greater
abbrev pub IsBetterLine : Lines → ℕ → ℕ → Type 0
IsBetterLine lines line other =
    (slice_index lines.levels other < slice_index lines.levels line)
    ⊎ ((slice_index lines.levels other ≡ slice_index lines.levels line) × (line ≤ other))

-- the chosen line may be taken, and comes before each line that may be taken; there is none where no line may be taken
abbrev pub IsChosen : Lines → ℕ → Option ℕ → Type 0
IsChosen lines level None = (line : ℕ) → MayTake lines level line → ⊥
IsChosen lines level (Some line) =
    MayTake lines level line × ((other : ℕ) → MayTake lines level other → IsBetterLine lines line other)

-- the choice, computed: the best among the lines below a number
abbrev pub may_take : Lines → ℕ → ℕ → Bool
may_take lines level line =
    (slice_index lines.pending line == 1)
    && ((slice_index lines.enabled line == 1) && nat_lt level (slice_index lines.levels line))

-- the better of the best line so far and another that may be taken
abbrev pub better_line : Lines → Option ℕ → ℕ → Option ℕ
better_line lines None line = Some line
better_line lines (Some best) line =
    if nat_lt (slice_index lines.levels best) (slice_index lines.levels line) then Some line else Some best

-- the best line below a number
unfoldable pub best_line_below : Lines → ℕ → ℕ → Option ℕ
best_line_below lines level zero = None
best_line_below lines level (suc line) =
    if may_take lines level line then better_line lines (best_line_below lines level line) line else best_line_below lines level line

-- the best of the 32 lines
unfoldable pub choose_line : Lines → ℕ → Option ℕ
choose_line lines level = best_line_below lines level line_count

-- the choice in a state of the machine; without a controller there is none
unfoldable pub choose : Core → Option ℕ
choose core = if core.controller then choose_line (lines_of core) core.ilevel else None
