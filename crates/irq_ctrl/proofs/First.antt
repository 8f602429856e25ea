-- The line that is chosen where level 0 runs is the choice at each lower level, and there is none at the others.
use Rattle.std.proofs.Common.{◌≡◌, ℕ, ◌<◌, ◌≤◌, arith, Option, Some, None, slice_index}
use Rattle.std.specs.Option.{ForSome}
use Rattle.sloth_base.specs.Lines.{Lines}
use Rattle.sloth_base.specs.Choose.{MayTake, IsChosen, choose_line}
use Rattle.sloth_base.specs.MemoryMap.{line_count}
use Rattle.sloth_base.proofs.Choosing.{choose_line-is, only_choice}

-- what may be taken at a level may be taken at level 0
at_zero : (lines : Lines) (level line : ℕ) → MayTake lines level line → MayTake lines 0 line
at_zero lines level line m =
    let above = m.is_above in
    record { in_range = m.in_range; is_pending = m.is_pending; is_enabled = m.is_enabled; is_above = omega arith }

pub first_in_range : (lines : Lines) (line : ℕ) → IsChosen lines 0 (Some line) → line < line_count
first_in_range lines line first = first.0.in_range

-- it is the choice at a lower level
pub first_chosen
    : (lines : Lines) (level line : ℕ) → IsChosen lines 0 (Some line) → level < slice_index lines.levels line
    → IsChosen lines level (Some line)
first_chosen lines level line first above = (
  record { in_range = first.0.in_range; is_pending = first.0.is_pending; is_enabled = first.0.is_enabled; is_above = above },
  λ other m. first.1 other (at_zero lines level other m),
)

-- no line stands above its level
pub none_above
    : (lines : Lines) (level line : ℕ) → IsChosen lines 0 (Some line) → slice_index lines.levels line ≤ level
    → IsChosen lines level None
none_above lines level line first low = λ other m.
    let p = first.1 other (at_zero lines level other m) in
    let above = m.is_above in
    grind (arith, p)

pub none_at_all : (lines : Lines) (level : ℕ) → IsChosen lines 0 None → IsChosen lines level None
none_at_all lines level none = λ other m. none other (at_zero lines level other m)

-- a chosen line is one of 32
pub chosen_in_range : (lines : Lines) (level : ℕ) (line : Option ℕ) → IsChosen lines level line → ForSome line (λ l. l < line_count)
chosen_in_range lines level None chosen = λ l is. absurd cc
chosen_in_range lines level (Some line) chosen = λ l is. let e : line ≡ l = cc in let lower = chosen.0.in_range in omega (arith, e)

-- there is one choice
pub chosen_line : (lines : Lines) (level : ℕ) (line : Option ℕ) → IsChosen lines level line → line ≡ choose_line lines level
chosen_line lines level line chosen = only_choice lines level line (choose_line lines level) chosen (choose_line-is lines level)
