-- The lines that the steps of an open stretch touch.
use Rattle.std.specs.Prelude.{ℕ, ◌≡◌, ◌+◌, ◌≤◌, ◌<◌, nat_lt, Bool, List, length, Option, Some, None, IfSome, slice_index, slice_set}
use Rattle.std.specs.List.{list_any}
use Rattle.sloth_base.specs.declared.service.Arrival.{Arrival}
use Rattle.sloth_base.specs.declared.numbers.Step.{Step}
use Rattle.observe.specs.Observe.{is_touch}

-- Of each line there is the count after the last step of the stretch that touched it, or 0: the arrival's line was touched at
-- its moment or later.
abbrev pub was_touched : List ℕ → Arrival → Bool
was_touched touched arrival = nat_lt arrival.at (slice_index touched arrival.line)

-- the table after a step of this count that touches the line, or none
abbrev pub noted_touches : Option ℕ → ℕ → List ℕ → List ℕ
noted_touches None count touched = touched
noted_touches (Some line) count touched = slice_set touched line (count + 1)

-- the line that a step touches, if it touches one, is in the table
abbrev pub HasPlace : Step → Type 0
HasPlace step = IfSome step.touched (λ line. line < 256)

-- the table tells of the lines that these steps touch
pub record IsTouchTable (touched : List ℕ) (count : ℕ) (steps : List Step) : Type 0 where
  pub long : length touched ≡ 256
  pub earlier : (line : ℕ) → slice_index touched line ≤ count
  pub known : (line at : ℕ) → nat_lt at (slice_index touched line) ≡ list_any (is_touch at line) steps
