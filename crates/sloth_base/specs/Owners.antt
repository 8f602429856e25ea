-- What the lines of the interrupt controller are for (Sloth, RTSS 2009: a task is entered by its line).
use Rattle.std.specs.Prelude.{ℕ, ◌+◌, ◌-◌, ◌<◌, ◌≢◌, ◌&&◌, if◌then◌else◌, nat_lt, nat_le, Bool, List, length}
use Rattle.std.specs.List.{AllByRecursion}
use Rattle.sloth_base.specs.declared.config.Config.{Config}
use Rattle.sloth_base.specs.declared.image.Image.{Image}
use Rattle.sloth_base.specs.declared.numbers.LineKind.{LineKind}
use Rattle.sloth_base.specs.declared.numbers.LineKind.TheVariants as line_of
use Rattle.sloth_base.specs.declared.numbers.Owners.{Owners}
use Rattle.sloth_base.specs.Limits.{task_limit}

-- the line of the first counter; the others follow it
abbrev pub first_counter_line : ℕ
first_counter_line = task_limit

-- the line of a counter
abbrev pub counter_line : ℕ → ℕ
counter_line c = first_counter_line + c

-- the owners of lines in a configuration
abbrev pub owners_in : Config → Owners
owners_in config = record { tasks = length config.tasks; counters = length config.counters }

-- those that an image names
abbrev pub owners_named : Image → Owners
owners_named image = record { tasks = length image.tasks; counters = length image.counters }

-- the line is a counter's
abbrev pub is_counter_line : Owners → ℕ → Bool
is_counter_line owners line = nat_le first_counter_line line && nat_lt (line - first_counter_line) owners.counters

-- what a line is for: a task's line has the task's number
abbrev pub line_kind : Owners → ℕ → LineKind
line_kind owners line =
    if nat_lt line owners.tasks then line_of.Task line
    else if is_counter_line owners line then line_of.Counter (line - first_counter_line) else line_of.Unused

-- the line has an owner
abbrev pub IsOwned : Owners → ℕ → Type 0
IsOwned owners line = line_kind owners line ≢ line_of.Unused

-- each of these lines has one
abbrev pub AreOwned : Owners → List ℕ → Type 0
AreOwned owners lines = AllByRecursion (IsOwned owners) lines

-- each of these lines is a task's
abbrev pub AreTasks : Owners → List ℕ → Type 0
AreTasks owners lines = AllByRecursion (λ line. line < owners.tasks) lines
