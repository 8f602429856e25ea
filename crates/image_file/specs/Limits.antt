-- The limits of the numbers of a header.
use Rattle.std.specs.Prelude.{◌≡◌, ◌≤◌, ◌%◌, ℕ, zero, suc}
use Rattle.sloth_base.specs.Limits.{task_limit, counter_limit, body_limit, mark_limit}
use Rattle.sloth_base.specs.MemoryMap.{memory_bytes}
use Rattle.image_file.specs.declared.header.Sizes.{Sizes}

-- these numbers are within the limits
pub record SizesFit (sizes : Sizes) : Type 0 where
  pub few_tasks : sizes.tasks ≤ task_limit
  pub few_functions : sizes.funcs ≤ body_limit
  pub few_counters : sizes.counters ≤ counter_limit
  pub memory_fits : sizes.memory ≤ memory_bytes
  pub whole_words : sizes.memory % 4 ≡ 0
  pub few_marks : sizes.marks ≤ mark_limit

-- the length of the header of a file with so many counters
abbrev pub header_size : ℕ → ℕ
header_size zero = 24
header_size (suc more) = 28
