-- The line that a bus chooses; without a controller there is none.
use Rattle.std.specs.Prelude.{ℕ, Option, None, if◌then◌else◌}
use Rattle.sloth_base.specs.Choose.{choose_line}
use Rattle.rv32_instr.specs.Memory.{Memory}

-- the line to be taken at a level; without a controller there is none
abbrev pub choice : Memory → ℕ → Option ℕ
choice memory level = if memory.controller then choose_line memory.lines level else None
