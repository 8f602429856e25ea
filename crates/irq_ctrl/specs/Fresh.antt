-- The controller as the machine starts.
use Rattle.std.specs.Prelude.{replicate}
use Rattle.sloth_base.specs.Lines.{Lines}
use Rattle.sloth_base.specs.MemoryMap.{line_count}

-- each byte is zero
abbrev pub fresh_lines : Lines
fresh_lines = record { pending = replicate line_count 0; enabled = replicate line_count 0; levels = replicate line_count 0 }
