-- The memory as the machine starts: the image's bytes and then zeros in RAM, and zero in all else.
use Rattle.std.specs.Prelude.{ℕ, ◌-◌, List, ◌++◌, length, replicate, true}
use Rattle.sloth_base.specs.declared.image.Image.{Image}
use Rattle.sloth_base.specs.MemoryMap.{memory_bytes}
use Rattle.irq_ctrl.specs.Fresh.{fresh_lines}
use Rattle.rv32_instr.specs.Memory.{Memory}

-- 2,097,152 bytes that begin with these
unfoldable pub ram_of : List ℕ → List ℕ
ram_of bytes = bytes ++ replicate (memory_bytes - length bytes) 0

-- what a bus with a controller starts with
abbrev pub sloth_start : Image → Memory
sloth_start image = record { ram = ram_of image.memory; lines = fresh_lines; controller = true }
