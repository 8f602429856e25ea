-- The bytes of the interrupt controller: 32 pending bytes, 32 enable bytes and 32 level bytes, one of each kind for a line.
use Rattle.std.specs.Prelude.{ℕ, ◌-◌, List, if◌then◌else◌, nat_lt, ◌==◌, slice_index, slice_set}
use Rattle.sloth_base.specs.Machine.{Core}
use Rattle.sloth_base.specs.MemoryMap.{enabled_offset, levels_offset}

-- the three kinds of bytes
pub record Lines : Type 0 where
  pub pending : List ℕ
  pub enabled : List ℕ
  pub levels : List ℕ

-- those of a machine
abbrev pub lines_of : Core → Lines
lines_of core = record { pending = core.pending; enabled = core.enabled; levels = core.levels }

-- the byte at an offset from 0x10000000: pending bytes from 0 on, enable bytes from 32 on, level bytes from 64 on
unfoldable pub controller_byte : Lines → ℕ → ℕ
controller_byte lines offset =
    if nat_lt offset enabled_offset then slice_index lines.pending offset
    else if nat_lt offset levels_offset then slice_index lines.enabled (offset - enabled_offset)
    else slice_index lines.levels (offset - levels_offset)

-- what a pending or enable byte keeps: 1 for a value that is not zero, and 0 for zero
abbrev pub flag_of : ℕ → ℕ
flag_of value = if value == 0 then 0 else 1

-- the bytes after a store to an offset
unfoldable pub with_controller_byte : Lines → ℕ → ℕ → Lines
with_controller_byte lines offset value =
    if nat_lt offset enabled_offset then record lines { pending = slice_set lines.pending offset (flag_of value) }
    else if nat_lt offset levels_offset then record lines { enabled = slice_set lines.enabled (offset - enabled_offset) (flag_of value) }
    else record lines { levels = slice_set lines.levels (offset - levels_offset) value }
