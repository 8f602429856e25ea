-- What loads and stores see: 2 MiB of RAM from 0x80000000 on, and the controller's 96 bytes from 0x10000000 on.
use Rattle.std.specs.Prelude.{ℕ, ◌+◌, ◌-◌, ◌%◌, List, Bool, Option, Some, None, if◌then◌else◌, ◌==◌, ◌&&◌, ◌||◌, nat_le, nat_lt, slice_index}
use Rattle.sloth_base.specs.declared.app.Width.{Width}
use Rattle.sloth_base.specs.declared.app.Width.TheVariants as width
use Rattle.sloth_base.specs.Machine.{Core}
use Rattle.sloth_base.specs.Lines.{Lines, lines_of, controller_byte, with_controller_byte}
use Rattle.rv32_instr.specs.declared.encoding.Bad.{Bad}
use Rattle.rv32_instr.specs.declared.encoding.Bad.TheVariants as bad
use Rattle.sloth_base.specs.Arithmetic.{sign_extension, size_of}
use Rattle.sloth_base.specs.MemoryMap.{memory_base, memory_end, controller_base, controller_bytes}
use Rattle.rv32_instr.specs.Ram.{half_at, word_at, with_byte, with_half, with_word}

-- what an access sees
pub record Memory : Type 0 where
  pub ram : List ℕ
  pub lines : Lines
  -- whether the controller is there
  pub controller : Bool

-- that of a machine
abbrev pub memory_of : Core → Memory
memory_of core = record { ram = core.ram; lines = lines_of core; controller = core.controller }

-- the machine with this memory
abbrev pub with_memory : Core → Memory → Core
with_memory core memory = record core {
  ram = memory.ram;
  pending = memory.lines.pending;
  enabled = memory.lines.enabled;
  levels = memory.lines.levels;
  controller = memory.controller;
}

-- so many bytes from an address on are in RAM
abbrev pub in_ram : ℕ → ℕ → Bool
in_ram address size = nat_le memory_base address && nat_le (address + size) memory_end

-- an address is one of the controller's bytes
abbrev pub in_controller : ℕ → Bool
in_controller address = nat_le controller_base address && nat_lt address (controller_base + controller_bytes)

-- why an access is refused; the controller has byte accesses alone
unfoldable pub refusal : Memory → ℕ → Width → Option Bad
refusal memory address width =
    if address % size_of width == 0 then
    (if in_ram address (size_of width) || (memory.controller && (in_controller address && (size_of width == 1)))
    then None
    else Some bad.Access)
    else Some bad.Misaligned

-- what a load gives, which Byte and Half extend by the sign
abbrev pub loaded_byte : Memory → ℕ → ℕ
loaded_byte memory address =
    if in_ram address 1 then slice_index memory.ram (address - memory_base)
    else controller_byte memory.lines (address - controller_base)

-- the word that a load of this width gives
unfoldable pub loaded_number : Memory → ℕ → Width → ℕ
loaded_number memory address width.Byte = sign_extension 8 (loaded_byte memory address)
loaded_number memory address width.Half = sign_extension 16 (half_at memory.ram (address - memory_base))
loaded_number memory address width.Word = word_at memory.ram (address - memory_base)
loaded_number memory address width.ByteU = loaded_byte memory address
loaded_number memory address width.HalfU = half_at memory.ram (address - memory_base)

-- the memory after a store of the value's low bytes
abbrev pub stored_byte : Memory → ℕ → ℕ → Memory
stored_byte memory address value =
    if in_ram address 1 then record memory { ram = with_byte memory.ram (address - memory_base) value }
    else record memory { lines = with_controller_byte memory.lines (address - controller_base) (value % 256) }

-- the memory after a store of this width
unfoldable pub stored_memory : Memory → ℕ → Width → ℕ → Memory
stored_memory memory address width.Byte value = stored_byte memory address value
stored_memory memory address width.Half value =
    record memory { ram = with_half memory.ram (address - memory_base) value }
stored_memory memory address width.Word value =
    record memory { ram = with_word memory.ram (address - memory_base) value }
stored_memory memory address width.ByteU value = stored_byte memory address value
stored_memory memory address width.HalfU value =
    record memory { ram = with_half memory.ram (address - memory_base) value }
