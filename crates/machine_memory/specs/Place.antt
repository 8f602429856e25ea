-- Where an access goes: to an offset in RAM, or in the controller.
use Rattle.std.specs.Prelude.{◌≡◌, ◌≤◌, ◌<◌, ◌+◌, ◌-◌, ℕ, List, [], Bool, true, false, slice_index}
use Rattle.sloth_base.specs.declared.app.Width.{Width}
use Rattle.sloth_base.specs.declared.app.Width.TheVariants as width
use Rattle.irq_ctrl.specs.Fresh.{fresh_lines}
use Rattle.sloth_base.specs.Arithmetic.{size_of}
use Rattle.sloth_base.specs.MemoryMap.{memory_bytes, memory_base, controller_base, controller_bytes}
use Rattle.rv32_instr.specs.Ram.{half_at, word_at, with_byte, with_half, with_word}
use Rattle.rv32_instr.specs.Memory.{Memory, in_ram}
use Rattle.machine_memory.specs.declared.sloth.Place.{Place}
use Rattle.machine_memory.specs.declared.sloth.Place.TheVariants as place

-- a memory with a controller or without one, whatever its bytes
abbrev pub bare_memory : Bool → Memory
bare_memory controller = record { ram = []; lines = fresh_lines; controller = controller }

-- the access at an address goes there
abbrev pub IsPlace : Bool → ℕ → Width → Place → Type 0
IsPlace controller address width (place.Ram offset) =
    (in_ram address (size_of width) ≡ true) × (offset ≡ address - memory_base) × (offset + size_of width ≤ memory_bytes)
IsPlace controller address width (place.Controller offset) =
    (controller ≡ true) × (in_ram address 1 ≡ false) × (size_of width ≡ 1) × (offset ≡ address - controller_base) × (offset < controller_bytes)

-- the bytes at an offset in RAM
abbrev pub bytes_at : List ℕ → ℕ → Width → ℕ
bytes_at ram offset width.Byte = slice_index ram offset
bytes_at ram offset width.Half = half_at ram offset
bytes_at ram offset width.Word = word_at ram offset
bytes_at ram offset width.ByteU = slice_index ram offset
bytes_at ram offset width.HalfU = half_at ram offset

-- the bytes with a value's low bytes written
abbrev pub with_bytes : List ℕ → ℕ → Width → ℕ → List ℕ
with_bytes ram offset width.Byte value = with_byte ram offset value
with_bytes ram offset width.Half value = with_half ram offset value
with_bytes ram offset width.Word value = with_word ram offset value
with_bytes ram offset width.ByteU value = with_byte ram offset value
with_bytes ram offset width.HalfU value = with_half ram offset value
