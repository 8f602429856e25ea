-- Loads and stores by the place that they go to.
use Rattle.std.proofs.Common.{◌≡◌, ℕ, ◌-◌, None, refl, true, false, arith, subst}
use Rattle.std.proofs.lemmas.Bool.Decides.{nat_tests}
use Rattle.sloth_base.specs.declared.app.Width.{Width}
use Rattle.sloth_base.specs.declared.app.Width.TheVariants as width
use Rattle.sloth_base.specs.Lines.{controller_byte, with_controller_byte}
use Rattle.std.specs.Prelude.{◌%◌}
use Rattle.rv32_instr.specs.Memory.{Memory, in_ram, refusal, loaded_number, stored_memory}
use Rattle.sloth_base.specs.Arithmetic.{size_of, extended_number}
use Rattle.sloth_base.specs.MemoryMap.{memory_base, controller_base}
use Rattle.rv32_instr.specs.Ram.{word_at}
use Rattle.machine_memory.specs.Place.{IsPlace, bare_memory, bytes_at, with_bytes}
use Rattle.machine_memory.specs.declared.sloth.Place.{Place}
use Rattle.machine_memory.specs.declared.sloth.Place.TheVariants as place

-- a refusal depends on the controller's being there alone
pub refusal_bare
    : (memory : Memory) (address : ℕ) (w : Width) → refusal memory address w ≡ refusal (bare_memory memory.controller) address w
unfolding refusal
refusal_bare memory address w = refl

pub loaded_ram
    : (memory : Memory) (address : ℕ) (w : Width) → in_ram address (size_of w) ≡ true
    → loaded_number memory address w ≡ extended_number w (bytes_at memory.ram (address - memory_base) w)
unfolding loaded_number
loaded_ram memory address width.Byte h = rw h refl
loaded_ram memory address width.Half h = refl
loaded_ram memory address width.Word h = refl
loaded_ram memory address width.ByteU h = rw h refl
loaded_ram memory address width.HalfU h = refl

pub loaded_controller
    : (memory : Memory) (address : ℕ) (w : Width) → in_ram address 1 ≡ false → size_of w ≡ 1
    → loaded_number memory address w ≡ extended_number w (controller_byte memory.lines (address - controller_base))
unfolding loaded_number
loaded_controller memory address width.Byte h s = rw h refl
loaded_controller memory address width.Half h s = cc
loaded_controller memory address width.Word h s = cc
loaded_controller memory address width.ByteU h s = rw h refl
loaded_controller memory address width.HalfU h s = cc

pub stored_ram
    : (memory : Memory) (address : ℕ) (w : Width) (value : ℕ) → in_ram address (size_of w) ≡ true
    → stored_memory memory address w value ≡ record memory { ram = with_bytes memory.ram (address - memory_base) w value }
unfolding stored_memory
stored_ram memory address width.Byte value h = rw h refl
stored_ram memory address width.Half value h = refl
stored_ram memory address width.Word value h = refl
stored_ram memory address width.ByteU value h = rw h refl
stored_ram memory address width.HalfU value h = refl

pub stored_controller
    : (memory : Memory) (address : ℕ) (w : Width) (value : ℕ) → in_ram address 1 ≡ false → size_of w ≡ 1
    → stored_memory memory address w value ≡ record memory { lines = with_controller_byte memory.lines (address - controller_base) (value % 256) }
unfolding stored_memory
stored_controller memory address width.Byte value h s = rw h refl
stored_controller memory address width.Half value h s = cc
stored_controller memory address width.Word value h s = cc
stored_controller memory address width.ByteU value h s = rw h refl
stored_controller memory address width.HalfU value h s = cc

-- a word of RAM is fetched
pub fetched : (memory : Memory) (address : ℕ) → loaded_number memory address width.Word ≡ word_at memory.ram (address - memory_base)
unfolding loaded_number
fetched memory address = refl

aligned
    : (address offset : ℕ) (w : Width) → refusal (bare_memory true) address w ≡ None → in_ram address (size_of w) ≡ true → offset ≡ address - memory_base
    → offset % size_of w ≡ 0
unfolding refusal
aligned address offset width.Byte h i e = omega arith
aligned address offset width.ByteU h i e = omega arith
aligned address offset width.Half h i e = grind (arith, nat_tests)
aligned address offset width.HalfU h i e = grind (arith, nat_tests)
aligned address offset width.Word h i e = grind (arith, nat_tests)

-- what is allowed in RAM is aligned there
pub aligned_offset
    : (address offset : ℕ) (w : Width) (p : Place) → refusal (bare_memory true) address w ≡ None → IsPlace true address w p → p ≡ place.Ram offset → offset % size_of w ≡ 0
aligned_offset address offset w p h at is =
    let P : Place → Type 0 = λ x. IsPlace true address w x in
    let there = subst P is at in
    aligned address offset w h there.0 there.1
