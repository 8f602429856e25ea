-- Registers behind the code that loads or clears them.
use Rattle.std.specs.Prelude.{ℕ, zero, suc, ◌+◌, ◌*◌, List, slice_set}
use Rattle.rv32_instr.specs.Ram.{word_at}

-- the registers with these loaded, from the context at an offset in RAM
abbrev pub restored_registers : ℕ → ℕ → List ℕ → ℕ → List ℕ → List ℕ
restored_registers zero first ram place registers = registers
restored_registers (suc count) first ram place registers =
    restored_registers count (suc first) ram place (slice_set registers first (word_at ram (place + 4 * first)))

-- the registers with so many of them 0, from this one on
abbrev pub cleared_registers : ℕ → ℕ → List ℕ → List ℕ
cleared_registers zero first registers = registers
cleared_registers (suc count) first registers = cleared_registers count (suc first) (slice_set registers first 0)
