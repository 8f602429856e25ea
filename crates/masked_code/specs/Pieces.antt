-- Runs of instructions over registers one after the other, and what they leave.
use Rattle.std.specs.Prelude.{ℕ, zero, suc, ◌+◌, ◌*◌, ℤ, pos, List, [], ◌∷◌, length, slice_index}
use Rattle.rv32_instr.specs.declared.InstrKind.{InstrKind}
use Rattle.rv32_instr.specs.declared.InstrKind.TheVariants.{Sw, Lw, Addi}

-- how far a branch goes that passes this code
abbrev pub past : List InstrKind → ℤ
past code = pos (4 + 4 * length code)

-- stores `count` registers from x_first on, register i at 4 i bytes behind the address in a register
abbrev pub saving_code : ℕ → ℕ → ℕ → List InstrKind
saving_code zero first base = []
saving_code (suc count) first base = Sw base first (pos (4 * first)) ∷ saving_code count (suc first) base

-- loads them from there
abbrev pub restoring_code : ℕ → ℕ → ℕ → List InstrKind
restoring_code zero first base = []
restoring_code (suc count) first base = Lw first base (pos (4 * first)) ∷ restoring_code count (suc first) base

-- sets them to zero
abbrev pub clearing_code : ℕ → ℕ → List InstrKind
clearing_code zero first = []
clearing_code (suc count) first = Addi first 0 (pos 0) ∷ clearing_code count (suc first)

-- stores zero to `count` words, from the one of this number behind the address in a register on
abbrev pub words_clearing_code : ℕ → ℕ → ℕ → List InstrKind
words_clearing_code zero number base = []
words_clearing_code (suc count) number base = Sw base 0 (pos (4 * number)) ∷ words_clearing_code count (suc number) base

-- the values of `count` registers from x_first on
abbrev pub registers_from : ℕ → ℕ → List ℕ → List ℕ
registers_from zero first registers = []
registers_from (suc count) first registers = slice_index registers first ∷ registers_from count (suc first) registers
