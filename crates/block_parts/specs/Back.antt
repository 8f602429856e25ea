-- Services that go back to their caller at once.
use Rattle.std.specs.Prelude.{ℕ, ◌%◌, ◌≡◌, ◌<◌, ◌≤◌, ◌⊎◌, true, List, slice_index}
use Rattle.sloth_base.specs.Machine.{Core, State}
use Rattle.rv32_instr.specs.declared.InstrKind.{InstrKind}
use Rattle.masked_code.specs.Kernel.{CanRun, HasBases, IsOpenedCore}

-- the code stands at an offset, and the address to go back to in x31
pub record CanGoBack (offset : ℕ) (code : List InstrKind) (core : Core) : Type 0 where
  pub can_run : CanRun offset code core
  pub previous : core.mpie ≡ true
  -- as every stretch ends by `mret`, what it goes back to is the level that runs
  pub same_level : core.plevel ≡ core.ilevel
  pub bases : HasBases core.registers
  pub back : slice_index core.registers 31 % 4 ≡ 0

-- the register of a service's status
abbrev pub a0 : ℕ
a0 = 10

-- the register of its answer
abbrev pub a1 : ℕ
a1 = 11

-- The caller goes on, and the machine is left as in this core. Of x5 to x31 only those from a0 to the last answer are new; x1
-- and mepc hold anything.
pub record BackEffect (last : ℕ) (core : Core) (start end : State) : Type 0 where
  pub left : IsOpenedCore core end.core
  pub pc : end.pc ≡ slice_index start.core.registers 31
  pub x2 : slice_index end.core.registers 2 ≡ slice_index start.core.registers 2
  pub kept : (i : ℕ) → 5 ≤ i → (i < a0) ⊎ (last < i) → slice_index end.core.registers i ≡ slice_index start.core.registers i
