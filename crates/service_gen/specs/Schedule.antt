-- Schedule (OSEK OS 2.2.3, section 13.2.3.4), and the way back from it.
use Rattle.std.specs.Prelude.{ℕ, ◌+◌, ◌≡◌, ◌≢◌, ◌<◌, ◌≤◌, true, List, [], ◌∷◌, ◌++◌, length, slice_index}
use Rattle.sloth_base.specs.declared.service.Service.TheVariants as service
use Rattle.sloth_base.specs.Machine.{Core, State}
use Rattle.sloth_base.specs.Status.{E_OK}
use Rattle.sloth_base.specs.MemoryMap.{memory_base}
use Rattle.sloth_base.specs.Limits.{task_limit}
use Rattle.sloth_region.specs.Layout.{cur}
use Rattle.rv32_instr.specs.declared.InstrKind.{InstrKind}
use Rattle.rv32_instr.specs.Ram.{word_at}
use Rattle.masked_code.specs.Masked.{FromOpening}
use Rattle.masked_code.specs.Place.{offset_state}
use Rattle.masked_code.specs.Kernel.{CanRun, HasBases, IsOpenedCore, masking}
use Rattle.block_parts.specs.ServiceCode.{IsServiceCode}
use Rattle.block_parts.specs.Back.{CanGoBack, a0}

-- the register of the level to come back to
abbrev pub start_register : ℕ
start_register = 30

-- where the way back stands in the code: behind 6 instructions
abbrev pub way_back : ℕ
way_back = 24

-- the code can run, this task runs, and its line has a level
pub record MayYield (offset task : ℕ) (code : List InstrKind) (core : Core) : Type 0 where
  pub can_run : CanRun offset code core
  pub previous : core.mpie ≡ true
  -- as every stretch ends by `mret`
  pub same_level : core.plevel ≡ core.ilevel
  pub bases : HasBases core.registers
  pub runs : word_at core.ram cur ≡ task + 1
  pub is_task : task < task_limit
  pub line : slice_index core.levels task < 256

-- The level of the task's line runs, so that what is above it may run; the one that ran is kept for the way back, which comes next.
-- The status is E_OK. Of x5 to x31 no other is new.
pub record ScheduleEffect (offset task : ℕ) (touched : List ℕ) (start end : State) : Type 0 where
  pub touches : touched ≡ []
  pub left : IsOpenedCore (record start.core { ilevel = slice_index start.core.levels task }) end.core
  pub pc : end.pc ≡ memory_base + (offset + way_back)
  pub x2 : slice_index end.core.registers 2 ≡ slice_index start.core.registers 2
  pub status : slice_index end.core.registers a0 ≡ E_OK
  pub level : slice_index end.core.registers start_register ≡ start.core.ilevel
  pub kept : (i : ℕ) → 5 ≤ i → i ≢ a0 → i ≢ start_register → slice_index end.core.registers i ≡ slice_index start.core.registers i

-- the code can run, and the level to come back to is one
pub record MayComeBack (offset : ℕ) (code : List InstrKind) (core : Core) : Type 0 where
  pub goes_back : CanGoBack offset code core
  pub level : slice_index core.registers start_register < 256

-- The level that was kept runs again, and the caller goes on; no register is new.
pub record WayBackEffect (touched : List ℕ) (start end : State) : Type 0 where
  pub touches : touched ≡ []
  pub left : IsOpenedCore (record start.core { ilevel = slice_index start.core.registers start_register }) end.core
  pub pc : end.pc ≡ slice_index start.core.registers 31
  pub registers : end.core.registers ≡ start.core.registers

-- Behind the first instruction at most 8 more lead to the effect, whatever lines arrive. So do at most 3 behind the first of the way back.
pub record HasBothEffects (code : List InstrKind) : Type 0 where
  pub masks_again : (first rest : List InstrKind) × (code ≡ first ++ masking ∷ rest) × (length first ≡ 6)
  pub lowers : (offset task : ℕ) (core : Core) → MayYield offset task code core → FromOpening 8 (offset_state offset core) (ScheduleEffect offset task)
  pub comes_back : (offset : ℕ) (core : Core) → MayComeBack offset code core → FromOpening 3 (offset_state (offset + way_back) core) WayBackEffect

-- code of Schedule
abbrev pub IsScheduleCode : List InstrKind → Type 0
IsScheduleCode code = IsServiceCode service.Schedule code (HasBothEffects code)
