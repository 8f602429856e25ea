-- Boot.
use Rattle.std.specs.Prelude.{ℕ, zero, suc, ◌+◌, ◌%◌, ◌≡◌, ◌<◌, ◌≤◌, ◌⊎◌, Bool, true, false, pos, List, [], ◌∷◌, ◌++◌, length, slice_index, slice_index_or}
use Rattle.sloth_base.specs.declared.config.TaskDecl.{TaskDecl}
use Rattle.sloth_base.specs.Machine.{Core, State}
use Rattle.sloth_base.specs.Owners.{first_counter_line, counter_line}
use Rattle.code_lengths.specs.CodeLengths.{boot_length}
use Rattle.sloth_region.specs.Layout.{idle_context, context_bytes, words_high, controller_high, enabled_byte, level_byte}
use Rattle.rv32_instr.specs.declared.csr.TheConstants.{MSTATUS, MEPC, MPIE}
use Rattle.rv32_instr.specs.declared.InstrKind.{InstrKind}
use Rattle.rv32_instr.specs.declared.InstrKind.TheVariants.{Lui, Addi, Sb, Csrrw, Mret}
use Rattle.sloth_base.specs.Arithmetic.{hi, lo}
use Rattle.sloth_base.specs.MemoryMap.{memory_base, line_count}
use Rattle.masked_code.specs.Place.{offset_state}
use Rattle.masked_code.specs.Masked.{Masked, WithArrivals}
use Rattle.masked_code.specs.Kernel.{CanRun, IsOpenedCore}
use Rattle.block_parts.specs.Boot.{line_code}

-- ---- the code

-- x3 and x4 as the code of each line expects them
abbrev pub register_code : List InstrKind
register_code = Lui 3 controller_high ∷ Addi 4 0 (pos 1) ∷ []

-- a task's line has its level and is enabled, and is pending where the task is autostarted
abbrev pub line_start_code : ℕ → ℕ → Bool → List InstrKind
line_start_code line level autostart = Addi 1 0 (pos level) ∷ Sb 3 1 (pos (level_byte line)) ∷ Sb 3 4 (pos (enabled_byte line)) ∷ line_code line autostart

-- those of the tasks from this line on
abbrev pub lines_code : ℕ → List TaskDecl → List ℕ → List InstrKind
lines_code line [] levels = []
lines_code line (task ∷ tasks) levels = line_start_code line (slice_index levels line) task.autostart ++ lines_code (suc line) tasks levels

-- those of so many counters, from this line on, at one level
abbrev pub counters_code : (count line level : ℕ) → List InstrKind
counters_code zero line level = []
counters_code (suc count) line level = line_start_code line level false ++ counters_code count (suc line) level

-- the stack and the state of the idle loop, and the way there
abbrev pub finishing_code : ℕ → List InstrKind
finishing_code idle =
    Lui 4 words_high ∷ Addi 2 4 (pos (idle_context + context_bytes)) ∷ Addi 1 0 MPIE ∷ Csrrw 0 1 MSTATUS ∷ Lui 1 (hi idle)
    ∷ Addi 1 1 (lo idle) ∷ Csrrw 0 1 MEPC ∷ Mret ∷ []

-- ---- what it needs, and its effect

-- the code stands at an offset, and runs masked
pub record MayBoot (offset : ℕ) (code : List InstrKind) (core : Core) : Type 0 where
  pub masked : core.mie ≡ false
  pub enabled : length core.enabled ≡ line_count
  pub levels : length core.levels ≡ line_count
  pub can_run : CanRun offset code core

-- a core at the level that was to be gone back to, with the lines' bytes of another
abbrev pub with_lines_of : Core → Core → Core
with_lines_of lines core = record core { ilevel = core.plevel; pending = lines.pending; enabled = lines.enabled; levels = lines.levels }

-- a line behind those of the tasks that is not one of so many counters
abbrev pub IsUnused : (tasks counters line : ℕ) → Type 0
IsUnused tasks counters line = (tasks ≤ line) × ((line < first_counter_line) ⊎ (counter_line counters ≤ line))

-- Each task's line has its level, is enabled, and is pending where the task is autostarted. The lines of so many counters have the level
-- above that of the highest task, and are enabled. All other lines' bytes, and all of RAM, stay. The idle loop is next, with interrupts open,
-- at the level that was to be gone back to.
pub record BootEffect (tasks : List TaskDecl) (counters : ℕ) (levels : List ℕ) (top idle : ℕ) (touched : List ℕ) (start end : State) : Type 0 where
  pub touches : touched ≡ []
  pub level : (line : ℕ) → line < length tasks → slice_index end.core.levels line ≡ slice_index levels line
  pub counter_level : (counter : ℕ) → counter < counters → slice_index end.core.levels (counter_line counter) ≡ top + 1
  pub other_levels : (line : ℕ) → IsUnused (length tasks) counters line → slice_index end.core.levels line ≡ slice_index start.core.levels line
  pub enabled : (line : ℕ) → line < length tasks → slice_index end.core.enabled line ≡ 1
  pub counter_enabled : (counter : ℕ) → counter < counters → slice_index end.core.enabled (counter_line counter) ≡ 1
  pub other_enabled : (line : ℕ) → IsUnused (length tasks) counters line → slice_index end.core.enabled line ≡ slice_index start.core.enabled line
  pub raised : (line : ℕ) (d : TaskDecl) → line < length tasks → (slice_index_or tasks line d).autostart ≡ true → slice_index end.core.pending line ≡ 1
  pub unraised :
      (line : ℕ) (d : TaskDecl) → line < length tasks → (slice_index_or tasks line d).autostart ≡ false
      → slice_index end.core.pending line ≡ slice_index start.core.pending line
  pub other_pending : (line : ℕ) → length tasks ≤ line → slice_index end.core.pending line ≡ slice_index start.core.pending line
  pub lines : (length end.core.pending ≡ line_count) × (length end.core.enabled ≡ line_count) × (length end.core.levels ≡ line_count)
  pub pc : end.pc ≡ idle
  pub left : IsOpenedCore (with_lines_of end.core start.core) end.core
  pub x2 : slice_index end.core.registers 2 ≡ memory_base + (idle_context + context_bytes)
  pub kept : (i : ℕ) → 5 ≤ i → slice_index end.core.registers i ≡ slice_index start.core.registers i

-- Code of boot: at most as many instructions as it has lead to its effect, whatever lines arrive.
pub record IsBootCode (tasks : List TaskDecl) (counters : ℕ) (levels : List ℕ) (top idle : ℕ) (code : List InstrKind) : Type 0 where
  pub size : length code ≡ boot_length tasks counters
  pub runs :
      (offset : ℕ) (core : Core) → idle % 4 ≡ 0 → MayBoot offset code core
      → Masked (boot_length tasks counters) (offset_state offset core) (WithArrivals (BootEffect tasks counters levels top idle) (offset_state offset core))
