-- The vector words.
use Rattle.std.specs.Prelude.{ℕ, ◌+◌, ◌*◌, ◌%◌, ◌≡◌, ◌<◌, ◌≤◌, List, length, slice_index, slice_index_or, None}
use Rattle.sloth_base.specs.Machine.{Core}
use Rattle.rv32_instr.specs.declared.InstrKind.{InstrKind}
use Rattle.sloth_base.specs.MemoryMap.{vectors_base, boot_base, line_count}
use Rattle.rv32_instr.specs.Execute.{Going, step, touched}
use Rattle.masked_code.specs.Place.{offset_state, InPlace}
use Rattle.block_parts.specs.Boot.{IsJump}

-- each handler stands behind the vector words, within reach of a jump, at a multiple of 4
pub record AreInReach (handlers : List ℕ) : Type 0 where
  pub long : length handlers ≡ line_count
  pub aligned : (line : ℕ) → line < line_count → slice_index handlers line % 4 ≡ 0
  pub behind : (line : ℕ) → line < line_count → boot_base ≤ slice_index handlers line
  pub near : (line : ℕ) → line < line_count → slice_index handlers line < 0x8010_0400

-- each word, at 4 times its line behind the base of the vectors, jumps to the line's handler; there are so many
pub record AreJumps (words : ℕ) (handlers : List ℕ) (code : List InstrKind) : Type 0 where
  pub many : length code ≡ words
  pub each : (line : ℕ) (d : InstrKind) → line < words → IsJump (vectors_base + 4 * line) (slice_index handlers line) (slice_index_or code line d)

-- In place at the base of the vectors, the word of each line is a step to the line's handler, which changes nothing else and touches no line.
pub record StepToHandlers (handlers : List ℕ) (code : List InstrKind) : Type 0 where
  pub steps :
      (line : ℕ) (core : Core) → line < line_count → InPlace core.ram 0x400 code
      → step (offset_state (0x400 + 4 * line) core) ≡ Going (record { pc = slice_index handlers line; core = core })
  pub untouched : (line : ℕ) (core : Core) → line < line_count → InPlace core.ram 0x400 code → touched (offset_state (0x400 + 4 * line) core) ≡ None
