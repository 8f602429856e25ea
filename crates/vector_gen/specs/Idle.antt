-- The idle loop.
use Rattle.std.specs.Prelude.{ℕ, ◌+◌, ◌%◌, ◌≡◌, ◌≤◌, List, length, None}
use Rattle.sloth_base.specs.declared.image.Mark.{Mark}
use Rattle.sloth_base.specs.declared.image.MarkKind.TheVariants as mark
use Rattle.sloth_base.specs.Machine.{Core}
use Rattle.sloth_base.specs.MemoryMap.{memory_bytes}
use Rattle.rv32_instr.specs.declared.InstrKind.{InstrKind}
use Rattle.rv32_instr.specs.Execute.{Going, step, touched}
use Rattle.masked_code.specs.Place.{offset_state, InPlace}

-- the mark on the idle loop
abbrev pub idle_mark : ℕ → Mark
idle_mark address = record { address = address; kind = mark.Idle; a = 0; b = 0; c = 0 }

-- One word, which in place goes back to itself and changes nothing: it never masks, and touches no line.
pub record IsIdleCode (code : List InstrKind) : Type 0 where
  pub word : length code ≡ 1
  pub stays :
      (offset : ℕ) (core : Core) → offset % 4 ≡ 0 → offset + 4 ≤ memory_bytes → InPlace core.ram offset code
      → step (offset_state offset core) ≡ Going (offset_state offset core)
  pub untouched : (offset : ℕ) (core : Core) → InPlace core.ram offset code → touched (offset_state offset core) ≡ None
