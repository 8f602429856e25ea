-- Code in place.
use Rattle.std.specs.Prelude.{ℕ, ◌+◌, ◌≡◌, List, [], ◌∷◌, Some}
use Rattle.sloth_base.specs.Machine.{Core, State}
use Rattle.sloth_base.specs.MemoryMap.{memory_base}
use Rattle.rv32_instr.specs.declared.InstrKind.{InstrKind}
use Rattle.rv32_instr.specs.Table.{Decode}
use Rattle.rv32_instr.specs.Encode.{Encode}
use Rattle.rv32_instr.specs.Ram.{word_at}

-- the state whose pc is at an offset in RAM
abbrev pub offset_state : ℕ → Core → State
offset_state offset core = record { pc = memory_base + offset; core = core }

-- the words of RAM from an offset on are these instructions
abbrev pub InPlace : List ℕ → ℕ → List InstrKind → Type 0
InPlace ram offset [] = Unit {0}
InPlace ram offset (kind ∷ code) = (Decode (word_at ram offset) ≡ Some kind) × InPlace ram (offset + 4) code

-- they are written there
abbrev pub AreWritten : List ℕ → ℕ → List InstrKind → Type 0
AreWritten ram offset [] = Unit {0}
AreWritten ram offset (kind ∷ code) = (word_at ram offset ≡ Encode kind) × AreWritten ram (offset + 4) code
