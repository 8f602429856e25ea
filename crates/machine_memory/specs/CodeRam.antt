-- Instructions of words of RAM that are kept.
use Rattle.std.specs.Prelude.{◌≡◌, ◌*◌, ℕ, List, Option, Some, None, get_or}
use Rattle.rv32_instr.specs.Ram.{word_at}
use Rattle.rv32_instr.specs.Table.{Decode}
use Rattle.rv32_instr.specs.declared.InstrKind.{InstrKind}

-- each instruction that is kept is that of the word which stands in its place now
pub record AreDecoded (ram : List ℕ) (kept : List (Option InstrKind)) : Type 0 where
  pub each : (word : ℕ) (instr : InstrKind) → get_or kept word None ≡ Some instr → Decode (word_at ram (word * 4)) ≡ Some instr
