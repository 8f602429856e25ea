-- Pieces with which an image begins.
use Rattle.std.specs.Prelude.{ℕ, ℤ, ◌≡◌, Bool, true, false, pos, List, [], ◌∷◌}
use Rattle.sloth_base.specs.Arithmetic.{plus}
use Rattle.sloth_region.specs.Layout.{pending_byte}
use Rattle.rv32_instr.specs.declared.InstrKind.{InstrKind}
use Rattle.rv32_instr.specs.declared.InstrKind.TheVariants.{Sb, Jal}

-- a line is pending where its task is autostarted; x3 holds the controller's address, x4 holds 1
abbrev pub line_code : ℕ → Bool → List InstrKind
line_code line true = Sb 3 4 (pos (pending_byte line)) ∷ []
line_code line false = []

-- the idle loop, which jumps to itself
abbrev pub idle_code : List InstrKind
idle_code = Jal 0 (pos 0) ∷ []

-- an instruction at an address jumps to another, and writes no register
abbrev pub IsJump : ℕ → ℕ → InstrKind → Type 0
IsJump from target kind = (imm : ℤ) × (kind ≡ Jal 0 imm) × (plus from imm ≡ target)
