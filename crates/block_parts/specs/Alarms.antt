-- A piece of the services on alarms. x4 holds the base of memory, x10 and x11 the operands, a0 and a1.
use Rattle.std.specs.Prelude.{ℕ, pos, negsuc, List, [], ◌∷◌}
use Rattle.sloth_region.specs.Layout.{counter_value, controller_high}
use Rattle.rv32_instr.specs.declared.InstrKind.{InstrKind}
use Rattle.rv32_instr.specs.declared.InstrKind.TheVariants.{Lui, Lw, Addi, Sub, Bltu}
use Rattle.block_parts.specs.Ticks.{passing_distance}

-- a0 := the ticks to the value in a0
abbrev pub finding_code : ℕ → List InstrKind
finding_code counter =
    Lw 3 4 (pos (counter_value counter)) ∷ Bltu 3 10 (passing_distance 2) ∷ Sub 3 3 1 ∷ Addi 3 3 (negsuc 0) ∷ Sub 10 10 3 ∷ Lui 3 controller_high ∷ []
