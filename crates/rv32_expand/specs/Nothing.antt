-- The instruction that does nothing.
use Rattle.std.specs.Prelude.{pos}
use Rattle.rv32_instr.specs.declared.InstrKind.{InstrKind}
use Rattle.rv32_instr.specs.declared.InstrKind.TheVariants.{Addi}

-- an instruction that does nothing: `addi x0, x0, 0`
abbrev pub nop : InstrKind
nop = Addi 0 0 (pos 0)
