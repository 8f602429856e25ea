-- The loads and stores of memory by their width.
use Rattle.std.specs.Prelude.{ℕ, ℤ}
use Rattle.sloth_base.specs.declared.app.Width.{Width}
use Rattle.sloth_base.specs.declared.app.Width.TheVariants as width
use Rattle.rv32_instr.specs.declared.InstrKind.{InstrKind}
use Rattle.rv32_instr.specs.declared.InstrKind.TheVariants.{Lb, Lh, Lw, Lbu, Lhu, Sb, Sh, Sw}

-- a load of this width
abbrev pub load : Width → (rd base : ℕ) → ℤ → InstrKind
load width.Byte rd base offset = Lb rd base offset
load width.Half rd base offset = Lh rd base offset
load width.Word rd base offset = Lw rd base offset
load width.ByteU rd base offset = Lbu rd base offset
load width.HalfU rd base offset = Lhu rd base offset

-- a store of this width
abbrev pub store : Width → (rs base : ℕ) → ℤ → InstrKind
store width.Byte rs base offset = Sb base rs offset
store width.Half rs base offset = Sh base rs offset
store width.Word rs base offset = Sw base rs offset
store width.ByteU rs base offset = Sb base rs offset
store width.HalfU rs base offset = Sh base rs offset
