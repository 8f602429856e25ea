-- An access by an index under a mask that is too large for an instruction.
use Rattle.std.specs.Prelude.{ℕ, List, [], ◌∷◌, ◌++◌}
use Rattle.sloth_base.specs.Arithmetic.{hi, lo}
use Rattle.sloth_base.specs.declared.app.Op.{Op}
use Rattle.sloth_base.specs.declared.app.Op.TheVariants as op
use Rattle.rv32_instr.specs.Access.{load, store}
use Rattle.rv32_instr.specs.declared.InstrKind.{InstrKind}
use Rattle.rv32_instr.specs.declared.InstrKind.TheVariants.{Lui, Addi, Add, And}

-- x31 is the address of a masked index into a symbol, less the low part
abbrev pub far_indexed : (index mask address : ℕ) → List InstrKind
far_indexed index mask address = Lui 30 (hi mask) ∷ Addi 30 30 (lo mask) ∷ And 31 index 30 ∷ Lui 30 (hi address) ∷ Add 31 31 30 ∷ []

-- the six instructions of an access to the symbol at an address
abbrev pub wide : Op → (address : ℕ) → List InstrKind
wide (op.LoadAt w rd symbol index mask) address = far_indexed index mask address ++ (load w rd 31 (lo address) ∷ [])
wide (op.StoreAt w rs symbol index mask) address = far_indexed index mask address ++ (store w rs 31 (lo address) ∷ [])
wide _ address = []
