-- Laws on the instructions of items and their lengths.
use Rattle.std.specs.Prelude.{ℕ, ◌+◌, ◌*◌, ◌<◌, ◌≤◌, ◌≡◌, Bool, false, List, [], ◌∷◌, ◌++◌, length}
use Rattle.sloth_base.specs.Named.{function}
use Rattle.sloth_base.specs.declared.app.App.{App}
use Rattle.sloth_base.specs.declared.app.Func.{Func}
use Rattle.sloth_base.specs.declared.app.Op.{Op}
use Rattle.sloth_base.specs.declared.app.Op.TheVariants as op
use Rattle.sloth_base.specs.declared.limits.Places.{Places}
use Rattle.code_rules.specs.AppRange.{IsTaskCode}
use Rattle.rv32_instr.specs.Range.{AreInRange}
use Rattle.rv32_instr.specs.declared.InstrKind.{InstrKind}
use Rattle.rv32_instr.specs.declared.InstrKind.TheVariants.{Lui, Auipc, Jal, Jalr, Beq, Bne, Blt, Bge, Bltu, Bgeu, Lb, Lh, Lw, Lbu, Lhu, Sb, Sh, Sw, Addi, Slti, Sltiu, Xori, Ori, Andi, Slli, Srli, Srai, Add, Sub, Sll, Slt, Sltu, Xor, Srl, Sra, Or, And, Fence, Csrrw, Csrrs, Csrrc, Csrrwi, Csrrsi, Csrrci, Ecall, Ebreak, Mret}
use Rattle.rv32_expand.specs.Expansion.{item_address, is_long, operation_code, expansion}
use Rattle.rv32_expand.specs.InPlace.{IsAppItem, result_register}
use Rattle.rv32_expand.specs.Long.{BranchSet, size, IsBranchTo, IsInBranchReach, AreLongBranches}
use Rattle.rv32_expand.specs.Sizes.{AreItemSizes, AgreeWithSizes, HasWordAddresses, IsVerified}

-- ---- lengths

-- an operation has as many instructions wherever it stands
abbrev pub LengthsAreSizes : Type 0
LengthsAreSizes = (app : App) (places : Places) (func address : ℕ) (long : Bool) (o : Op) → length (operation_code app places func address long o) ≡ size app long o

-- at least one instruction, and at most 36
abbrev pub ExpansionsAreFew : Type 0
ExpansionsAreFew = (app : App) → IsTaskCode app → (places : Places) (func address : ℕ) (long : Bool) (o : Op)
    → (1 ≤ length (operation_code app places func address long o)) × (length (operation_code app places func address long o) ≤ 36)

-- two least sets agree on every branch
abbrev pub LeastIsOne : Type 0
LeastIsOne = (app : App) (body : Func) (a b : BranchSet) → AreLongBranches app body a → AreLongBranches app body b → (index target : ℕ)
    → IsBranchTo body index target → a index ≡ b index

-- there is one list of lengths
abbrev pub SizesAreOne : Type 0
SizesAreOne = (app : App) (xs ys : List ℕ) → AreItemSizes app xs → AreItemSizes app ys → xs ≡ ys

-- ---- addresses that agree with the lengths

-- the branches that they make long are the least set
abbrev pub LeastAreLong : Type 0
LeastAreLong = (app : App) → IsVerified app → (places : Places) → AgreeWithSizes app places
    → (func : ℕ) → func < length app.funcs → AreLongBranches app (function app func) (is_long places func)

-- each item stands behind the instructions of the one before it
abbrev pub ItemsAreAdjacent : Type 0
ItemsAreAdjacent = (app : App) → IsVerified app → (places : Places) → AgreeWithSizes app places
    → (func index : ℕ) → IsAppItem app func index → IsAppItem app func (index + 1)
    → item_address places func (index + 1) ≡ item_address places func index + 4 * length (expansion app places func index)

-- a short branch reaches
abbrev pub ShortBranchesReach : Type 0
ShortBranchesReach = (app : App) → IsVerified app → (places : Places) → AgreeWithSizes app places
    → (func index target : ℕ) → func < length app.funcs → IsBranchTo (function app func) index target → is_long places func index ≡ false
    → IsInBranchReach (item_address places func index) (item_address places func target)

-- ---- instructions

-- each has a word
abbrev pub InstructionsAreInRange : Type 0
InstructionsAreInRange = (app : App) → IsVerified app → (places : Places) → HasWordAddresses app places → AgreeWithSizes app places
    → (func index : ℕ) → IsAppItem app func index → AreInRange (expansion app places func index)

-- the register that an instruction writes or stores; of a branch and of one without registers x0
abbrev pub register_of : InstrKind → ℕ
register_of (Lui rd imm) = rd
register_of (Auipc rd imm) = rd
register_of (Jal rd imm) = rd
register_of (Jalr rd rs1 imm) = rd
register_of (Beq rs1 rs2 imm) = 0
register_of (Bne rs1 rs2 imm) = 0
register_of (Blt rs1 rs2 imm) = 0
register_of (Bge rs1 rs2 imm) = 0
register_of (Bltu rs1 rs2 imm) = 0
register_of (Bgeu rs1 rs2 imm) = 0
register_of (Lb rd rs1 imm) = rd
register_of (Lh rd rs1 imm) = rd
register_of (Lw rd rs1 imm) = rd
register_of (Lbu rd rs1 imm) = rd
register_of (Lhu rd rs1 imm) = rd
register_of (Sb rs1 rs2 imm) = rs2
register_of (Sh rs1 rs2 imm) = rs2
register_of (Sw rs1 rs2 imm) = rs2
register_of (Addi rd rs1 imm) = rd
register_of (Slti rd rs1 imm) = rd
register_of (Sltiu rd rs1 imm) = rd
register_of (Xori rd rs1 imm) = rd
register_of (Ori rd rs1 imm) = rd
register_of (Andi rd rs1 imm) = rd
register_of (Slli rd rs1 amount) = rd
register_of (Srli rd rs1 amount) = rd
register_of (Srai rd rs1 amount) = rd
register_of (Add rd rs1 rs2) = rd
register_of (Sub rd rs1 rs2) = rd
register_of (Sll rd rs1 rs2) = rd
register_of (Slt rd rs1 rs2) = rd
register_of (Sltu rd rs1 rs2) = rd
register_of (Xor rd rs1 rs2) = rd
register_of (Srl rd rs1 rs2) = rd
register_of (Sra rd rs1 rs2) = rd
register_of (Or rd rs1 rs2) = rd
register_of (And rd rs1 rs2) = rd
register_of (Fence bits) = 0
register_of (Csrrw rd rs1 csr) = rd
register_of (Csrrs rd rs1 csr) = rd
register_of (Csrrc rd rs1 csr) = rd
register_of (Csrrwi rd number csr) = rd
register_of (Csrrsi rd number csr) = rd
register_of (Csrrci rd number csr) = rd
register_of Ecall = 0
register_of Ebreak = 0
register_of Mret = 0

-- the register of the last instruction: that of the mark, or the return address of a service in x31
abbrev pub committed_register : Op → ℕ
committed_register (op.Serve call) = 31
committed_register o = result_register o

-- the last of these instructions has this register
pub record EndsWithRegister (register : ℕ) (code : List InstrKind) : Type 0 where
  pub before : List InstrKind
  pub last : InstrKind
  pub is : code ≡ before ++ last ∷ []
  pub result : register_of last ≡ register

-- the last instruction of an item commits it: it writes or stores the register of the item's mark
abbrev pub LastCommits : Type 0
LastCommits = (app : App) (places : Places) (func address : ℕ) (long : Bool) (o : Op) → EndsWithRegister (committed_register o) (operation_code app places func address long o)
