-- The numbers that an instruction's word has room for: those of the formats of the RISC-V unprivileged manual, chapter RV32I.
use Rattle.std.specs.Prelude.{ℕ, ◌<◌, ◌≡◌, ◌-◌, ◌/◌, ◌%◌, ◌^◌, List, [], ◌∷◌, ℤ, pos, neg_ℤ, ◌≤ℤ◌, ◌<ℤ◌, unsigned_abs}
use Rattle.rv32_instr.specs.declared.InstrKind.{InstrKind}
use Rattle.rv32_instr.specs.declared.InstrKind.TheVariants.{Lui, Auipc, Jal, Jalr, Beq, Bne, Blt, Bge, Bltu, Bgeu, Lb, Lh, Lw, Lbu, Lhu, Sb, Sh, Sw, Addi, Slti, Sltiu, Xori, Ori, Andi, Slli, Srli, Srai, Add, Sub, Sll, Slt, Sltu, Xor, Srl, Sra, Or, And, Fence, Csrrw, Csrrs, Csrrc, Csrrwi, Csrrsi, Csrrci, Ecall, Ebreak, Mret}

-- a signed number of `n` bits
abbrev pub IsSigned : ℕ → ℤ → Type 0
IsSigned n z = (neg_ℤ (pos (2 ^ (n - 1))) ≤ℤ z) × (z <ℤ pos (2 ^ (n - 1)))

-- an even one
abbrev pub IsEven : ℕ → ℤ → Type 0
IsEven n z = IsSigned n z × (unsigned_abs z % 2 ≡ 0)

-- the fields of an instruction are numbers that its word has room for; `bits` of a fence are a word without funct3 and opcode
abbrev pub InRange : InstrKind → Type 0
InRange (Lui rd imm) = (rd < 32) × (imm < 2 ^ 20)
InRange (Auipc rd imm) = (rd < 32) × (imm < 2 ^ 20)
InRange (Jal rd imm) = (rd < 32) × IsEven 21 imm
InRange (Jalr rd rs1 imm) = (rd < 32) × (rs1 < 32) × IsSigned 12 imm
InRange (Beq rs1 rs2 imm) = (rs1 < 32) × (rs2 < 32) × IsEven 13 imm
InRange (Bne rs1 rs2 imm) = (rs1 < 32) × (rs2 < 32) × IsEven 13 imm
InRange (Blt rs1 rs2 imm) = (rs1 < 32) × (rs2 < 32) × IsEven 13 imm
InRange (Bge rs1 rs2 imm) = (rs1 < 32) × (rs2 < 32) × IsEven 13 imm
InRange (Bltu rs1 rs2 imm) = (rs1 < 32) × (rs2 < 32) × IsEven 13 imm
InRange (Bgeu rs1 rs2 imm) = (rs1 < 32) × (rs2 < 32) × IsEven 13 imm
InRange (Lb rd rs1 imm) = (rd < 32) × (rs1 < 32) × IsSigned 12 imm
InRange (Lh rd rs1 imm) = (rd < 32) × (rs1 < 32) × IsSigned 12 imm
InRange (Lw rd rs1 imm) = (rd < 32) × (rs1 < 32) × IsSigned 12 imm
InRange (Lbu rd rs1 imm) = (rd < 32) × (rs1 < 32) × IsSigned 12 imm
InRange (Lhu rd rs1 imm) = (rd < 32) × (rs1 < 32) × IsSigned 12 imm
InRange (Sb rs1 rs2 imm) = (rs1 < 32) × (rs2 < 32) × IsSigned 12 imm
InRange (Sh rs1 rs2 imm) = (rs1 < 32) × (rs2 < 32) × IsSigned 12 imm
InRange (Sw rs1 rs2 imm) = (rs1 < 32) × (rs2 < 32) × IsSigned 12 imm
InRange (Addi rd rs1 imm) = (rd < 32) × (rs1 < 32) × IsSigned 12 imm
InRange (Slti rd rs1 imm) = (rd < 32) × (rs1 < 32) × IsSigned 12 imm
InRange (Sltiu rd rs1 imm) = (rd < 32) × (rs1 < 32) × IsSigned 12 imm
InRange (Xori rd rs1 imm) = (rd < 32) × (rs1 < 32) × IsSigned 12 imm
InRange (Ori rd rs1 imm) = (rd < 32) × (rs1 < 32) × IsSigned 12 imm
InRange (Andi rd rs1 imm) = (rd < 32) × (rs1 < 32) × IsSigned 12 imm
InRange (Slli rd rs1 amount) = (rd < 32) × (rs1 < 32) × (amount < 32)
InRange (Srli rd rs1 amount) = (rd < 32) × (rs1 < 32) × (amount < 32)
InRange (Srai rd rs1 amount) = (rd < 32) × (rs1 < 32) × (amount < 32)
InRange (Add rd rs1 rs2) = (rd < 32) × (rs1 < 32) × (rs2 < 32)
InRange (Sub rd rs1 rs2) = (rd < 32) × (rs1 < 32) × (rs2 < 32)
InRange (Sll rd rs1 rs2) = (rd < 32) × (rs1 < 32) × (rs2 < 32)
InRange (Slt rd rs1 rs2) = (rd < 32) × (rs1 < 32) × (rs2 < 32)
InRange (Sltu rd rs1 rs2) = (rd < 32) × (rs1 < 32) × (rs2 < 32)
InRange (Xor rd rs1 rs2) = (rd < 32) × (rs1 < 32) × (rs2 < 32)
InRange (Srl rd rs1 rs2) = (rd < 32) × (rs1 < 32) × (rs2 < 32)
InRange (Sra rd rs1 rs2) = (rd < 32) × (rs1 < 32) × (rs2 < 32)
InRange (Or rd rs1 rs2) = (rd < 32) × (rs1 < 32) × (rs2 < 32)
InRange (And rd rs1 rs2) = (rd < 32) × (rs1 < 32) × (rs2 < 32)
InRange (Fence bits) = (bits < 2 ^ 32) × (bits % 128 ≡ 0) × (bits / 4096 % 8 ≡ 0)
InRange (Csrrw rd rs1 csr) = (rd < 32) × (rs1 < 32) × (csr < 4096)
InRange (Csrrs rd rs1 csr) = (rd < 32) × (rs1 < 32) × (csr < 4096)
InRange (Csrrc rd rs1 csr) = (rd < 32) × (rs1 < 32) × (csr < 4096)
InRange (Csrrwi rd number csr) = (rd < 32) × (number < 32) × (csr < 4096)
InRange (Csrrsi rd number csr) = (rd < 32) × (number < 32) × (csr < 4096)
InRange (Csrrci rd number csr) = (rd < 32) × (number < 32) × (csr < 4096)
InRange Ecall = Unit {0}
InRange Ebreak = Unit {0}
InRange Mret = Unit {0}

-- each of these instructions is in range
abbrev pub AreInRange : List InstrKind → Type 0
AreInRange [] = Unit {0}
AreInRange (kind ∷ code) = InRange kind × AreInRange code
