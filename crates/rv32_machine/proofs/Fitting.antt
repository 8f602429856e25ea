-- The effect of an instruction in range names registers that are there.
use Rattle.std.proofs.Common.{ℕ, List}
use Rattle.rv32_instr.specs.declared.InstrKind.{InstrKind}
use Rattle.rv32_instr.specs.declared.InstrKind.TheVariants.{Lui, Auipc, Jal, Jalr, Beq, Bne, Blt, Bge, Bltu, Bgeu, Lb, Lh, Lw, Lbu, Lhu, Sb, Sh, Sw, Addi, Slti, Sltiu, Xori, Ori, Andi, Slli, Srli, Srai, Add, Sub, Sll, Slt, Sltu, Xor, Srl, Sra, Or, And, Fence, Csrrw, Csrrs, Csrrc, Csrrwi, Csrrsi, Csrrci, Ecall, Ebreak, Mret}
use Rattle.rv32_instr.specs.Range.{InRange}
use Rattle.rv32_instr.specs.Effect.{effect}
use Rattle.rv32_machine.specs.RegisterRange.{HasRegisterInRange}

pub effect_fits : (kind : InstrKind) (pc : ℕ) (x : List ℕ) → InRange kind → HasRegisterInRange (effect kind pc x)
effect_fits (Lui rd imm) pc x h = h.0
effect_fits (Auipc rd imm) pc x h = h.0
effect_fits (Jal rd imm) pc x h = h.0
effect_fits (Jalr rd rs1 imm) pc x h = h.0
effect_fits (Beq rs1 rs2 imm) pc x h = tt
effect_fits (Bne rs1 rs2 imm) pc x h = tt
effect_fits (Blt rs1 rs2 imm) pc x h = tt
effect_fits (Bge rs1 rs2 imm) pc x h = tt
effect_fits (Bltu rs1 rs2 imm) pc x h = tt
effect_fits (Bgeu rs1 rs2 imm) pc x h = tt
effect_fits (Lb rd rs1 imm) pc x h = h.0
effect_fits (Lh rd rs1 imm) pc x h = h.0
effect_fits (Lw rd rs1 imm) pc x h = h.0
effect_fits (Lbu rd rs1 imm) pc x h = h.0
effect_fits (Lhu rd rs1 imm) pc x h = h.0
effect_fits (Sb rs1 rs2 imm) pc x h = tt
effect_fits (Sh rs1 rs2 imm) pc x h = tt
effect_fits (Sw rs1 rs2 imm) pc x h = tt
effect_fits (Addi rd rs1 imm) pc x h = h.0
effect_fits (Slti rd rs1 imm) pc x h = h.0
effect_fits (Sltiu rd rs1 imm) pc x h = h.0
effect_fits (Xori rd rs1 imm) pc x h = h.0
effect_fits (Ori rd rs1 imm) pc x h = h.0
effect_fits (Andi rd rs1 imm) pc x h = h.0
effect_fits (Slli rd rs1 amount) pc x h = h.0
effect_fits (Srli rd rs1 amount) pc x h = h.0
effect_fits (Srai rd rs1 amount) pc x h = h.0
effect_fits (Add rd rs1 rs2) pc x h = h.0
effect_fits (Sub rd rs1 rs2) pc x h = h.0
effect_fits (Sll rd rs1 rs2) pc x h = h.0
effect_fits (Slt rd rs1 rs2) pc x h = h.0
effect_fits (Sltu rd rs1 rs2) pc x h = h.0
effect_fits (Xor rd rs1 rs2) pc x h = h.0
effect_fits (Srl rd rs1 rs2) pc x h = h.0
effect_fits (Sra rd rs1 rs2) pc x h = h.0
effect_fits (Or rd rs1 rs2) pc x h = h.0
effect_fits (And rd rs1 rs2) pc x h = h.0
effect_fits (Fence bits) pc x h = tt
effect_fits (Csrrw rd rs1 csr) pc x h = h.0
effect_fits (Csrrs rd rs1 csr) pc x h = h.0
effect_fits (Csrrc rd rs1 csr) pc x h = h.0
effect_fits (Csrrwi rd number csr) pc x h = h.0
effect_fits (Csrrsi rd number csr) pc x h = h.0
effect_fits (Csrrci rd number csr) pc x h = h.0
effect_fits Ecall pc x h = tt
effect_fits Ebreak pc x h = tt
effect_fits Mret pc x h = tt
