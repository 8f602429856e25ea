-- What each instruction does: the RISC-V unprivileged manual's chapters on RV32I and Zicsr, and MRET.
use Rattle.std.specs.Prelude.{ℕ, ◌-◌, ◌*◌, ◌%◌, ◌^◌, List, not, if◌then◌else◌, ◌==◌, int_lt, nat_lt, bit_and, bit_or, bit_xor, slice_index}
use Rattle.sloth_base.specs.declared.app.Width.TheVariants as width
use Rattle.sloth_base.specs.Arithmetic.{signed, complement, sum32, difference32, plus, signed_less, one_if, left_shift, right_shift, signed_right_shift}
use Rattle.rv32_instr.specs.declared.encoding.Change.TheVariants.{Keep, Replace, Set, Clear}
use Rattle.rv32_instr.specs.declared.encoding.Effect.{Effect}
use Rattle.rv32_instr.specs.declared.encoding.Effect.TheVariants.{Nothing, Write, Branch, Jump, Load, Store, Csr, Environment, Return}
use Rattle.rv32_instr.specs.declared.InstrKind.{InstrKind}
use Rattle.rv32_instr.specs.declared.InstrKind.TheVariants.{Lui, Auipc, Jal, Jalr, Beq, Bne, Blt, Bge, Bltu, Bgeu, Lb, Lh, Lw, Lbu, Lhu, Sb, Sh, Sw, Addi, Slti, Sltiu, Xori, Ori, Andi, Slli, Srli, Srai, Add, Sub, Sll, Slt, Sltu, Xor, Srl, Sra, Or, And, Fence, Csrrw, Csrrs, Csrrc, Csrrwi, Csrrsi, Csrrci, Ecall, Ebreak, Mret}

-- the effect of an instruction at the address `pc`, with the registers `x`
abbrev pub effect : InstrKind → ℕ → List ℕ → Effect
effect (Lui rd imm) pc x = Write rd (imm * 2 ^ 12)
effect (Auipc rd imm) pc x = Write rd (sum32 pc (imm * 2 ^ 12))
effect (Jal rd imm) pc x = Jump rd (plus pc imm)
effect (Jalr rd rs1 imm) pc x = Jump rd (plus (slice_index x rs1) imm - plus (slice_index x rs1) imm % 2)
effect (Beq rs1 rs2 imm) pc x = Branch (slice_index x rs1 == slice_index x rs2) (plus pc imm)
effect (Bne rs1 rs2 imm) pc x = Branch (not (slice_index x rs1 == slice_index x rs2)) (plus pc imm)
effect (Blt rs1 rs2 imm) pc x = Branch (signed_less (slice_index x rs1) (slice_index x rs2)) (plus pc imm)
effect (Bge rs1 rs2 imm) pc x = Branch (not (signed_less (slice_index x rs1) (slice_index x rs2))) (plus pc imm)
effect (Bltu rs1 rs2 imm) pc x = Branch (nat_lt (slice_index x rs1) (slice_index x rs2)) (plus pc imm)
effect (Bgeu rs1 rs2 imm) pc x = Branch (not (nat_lt (slice_index x rs1) (slice_index x rs2))) (plus pc imm)
effect (Lb rd rs1 imm) pc x = Load width.Byte rd (plus (slice_index x rs1) imm)
effect (Lh rd rs1 imm) pc x = Load width.Half rd (plus (slice_index x rs1) imm)
effect (Lw rd rs1 imm) pc x = Load width.Word rd (plus (slice_index x rs1) imm)
effect (Lbu rd rs1 imm) pc x = Load width.ByteU rd (plus (slice_index x rs1) imm)
effect (Lhu rd rs1 imm) pc x = Load width.HalfU rd (plus (slice_index x rs1) imm)
effect (Sb rs1 rs2 imm) pc x = Store width.Byte (plus (slice_index x rs1) imm) (slice_index x rs2)
effect (Sh rs1 rs2 imm) pc x = Store width.Half (plus (slice_index x rs1) imm) (slice_index x rs2)
effect (Sw rs1 rs2 imm) pc x = Store width.Word (plus (slice_index x rs1) imm) (slice_index x rs2)
effect (Addi rd rs1 imm) pc x = Write rd (plus (slice_index x rs1) imm)
effect (Slti rd rs1 imm) pc x = Write rd (one_if (int_lt (signed 32 (slice_index x rs1)) imm))
effect (Sltiu rd rs1 imm) pc x = Write rd (one_if (nat_lt (slice_index x rs1) (complement imm)))
effect (Xori rd rs1 imm) pc x = Write rd (bit_xor (slice_index x rs1) (complement imm))
effect (Ori rd rs1 imm) pc x = Write rd (bit_or (slice_index x rs1) (complement imm))
effect (Andi rd rs1 imm) pc x = Write rd (bit_and (slice_index x rs1) (complement imm))
effect (Slli rd rs1 amount) pc x = Write rd (left_shift (slice_index x rs1) amount)
effect (Srli rd rs1 amount) pc x = Write rd (right_shift (slice_index x rs1) amount)
effect (Srai rd rs1 amount) pc x = Write rd (signed_right_shift (slice_index x rs1) amount)
effect (Add rd rs1 rs2) pc x = Write rd (sum32 (slice_index x rs1) (slice_index x rs2))
effect (Sub rd rs1 rs2) pc x = Write rd (difference32 (slice_index x rs1) (slice_index x rs2))
effect (Sll rd rs1 rs2) pc x = Write rd (left_shift (slice_index x rs1) (slice_index x rs2 % 32))
effect (Slt rd rs1 rs2) pc x = Write rd (one_if (signed_less (slice_index x rs1) (slice_index x rs2)))
effect (Sltu rd rs1 rs2) pc x = Write rd (one_if (nat_lt (slice_index x rs1) (slice_index x rs2)))
effect (Xor rd rs1 rs2) pc x = Write rd (bit_xor (slice_index x rs1) (slice_index x rs2))
effect (Srl rd rs1 rs2) pc x = Write rd (right_shift (slice_index x rs1) (slice_index x rs2 % 32))
effect (Sra rd rs1 rs2) pc x = Write rd (signed_right_shift (slice_index x rs1) (slice_index x rs2 % 32))
effect (Or rd rs1 rs2) pc x = Write rd (bit_or (slice_index x rs1) (slice_index x rs2))
effect (And rd rs1 rs2) pc x = Write rd (bit_and (slice_index x rs1) (slice_index x rs2))
effect (Fence bits) pc x = Nothing
effect (Csrrw rd rs1 csr) pc x = Csr rd csr (Replace (slice_index x rs1))
effect (Csrrs rd rs1 csr) pc x = Csr rd csr (if rs1 == 0 then Keep else Set (slice_index x rs1))
effect (Csrrc rd rs1 csr) pc x = Csr rd csr (if rs1 == 0 then Keep else Clear (slice_index x rs1))
effect (Csrrwi rd number csr) pc x = Csr rd csr (Replace number)
effect (Csrrsi rd number csr) pc x = Csr rd csr (if number == 0 then Keep else Set number)
effect (Csrrci rd number csr) pc x = Csr rd csr (if number == 0 then Keep else Clear number)
effect Ecall pc x = Environment
effect Ebreak pc x = Environment
effect Mret pc x = Return
