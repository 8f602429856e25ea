-- The results of instructions have room.
use Rattle.std.proofs.Common.{ℕ, zero, suc, ◌+◌, ◌-◌, ◌/◌, ◌%◌, ◌^◌, ◌<◌, ◌≤◌, ℤ, pos, negsuc, List, [], ◌∷◌, refl, sym, subst, arith, Bool, true, false, ⊎_elim, set}
use Rattle.std.specs.Prelude.{◌==◌, if◌then◌else◌, slice_index, bit_and}
use Rattle.std.proofs.Math.Nat.{div-le_self}
use Rattle.std.proofs.lemmas.Nat.{xor_lt, or_lt, and_le_l}
use Rattle.std.proofs.lemmas.Bool.{cases_lt}
use Rattle.std.proofs.lemmas.Int.{ints}
use Rattle.rv32_instr.specs.declared.encoding.Change.{Change}
use Rattle.rv32_instr.specs.declared.encoding.Change.TheVariants.{Keep, Replace, Set, Clear}
use Rattle.rv32_instr.specs.declared.encoding.Effect.{Effect}
use Rattle.rv32_instr.specs.declared.encoding.Effect.TheVariants.{Nothing, Write, Branch, Jump, Load, Store, Csr, Environment, Return}
use Rattle.rv32_instr.specs.declared.InstrKind.{InstrKind}
use Rattle.rv32_instr.specs.declared.InstrKind.TheVariants.{Lui, Auipc, Jal, Jalr, Beq, Bne, Blt, Bge, Bltu, Bgeu, Lb, Lh, Lw, Lbu, Lhu, Sb, Sh, Sw, Addi, Slti, Sltiu, Xori, Ori, Andi, Slli, Srli, Srai, Add, Sub, Sll, Slt, Sltu, Xor, Srl, Sra, Or, And, Fence, Csrrw, Csrrs, Csrrc, Csrrwi, Csrrsi, Csrrci, Ecall, Ebreak, Mret}
use Rattle.sloth_base.specs.Arithmetic.{signed, complement, one_if, halved_number}
use Rattle.rv32_instr.specs.Range.{IsSigned, InRange}
use Rattle.rv32_instr.specs.Effect.{effect}
use Rattle.rv32_instr.proofs.Words.{signed_pos, signed_neg}
use Rattle.sim_relation.specs.Bounds.{AreBelow}

-- a number that has room keeps a list below its bound
pub set_below : (bound : ℕ) (xs : List ℕ) (k v : ℕ) → AreBelow bound xs → v < bound → AreBelow bound (set xs k v)
set_below bound [] k v h l i = h i
set_below bound (x ∷ xs) zero v h l zero = l
set_below bound (x ∷ xs) zero v h l (suc i) = h (suc i)
set_below bound (x ∷ xs) (suc k) v h l zero = h zero
set_below bound (x ∷ xs) (suc k) v h l (suc i) = set_below bound xs k v (λ j. h (suc j)) l i

-- ---- the values that instructions compute

pub mod_fits : (x : ℕ) → x % 4294967296 < 4294967296
mod_fits x = omega arith

bit_fits : (b : Bool) → one_if b < 4294967296
bit_fits true = omega arith
bit_fits false = omega arith

negative_fits : (n : ℕ) → complement (negsuc n) < 4294967296
negative_fits n = omega arith

-- a signed number has room as a word
pub signed_fits : (n v : ℕ) → v < 2 ^ n → v < 4294967296 → complement (signed n v) < 4294967296
signed_fits n v h l =
    ⊎_elim (λ (a : v < 2 ^ (n - 1)). subst (λ z. complement z < 4294967296) (sym (signed_pos n v v refl a)) l)
    (λ (a : 2 ^ (n - 1) ≤ v). subst (λ z. complement z < 4294967296) (sym (signed_neg n v (2 ^ n - 1 - v) a (omega arith))) (negative_fits (2 ^ n - 1 - v)))
    (cases_lt v (2 ^ (n - 1)))

number_fits : (z : ℤ) → IsSigned 12 z → complement z < 4294967296
number_fits (pos n) h = omega (arith, ints)
number_fits (negsuc n) h = negative_fits n

div_fits : (a d : ℕ) → a < 4294967296 → a / d < 4294967296
div_fits a d h = let g = div-le_self a d in omega arith

-- a conjunction has room
pub and_fits : (a b : ℕ) → a < 4294967296 → bit_and a b < 4294967296
and_fits a b h = let g = and_le_l a b in omega arith

halved_fits : (z : ℤ) (count : ℕ) → complement z < 4294967296 → complement (halved_number z count) < 4294967296
halved_fits (pos a) count h = div_fits a (2 ^ count) h
halved_fits (negsuc a) count h = negative_fits (a / 2 ^ count)

abbrev pub ChangeFits : Change → Type 0
ChangeFits Keep = Unit {0}
ChangeFits (Replace value) = value < 4294967296
ChangeFits (Set value) = value < 4294967296
ChangeFits (Clear value) = Unit {0}

abbrev pub EffectFits : Effect → Type 0
EffectFits Nothing = Unit {0}
EffectFits (Write rd value) = value < 4294967296
EffectFits (Branch taken target) = target < 4294967296
EffectFits (Jump rd target) = target < 4294967296
EffectFits (Load w rd address) = Unit {0}
EffectFits (Store w address value) = Unit {0}
EffectFits (Csr rd csr change) = ChangeFits change
EffectFits Environment = Unit {0}
EffectFits Return = Unit {0}

kept_or : (b : Bool) (x : Change) → ChangeFits x → ChangeFits (if b then Keep else x)
kept_or true x h = tt
kept_or false x h = h

-- so has what each instruction leaves
pub effect_fits : (kind : InstrKind) (pc : ℕ) (x : List ℕ) → InRange kind → AreBelow 4294967296 x → EffectFits (effect kind pc x)
effect_fits (Lui rd imm) pc x r h = let a = r.1 in omega arith
effect_fits (Auipc rd imm) pc x r h = mod_fits _
effect_fits (Jal rd imm) pc x r h = mod_fits _
effect_fits (Jalr rd rs1 imm) pc x r h = let a = mod_fits (slice_index x rs1 + complement imm) in omega arith
effect_fits (Beq rs1 rs2 imm) pc x r h = mod_fits _
effect_fits (Bne rs1 rs2 imm) pc x r h = mod_fits _
effect_fits (Blt rs1 rs2 imm) pc x r h = mod_fits _
effect_fits (Bge rs1 rs2 imm) pc x r h = mod_fits _
effect_fits (Bltu rs1 rs2 imm) pc x r h = mod_fits _
effect_fits (Bgeu rs1 rs2 imm) pc x r h = mod_fits _
effect_fits (Lb rd rs1 imm) pc x r h = tt
effect_fits (Lh rd rs1 imm) pc x r h = tt
effect_fits (Lw rd rs1 imm) pc x r h = tt
effect_fits (Lbu rd rs1 imm) pc x r h = tt
effect_fits (Lhu rd rs1 imm) pc x r h = tt
effect_fits (Sb rs1 rs2 imm) pc x r h = tt
effect_fits (Sh rs1 rs2 imm) pc x r h = tt
effect_fits (Sw rs1 rs2 imm) pc x r h = tt
effect_fits (Addi rd rs1 imm) pc x r h = mod_fits _
effect_fits (Slti rd rs1 imm) pc x r h = bit_fits _
effect_fits (Sltiu rd rs1 imm) pc x r h = bit_fits _
effect_fits (Xori rd rs1 imm) pc x r h = xor_lt 32 (slice_index x rs1) (complement imm) (h rs1) (number_fits imm r.2)
effect_fits (Ori rd rs1 imm) pc x r h = or_lt 32 (slice_index x rs1) (complement imm) (h rs1) (number_fits imm r.2)
effect_fits (Andi rd rs1 imm) pc x r h = and_fits (slice_index x rs1) (complement imm) (h rs1)
effect_fits (Slli rd rs1 amount) pc x r h = mod_fits _
effect_fits (Srli rd rs1 amount) pc x r h = div_fits (slice_index x rs1) (2 ^ amount) (h rs1)
effect_fits (Srai rd rs1 amount) pc x r h = halved_fits (signed 32 (slice_index x rs1)) amount (signed_fits 32 (slice_index x rs1) (h rs1) (h rs1))
effect_fits (Add rd rs1 rs2) pc x r h = mod_fits _
effect_fits (Sub rd rs1 rs2) pc x r h = mod_fits _
effect_fits (Sll rd rs1 rs2) pc x r h = mod_fits _
effect_fits (Slt rd rs1 rs2) pc x r h = bit_fits _
effect_fits (Sltu rd rs1 rs2) pc x r h = bit_fits _
effect_fits (Xor rd rs1 rs2) pc x r h = xor_lt 32 (slice_index x rs1) (slice_index x rs2) (h rs1) (h rs2)
effect_fits (Srl rd rs1 rs2) pc x r h = div_fits (slice_index x rs1) (2 ^ (slice_index x rs2 % 32)) (h rs1)
effect_fits (Sra rd rs1 rs2) pc x r h = halved_fits (signed 32 (slice_index x rs1)) (slice_index x rs2 % 32) (signed_fits 32 (slice_index x rs1) (h rs1) (h rs1))
effect_fits (Or rd rs1 rs2) pc x r h = or_lt 32 (slice_index x rs1) (slice_index x rs2) (h rs1) (h rs2)
effect_fits (And rd rs1 rs2) pc x r h = and_fits (slice_index x rs1) (slice_index x rs2) (h rs1)
effect_fits (Fence bits) pc x r h = tt
effect_fits (Csrrw rd rs1 csr) pc x r h = h rs1
effect_fits (Csrrs rd rs1 csr) pc x r h = kept_or (rs1 == 0) (Set (slice_index x rs1)) (h rs1)
effect_fits (Csrrc rd rs1 csr) pc x r h = kept_or (rs1 == 0) (Clear (slice_index x rs1)) tt
effect_fits (Csrrwi rd number csr) pc x r h = let a = r.1 in omega arith
effect_fits (Csrrsi rd number csr) pc x r h = let a = r.1 in kept_or (number == 0) (Set number) (omega arith)
effect_fits (Csrrci rd number csr) pc x r h = kept_or (number == 0) (Clear number) tt
effect_fits Ecall pc x r h = tt
effect_fits Ebreak pc x r h = tt
effect_fits Mret pc x r h = tt
