-- What an instruction of an item computes is what the item means.
use Rattle.std.proofs.Common.{◌≡◌, ℕ, ◌-◌, ℤ, pos, negsuc, List, [], ◌∷◌, true, inl, inr, ltb, refl, sym, ap, ◌∙◌, arith}
use Rattle.std.specs.Prelude.{slice_index, int_lt, if◌then◌else◌, ◌==◌, ◌&&◌, ◌||◌}
use Rattle.std.specs.List.{list_all, AllByRecursion}
use Rattle.std.proofs.lemmas.Bool.{and_from, le-leb, lt-ltb}
use Rattle.std.proofs.lemmas.Int.{ints}
use Rattle.std.proofs.Math.Bool.{or-true}
use Rattle.sloth_base.specs.declared.app.App.{App}
use Rattle.sloth_base.specs.declared.app.Op.{Op}
use Rattle.sloth_base.specs.declared.app.AluKind.{AluKind}
use Rattle.sloth_base.specs.declared.app.AluKind.TheVariants as alu
use Rattle.sloth_base.specs.declared.app.ImmKind.{ImmKind}
use Rattle.sloth_base.specs.declared.app.ImmKind.TheVariants as imm
use Rattle.sloth_base.specs.Arithmetic.{register_result, number_result, complement, signed}
use Rattle.code_rules.specs.AppRange.{IsRegister, IsShort, IsNumberOf}
use Rattle.rv32_instr.specs.declared.encoding.Effect.TheVariants.{Write}
use Rattle.rv32_instr.specs.Effect.{effect}
use Rattle.rv32_instr.proofs.Words.{signed_pos, signed_neg}
use Rattle.rv32_expand.specs.Expansion.{register_operation, number_operation}
use Rattle.osek_scheduler.specs.State.{Frame}
use Rattle.osek_scheduler.specs.Meaning.{is_own, if_true, execution, registers_of, meaning}

-- a signed number and its word
signed_word : (z : ℤ) → IsShort z → signed 32 (complement z) ≡ z
signed_word (pos n) h = signed_pos 32 n n refl (omega (arith, ints))
signed_word (negsuc n) h = signed_neg 32 (4294967295 - n) n (omega (arith, ints)) (omega (arith, ints))

-- an operation on two registers
pub register_value : (kind : AluKind) (rd rs1 rs2 pc : ℕ) (x : List ℕ)
    → effect (register_operation kind rd rs1 rs2) pc x ≡ Write rd (register_result kind (slice_index x rs1) (slice_index x rs2))
register_value alu.Add rd rs1 rs2 pc x = refl
register_value alu.Sub rd rs1 rs2 pc x = refl
register_value alu.Sll rd rs1 rs2 pc x = refl
register_value alu.Slt rd rs1 rs2 pc x = refl
register_value alu.Sltu rd rs1 rs2 pc x = refl
register_value alu.Xor rd rs1 rs2 pc x = refl
register_value alu.Srl rd rs1 rs2 pc x = refl
register_value alu.Sra rd rs1 rs2 pc x = refl
register_value alu.Or rd rs1 rs2 pc x = refl
register_value alu.And rd rs1 rs2 pc x = refl

-- an operation on a register and a number
pub number_value : (kind : ImmKind) (rd rs1 : ℕ) (number : ℤ) (pc : ℕ) (x : List ℕ) → IsNumberOf kind number
    → effect (number_operation kind rd rs1 number) pc x ≡ Write rd (number_result kind (slice_index x rs1) (complement number))
number_value imm.Addi rd rs1 number pc x h = refl
number_value imm.Slti rd rs1 number pc x h =
    ap (λ z. Write rd (if int_lt (signed 32 (slice_index x rs1)) z then 1 else 0)) (sym (signed_word number h))
number_value imm.Sltiu rd rs1 number pc x h = refl
number_value imm.Xori rd rs1 number pc x h = refl
number_value imm.Ori rd rs1 number pc x h = refl
number_value imm.Andi rd rs1 number pc x h = refl
number_value imm.Slli rd rs1 (pos n) pc x h = refl
number_value imm.Slli rd rs1 (negsuc n) pc x h = absurd h
number_value imm.Srli rd rs1 (pos n) pc x h = refl
number_value imm.Srli rd rs1 (negsuc n) pc x h = absurd h
number_value imm.Srai rd rs1 (pos n) pc x h = refl
number_value imm.Srai rd rs1 (negsuc n) pc x h = absurd h

-- ---- an item that names registers of task code has a meaning

own_test : (r : ℕ) → IsRegister r → is_own r ≡ true
own_test r (inl e) = ap is_own e
own_test r (inr h) =
    ap (λ x. (r == 0) || (x && ltb r 30)) (le-leb 5 r h.0) ∙ ap (λ x. (r == 0) || x) (lt-ltb r 30 (let l = h.1 in omega arith)) ∙ or-true (r == 0)

abbrev pub AreOwn : List ℕ → Type 0
AreOwn registers = AllByRecursion IsRegister registers

own_tests : (rs : List ℕ) → AreOwn rs → list_all is_own rs ≡ true
own_tests [] h = refl
own_tests (r ∷ rs) h = and_from _ _ (own_test r h.0) (own_tests rs h.1)

-- the meaning of an item goes by the task's own registers
pub own_meaning : (app : App) (operation : Op) (x : List ℕ) (frame : Frame) (outer : List Frame) (symbols : List (List ℕ)) → AreOwn (registers_of operation)
    → meaning app operation x frame outer symbols ≡ execution app operation x frame outer symbols
own_meaning app operation x frame outer symbols h =
    ap (λ v. if_true v (execution app operation x frame outer symbols)) (own_tests (registers_of operation) h)
