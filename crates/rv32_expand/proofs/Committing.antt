-- The last instruction of an item.
use Rattle.std.proofs.Common.{◌≡◌, ℕ, ◌+◌, ◌*◌, Bool, true, false, List, [], ◌∷◌, ◌++◌, length, refl, ap}
use Rattle.std.specs.Prelude.{ℤ, pos, if◌then◌else◌, nat_le}
use Rattle.sloth_base.specs.Arithmetic.{lo}
use Rattle.sloth_base.specs.Named.{function}
use Rattle.sloth_base.specs.declared.app.AluKind.{AluKind}
use Rattle.sloth_base.specs.declared.app.AluKind.TheVariants as alu
use Rattle.sloth_base.specs.declared.app.BranchKind.{BranchKind}
use Rattle.sloth_base.specs.declared.app.BranchKind.TheVariants as branch
use Rattle.sloth_base.specs.declared.app.ImmKind.{ImmKind}
use Rattle.sloth_base.specs.declared.app.ImmKind.TheVariants as imm
use Rattle.sloth_base.specs.declared.app.Op.TheVariants as op
use Rattle.sloth_base.specs.declared.app.Width.{Width}
use Rattle.sloth_base.specs.declared.app.Width.TheVariants as width
use Rattle.rv32_instr.specs.Access.{load, store}
use Rattle.rv32_instr.specs.declared.InstrKind.{InstrKind}
use Rattle.rv32_instr.specs.declared.InstrKind.TheVariants.{Jal, Jalr}
use Rattle.rv32_expand.specs.FarAccesses.{far_indexed}
use Rattle.rv32_expand.specs.Expansion.{register_operation, number_operation, test, number_in, index_code, zeros, mask_of, distance, symbol_address, item_address, label_address, block_address}
use Rattle.rv32_expand.specs.ItemLengths.{register_of, EndsWithRegister, LastCommits}

alu_result : (kind : AluKind) (rd a b : ℕ) → register_of (register_operation kind rd a b) ≡ rd
alu_result alu.Add rd a b = refl
alu_result alu.Sub rd a b = refl
alu_result alu.Sll rd a b = refl
alu_result alu.Slt rd a b = refl
alu_result alu.Sltu rd a b = refl
alu_result alu.Xor rd a b = refl
alu_result alu.Srl rd a b = refl
alu_result alu.Sra rd a b = refl
alu_result alu.Or rd a b = refl
alu_result alu.And rd a b = refl

imm_result : (kind : ImmKind) (rd a : ℕ) (z : ℤ) → register_of (number_operation kind rd a z) ≡ rd
imm_result imm.Addi rd a z = refl
imm_result imm.Slti rd a z = refl
imm_result imm.Sltiu rd a z = refl
imm_result imm.Xori rd a z = refl
imm_result imm.Ori rd a z = refl
imm_result imm.Andi rd a z = refl
imm_result imm.Slli rd a z = refl
imm_result imm.Srli rd a z = refl
imm_result imm.Srai rd a z = refl

load_result : (w : Width) (rd base : ℕ) (z : ℤ) → register_of (load w rd base z) ≡ rd
load_result width.Byte rd base z = refl
load_result width.Half rd base z = refl
load_result width.Word rd base z = refl
load_result width.ByteU rd base z = refl
load_result width.HalfU rd base z = refl

store_result : (w : Width) (rs base : ℕ) (z : ℤ) → register_of (store w rs base z) ≡ rs
store_result width.Byte rs base z = refl
store_result width.Half rs base z = refl
store_result width.Word rs base z = refl
store_result width.ByteU rs base z = refl
store_result width.HalfU rs base z = refl

test_result : (kind : BranchKind) (a b : ℕ) (z : ℤ) → register_of (test kind a b z) ≡ 0
test_result branch.Beq a b z = refl
test_result branch.Bne a b z = refl
test_result branch.Blt a b z = refl
test_result branch.Bge a b z = refl
test_result branch.Bltu a b z = refl
test_result branch.Bgeu a b z = refl

ends : (register : ℕ) (before : List InstrKind) (last : InstrKind) → register_of last ≡ register → EndsWithRegister register (before ++ last ∷ [])
ends register before last e = record { before = before; last = last; is = refl; result = e }

either : (register : ℕ) (b : Bool) (near far : List InstrKind) → EndsWithRegister register near → EndsWithRegister register far → EndsWithRegister register (if b then near else far)
either register true near far e f = e
either register false near far e f = f

-- an instruction more in front
longer : (register : ℕ) (first : InstrKind) (code : List InstrKind) → EndsWithRegister register code → EndsWithRegister register (first ∷ code)
longer register first code e = record { before = first ∷ e.before; last = e.last; is = ap (λ (c : List InstrKind). first ∷ c) e.is; result = e.result }

behind : (register : ℕ) (front code : List InstrKind) → EndsWithRegister register code → EndsWithRegister register (front ++ code)
behind register [] code e = e
behind register (first ∷ front) code e = longer register first (front ++ code) (behind register front code e)

alone : (register : ℕ) (last : InstrKind) → register_of last ≡ register → EndsWithRegister register (last ∷ [])
alone register last e = ends register [] last e

-- it writes or stores the register of the item's mark
pub last_commits : LastCommits
last_commits app places func address long (op.Alu kind rd rs1 rs2) = alone rd _ (alu_result kind rd rs1 rs2)
last_commits app places func address long (op.AluImm kind rd rs1 number) = alone rd _ (imm_result kind rd rs1 number)
last_commits app places func address long (op.Lui rd number) = alone rd _ refl
last_commits app places func address long (op.Li rd value) = longer rd _ _ (alone rd _ refl)
last_commits app places func address long (op.FrameLoad rd word) = alone rd _ refl
last_commits app places func address long (op.FrameStore rs word) = alone rs _ refl
last_commits app places func address long (op.Load w rd symbol offset) = longer rd _ _ (alone rd _ (load_result w rd 31 (lo (symbol_address places symbol + offset))))
last_commits app places func address long (op.Store w rs symbol offset) = longer rs _ _ (alone rs _ (store_result w rs 31 (lo (symbol_address places symbol + offset))))
last_commits app places func address long (op.LoadAt w rd symbol index mask) =
    let v = symbol_address places symbol in
    let last = alone rd (load w rd 31 (lo v)) (load_result w rd 31 (lo v)) in
    either rd (nat_le mask 2047) _ _ (behind rd (index_code index mask v) _ last) (behind rd (far_indexed index mask v) _ last)
last_commits app places func address long (op.StoreAt w rs symbol index mask) =
    let v = symbol_address places symbol in
    let last = alone rs (store w rs 31 (lo v)) (store_result w rs 31 (lo v)) in
    either rs (nat_le mask 2047) _ _ (behind rs (index_code index mask v) _ last) (behind rs (far_indexed index mask v) _ last)
last_commits app places func address false (op.Branch kind rs1 rs2 label) = alone 0 _ (test_result kind rs1 rs2 (distance address (label_address app places func label)))
last_commits app places func address true (op.Branch kind rs1 rs2 label) =
    behind 0 (number_in 31 (address + 24)) _ (longer 0 _ _ (behind 0 (number_in 31 (label_address app places func label)) _ (alone 0 (Jalr 0 31 (pos 0)) refl)))
last_commits app places func address long (op.Jump label) = alone 0 _ refl
last_commits app places func address long (op.Invoke callee) =
    let words = (function app callee).frame_words in
    longer 0 _ _ (behind 0 (zeros words 0) _ (longer 0 _ _ (longer 0 _ _ (alone 0 (Jal 0 (distance (address + 4 * (words + 3)) (item_address places callee 0))) refl))))
last_commits app places func address long op.Return = longer 0 _ _ (longer 0 _ _ (alone 0 (Jalr 0 31 (pos 12)) refl))
last_commits app places func address long (op.Serve call) =
    behind 31 (mask_of call.service call.mask) _
    (alone 31 (Jal 31 (distance (address + 4 * length (mask_of call.service call.mask)) (block_address places call.service call.object))) refl)
