-- Where the numbers of an item have room, each of its instructions has a word.
use Rattle.std.proofs.Common.{ℕ, zero, suc, ◌+◌, ◌*◌, ◌%◌, ◌^◌, ◌<◌, ◌≤◌, Bool, true, false, ℤ, pos, List, [], ◌∷◌, ◌++◌, length, refl, arith}
use Rattle.std.specs.Prelude.{negsuc, neg_ℤ, ◌-ℤ◌, ltb, nat_le, if◌then◌else◌}
use Rattle.std.proofs.lemmas.Int.{ints}
use Rattle.std.proofs.lemmas.Bool.{cond_both, ltb-true, ltb-false, leb-true}
use Rattle.sloth_base.specs.Arithmetic.{hi, lo}
use Rattle.sloth_base.specs.Named.{function}
use Rattle.sloth_base.specs.declared.app.AluKind.{AluKind}
use Rattle.sloth_base.specs.declared.app.AluKind.TheVariants as alu
use Rattle.sloth_base.specs.declared.app.App.{App}
use Rattle.sloth_base.specs.declared.app.BranchKind.{BranchKind}
use Rattle.sloth_base.specs.declared.app.BranchKind.TheVariants as branch
use Rattle.sloth_base.specs.declared.app.ImmKind.{ImmKind}
use Rattle.sloth_base.specs.declared.app.ImmKind.TheVariants as imm
use Rattle.sloth_base.specs.declared.app.Op.{Op}
use Rattle.sloth_base.specs.declared.app.Op.TheVariants as op
use Rattle.sloth_base.specs.declared.app.Width.{Width}
use Rattle.sloth_base.specs.declared.app.Width.TheVariants as width
use Rattle.sloth_base.specs.declared.limits.Places.{Places}
use Rattle.sloth_base.specs.ServiceCodes.{has_mask}
use Rattle.sloth_base.specs.declared.service.Service.{Service}
use Rattle.code_rules.specs.AppRange.{IsShort, IsAmount, IsNumberOf}
use Rattle.rv32_instr.specs.Access.{load, store}
use Rattle.rv32_instr.specs.Range.{IsSigned, IsEven, InRange, AreInRange}
use Rattle.rv32_instr.specs.declared.InstrKind.{InstrKind}
use Rattle.rv32_instr.specs.declared.InstrKind.TheVariants.{Auipc, Jal, Jalr, Sw}
use Rattle.rv32_expand.specs.FarAccesses.{wide}
use Rattle.rv32_expand.specs.Expansion.{amount, register_operation, number_operation, test, opposite, number_in, index_code, block_address, zeros, mask_of, symbol_address, item_address, label_address, distance, operation_code}
use Rattle.rv32_expand.specs.NumberRange.{HasNumbersInRange}

-- ---- numbers

hi_small : (v : ℕ) → hi v < 2 ^ 20
unfolding hi
hi_small v = omega arith

lo_signed : (v : ℕ) → IsSigned 12 (lo v)
unfolding lo
lo_signed v =
    cond_both (ltb (v % 4096) 2048) (pos (v % 4096)) (pos (v % 4096) -ℤ pos 4096) (λ z. IsSigned 12 z)
    (λ e. let l = ltb-true (v % 4096) 2048 e in (omega (arith, ints), omega (arith, ints)))
    (λ e. let l = ltb-false (v % 4096) 2048 e in (omega (arith, ints), omega (arith, ints)))

signed_small : (n : ℕ) → n < 2048 → IsSigned 12 (pos n)
signed_small n h = (omega (arith, ints), omega (arith, ints))

short_signed : (z : ℤ) → IsShort z → IsSigned 12 z
short_signed (pos n) h = (omega (arith, ints), omega (arith, ints))
short_signed (negsuc n) h = (omega (arith, ints), omega (arith, ints))

amount_small : (z : ℤ) → IsAmount z → amount z < 32
amount_small (pos n) h = omega arith
amount_small (negsuc n) h = absurd h

below_zero : (n : ℕ) → n ≤ 132 → IsSigned 12 (neg_ℤ (pos n))
below_zero n h = (omega (arith, ints), omega (arith, ints))

-- ---- one instruction

register_fits : (kind : AluKind) (rd a b : ℕ) → rd < 32 → a < 32 → b < 32 → InRange (register_operation kind rd a b)
register_fits alu.Add rd a b h k l = (h, k, l)
register_fits alu.Sub rd a b h k l = (h, k, l)
register_fits alu.Sll rd a b h k l = (h, k, l)
register_fits alu.Slt rd a b h k l = (h, k, l)
register_fits alu.Sltu rd a b h k l = (h, k, l)
register_fits alu.Xor rd a b h k l = (h, k, l)
register_fits alu.Srl rd a b h k l = (h, k, l)
register_fits alu.Sra rd a b h k l = (h, k, l)
register_fits alu.Or rd a b h k l = (h, k, l)
register_fits alu.And rd a b h k l = (h, k, l)

number_fits : (kind : ImmKind) (rd a : ℕ) (z : ℤ) → rd < 32 → a < 32 → IsNumberOf kind z → InRange (number_operation kind rd a z)
number_fits imm.Addi rd a z h k n = (h, k, short_signed z n)
number_fits imm.Slti rd a z h k n = (h, k, short_signed z n)
number_fits imm.Sltiu rd a z h k n = (h, k, short_signed z n)
number_fits imm.Xori rd a z h k n = (h, k, short_signed z n)
number_fits imm.Ori rd a z h k n = (h, k, short_signed z n)
number_fits imm.Andi rd a z h k n = (h, k, short_signed z n)
number_fits imm.Slli rd a z h k n = (h, k, amount_small z n)
number_fits imm.Srli rd a z h k n = (h, k, amount_small z n)
number_fits imm.Srai rd a z h k n = (h, k, amount_small z n)

load_fits : (w : Width) (rd v : ℕ) → rd < 32 → InRange (load w rd 31 (lo v))
load_fits width.Byte rd v h = (h, omega arith, lo_signed v)
load_fits width.Half rd v h = (h, omega arith, lo_signed v)
load_fits width.Word rd v h = (h, omega arith, lo_signed v)
load_fits width.ByteU rd v h = (h, omega arith, lo_signed v)
load_fits width.HalfU rd v h = (h, omega arith, lo_signed v)

store_fits : (w : Width) (rs v : ℕ) → rs < 32 → InRange (store w rs 31 (lo v))
store_fits width.Byte rs v h = (omega arith, h, lo_signed v)
store_fits width.Half rs v h = (omega arith, h, lo_signed v)
store_fits width.Word rs v h = (omega arith, h, lo_signed v)
store_fits width.ByteU rs v h = (omega arith, h, lo_signed v)
store_fits width.HalfU rs v h = (omega arith, h, lo_signed v)

test_fits : (kind : BranchKind) (a b : ℕ) (z : ℤ) → a < 32 → b < 32 → IsEven 13 z → InRange (test kind a b z)
test_fits branch.Beq a b z h k e = (h, k, e)
test_fits branch.Bne a b z h k e = (h, k, e)
test_fits branch.Blt a b z h k e = (h, k, e)
test_fits branch.Bge a b z h k e = (h, k, e)
test_fits branch.Bltu a b z h k e = (h, k, e)
test_fits branch.Bgeu a b z h k e = (h, k, e)

-- ---- several

both_in_range : (xs ys : List InstrKind) → AreInRange xs → AreInRange ys → AreInRange (xs ++ ys)
both_in_range [] ys r s = s
both_in_range (x ∷ xs) ys r s = (r.0, both_in_range xs ys r.1 s)

numbers_fit : (rd v : ℕ) → rd < 32 → AreInRange (number_in rd v)
numbers_fit rd v h = ((h, hi_small v), ((h, h, lo_signed v), tt))

zeros_fit : (n k : ℕ) → n + k ≤ 32 → AreInRange (zeros n k)
zeros_fit zero k h = tt
zeros_fit (suc n) k h = ((omega arith, omega arith, signed_small (4 * k) (omega arith)), zeros_fit n (k + 1) (omega arith))

mask_fits : (s : Service) (mask : ℕ) → AreInRange (mask_of s mask)
mask_fits s mask = cond_both (has_mask s) (number_in 30 mask) [] AreInRange (λ _. numbers_fit 30 mask (omega arith)) (λ _. tt)

-- under a mask of either kind
either_fits : (mask : ℕ) (near far : List InstrKind) → (mask ≤ 2047 → AreInRange near) → AreInRange far → AreInRange (if nat_le mask 2047 then near else far)
either_fits mask near far n f = cond_both (nat_le mask 2047) near far AreInRange (λ e. n (leb-true mask 2047 e)) (λ e. f)

twelve : IsEven 13 (pos 12)
twelve = ((omega (arith, ints), omega (arith, ints)), refl)

-- the registers and numbers of each are in range
pub are_in_range : (app : App) (places : Places) (func address : ℕ) (long : Bool) (o : Op) → HasNumbersInRange app places func address long o → AreInRange (operation_code app places func address long o)
are_in_range app places func address long (op.Alu kind rd rs1 rs2) h = (register_fits kind rd rs1 rs2 h.0 h.1 h.2, tt)
are_in_range app places func address long (op.AluImm kind rd rs1 number) h = (number_fits kind rd rs1 number h.0 h.1 h.2, tt)
are_in_range app places func address long (op.Lui rd number) h = (h, tt)
are_in_range app places func address long (op.Li rd value) h = ((omega arith, hi_small value), ((h, omega arith, lo_signed value), tt))
are_in_range app places func address long (op.FrameLoad rd word) h = let w = h.1 in ((h.0, omega arith, signed_small (4 * word) (omega arith)), tt)
are_in_range app places func address long (op.FrameStore rs word) h = let w = h.1 in ((omega arith, h.0, signed_small (4 * word) (omega arith)), tt)
are_in_range app places func address long (op.Load w rd symbol offset) h =
    let v = symbol_address places symbol + offset in ((omega arith, hi_small v), (load_fits w rd v h.0, tt))
are_in_range app places func address long (op.Store w rs symbol offset) h =
    let v = symbol_address places symbol + offset in ((omega arith, hi_small v), (store_fits w rs v h.0, tt))
are_in_range app places func address long (op.LoadAt w rd symbol index mask) h =
    let v = symbol_address places symbol in
    either_fits mask (index_code index mask v ++ (load w rd 31 (lo v) ∷ [])) (wide (op.LoadAt w rd symbol index mask) v)
    (λ m. ((omega arith, h.1, signed_small mask (omega arith)), ((omega arith, hi_small v), ((omega arith, omega arith, omega arith), (load_fits w rd v h.0, tt)))))
    ((omega arith, hi_small mask), ((omega arith, omega arith, lo_signed mask), ((omega arith, h.1, omega arith), ((omega arith, hi_small v), ((omega arith, omega arith, omega arith), (load_fits w rd v h.0, tt))))))
are_in_range app places func address long (op.StoreAt w rs symbol index mask) h =
    let v = symbol_address places symbol in
    either_fits mask (index_code index mask v ++ (store w rs 31 (lo v) ∷ [])) (wide (op.StoreAt w rs symbol index mask) v)
    (λ m. ((omega arith, h.1, signed_small mask (omega arith)), ((omega arith, hi_small v), ((omega arith, omega arith, omega arith), (store_fits w rs v h.0, tt)))))
    ((omega arith, hi_small mask), ((omega arith, omega arith, lo_signed mask), ((omega arith, h.1, omega arith), ((omega arith, hi_small v), ((omega arith, omega arith, omega arith), (store_fits w rs v h.0, tt))))))
are_in_range app places func address false (op.Branch kind rs1 rs2 label) h = (test_fits kind rs1 rs2 (distance address (label_address app places func label)) h.0 h.1 h.2, tt)
are_in_range app places func address true (op.Branch kind rs1 rs2 label) h =
    let target = label_address app places func label in
    both_in_range (number_in 31 (address + 24)) (test (opposite kind) rs1 rs2 (pos 12) ∷ (number_in 31 target ++ (Jalr 0 31 (pos 0) ∷ []))) (numbers_fit 31 (address + 24) (omega arith)) (
      test_fits (opposite kind) rs1 rs2 (pos 12) h.0 h.1 twelve,
      both_in_range (number_in 31 target) (Jalr 0 31 (pos 0) ∷ []) (numbers_fit 31 target (omega arith)) ((omega arith, omega arith, signed_small 0 (omega arith)), tt),
    )
are_in_range app places func address long (op.Jump label) h = ((omega arith, h), tt)
are_in_range app places func address long (op.Invoke callee) h =
    let words = (function app callee).frame_words in
    let few = h.0 in (
      (omega arith, omega arith, below_zero (4 + 4 * words) (omega arith)),
      both_in_range (zeros words 0) (Auipc 31 0 ∷ Sw 2 31 (pos (4 * words)) ∷ Jal 0 (distance (address + 4 * (words + 3)) (item_address places callee 0)) ∷ []) (zeros_fit words 0 (omega arith))
          ((omega arith, omega arith), ((omega arith, omega arith, signed_small (4 * words) (omega arith)), ((omega arith, h.2), tt))),
    )
are_in_range app places func address long op.Return h =
    let words = (function app func).frame_words in (
      (omega arith, omega arith, signed_small (4 * words) (omega arith)),
      (
        (omega arith, omega arith, signed_small (4 + 4 * words) (omega arith)),
        ((omega arith, omega arith, signed_small 12 (omega arith)), tt),
      ),
    )
are_in_range app places func address long (op.Serve call) h =
    both_in_range (mask_of call.service call.mask)
    (Jal 31 (distance (address + 4 * length (mask_of call.service call.mask)) (block_address places call.service call.object)) ∷ []) (mask_fits call.service call.mask) ((omega arith, h.1), tt)
