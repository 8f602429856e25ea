-- Arithmetic on words of 32 bits, as numbers below 2^32 (RISC-V unprivileged manual, chapter RV32I).
use Rattle.std.specs.Prelude.{ℕ, ◌+◌, ◌-◌, ◌*◌, ◌/◌, ◌%◌, ◌^◌, ℤ, pos, negsuc, ◌-ℤ◌, Bool, not, if◌then◌else◌, ◌==◌, int_lt, nat_lt, bit_and, bit_or, bit_xor}
use Rattle.sloth_base.specs.declared.app.AluKind.{AluKind}
use Rattle.sloth_base.specs.declared.app.AluKind.TheVariants as alu
use Rattle.sloth_base.specs.declared.app.ImmKind.{ImmKind}
use Rattle.sloth_base.specs.declared.app.ImmKind.TheVariants as imm
use Rattle.sloth_base.specs.declared.app.BranchKind.{BranchKind}
use Rattle.sloth_base.specs.declared.app.BranchKind.TheVariants as branch
use Rattle.sloth_base.specs.declared.app.Width.{Width}
use Rattle.sloth_base.specs.declared.app.Width.TheVariants as width

-- ---- signed numbers

-- the signed number whose two's complement is the `n` bits of `v`
abbrev pub signed : ℕ → ℕ → ℤ
signed n v = if nat_lt v (2 ^ (n - 1)) then pos v else pos v -ℤ pos (2 ^ n)

-- the two's complement of a signed number, in 32 bits
abbrev pub complement : ℤ → ℕ
complement (pos n) = n
complement (negsuc n) = 2 ^ 32 - 1 - n

-- the word that a number of `n` bits becomes by sign extension
abbrev pub sign_extension : ℕ → ℕ → ℕ
sign_extension n v = complement (signed n v)

-- ---- sums, which wrap

-- the sum of two words
abbrev pub sum32 : ℕ → ℕ → ℕ
sum32 a b = (a + b) % 2 ^ 32

-- the difference of two words
abbrev pub difference32 : ℕ → ℕ → ℕ
difference32 a b = sum32 a (2 ^ 32 - b)

-- the sum of a word and a signed number
abbrev pub plus : ℕ → ℤ → ℕ
plus a imm = sum32 a (complement imm)

-- ---- comparisons

-- less, as signed numbers
abbrev pub signed_less : ℕ → ℕ → Bool
signed_less a b = int_lt (signed 32 a) (signed 32 b)

-- the word of a test: 1 where it holds, and 0 where it does not
abbrev pub one_if : Bool → ℕ
one_if test = if test then 1 else 0

-- ---- shifts, by at most 31

-- SLL
abbrev pub left_shift : ℕ → ℕ → ℕ
left_shift a count = a * 2 ^ count % 2 ^ 32

-- SRL: zeros come in
abbrev pub right_shift : ℕ → ℕ → ℕ
right_shift a count = a / 2 ^ count

-- a signed number halved so many times, rounding down
abbrev pub halved_number : ℤ → ℕ → ℤ
halved_number (pos a) count = pos (a / 2 ^ count)
halved_number (negsuc a) count = negsuc (a / 2 ^ count)

-- SRA: the sign comes in
abbrev pub signed_right_shift : ℕ → ℕ → ℕ
signed_right_shift a count = complement (halved_number (signed 32 a) count)

-- ---- the two parts of a word, for LUI and ADDI (RISC-V assembly: %hi and %lo): the word is hi * 2^12 + lo modulo 2^32

-- bits 31 to 12, rounded
unfoldable pub hi : ℕ → ℕ
hi value = (value + 0x800) / 0x1000 % 2 ^ 20

-- the low 12 bits as a signed number
unfoldable pub lo : ℕ → ℤ
lo value = signed 12 (value % 0x1000)

-- ---- loads and stores

-- the bytes of an access
abbrev pub size_of : Width → ℕ
size_of width.Byte = 1
size_of width.Half = 2
size_of width.Word = 4
size_of width.ByteU = 1
size_of width.HalfU = 2

-- the word that a load makes of the number in its bytes
abbrev pub extended_number : Width → ℕ → ℕ
extended_number width.Byte value = sign_extension 8 value
extended_number width.Half value = sign_extension 16 value
extended_number width.Word value = value
extended_number width.ByteU value = value
extended_number width.HalfU value = value

-- ---- the operations of task code

-- an operation on two registers
abbrev pub register_result : AluKind → ℕ → ℕ → ℕ
register_result alu.Add a b = sum32 a b
register_result alu.Sub a b = difference32 a b
register_result alu.Sll a b = left_shift a (b % 32)
register_result alu.Slt a b = one_if (signed_less a b)
register_result alu.Sltu a b = one_if (nat_lt a b)
register_result alu.Xor a b = bit_xor a b
register_result alu.Srl a b = right_shift a (b % 32)
register_result alu.Sra a b = signed_right_shift a (b % 32)
register_result alu.Or a b = bit_or a b
register_result alu.And a b = bit_and a b

-- an operation on a register and the word of a number; a shift is by that number
abbrev pub number_result : ImmKind → ℕ → ℕ → ℕ
number_result imm.Addi a b = sum32 a b
number_result imm.Slti a b = one_if (signed_less a b)
number_result imm.Sltiu a b = one_if (nat_lt a b)
number_result imm.Xori a b = bit_xor a b
number_result imm.Ori a b = bit_or a b
number_result imm.Andi a b = bit_and a b
number_result imm.Slli a b = left_shift a b
number_result imm.Srli a b = right_shift a b
number_result imm.Srai a b = signed_right_shift a b

-- whether a test of two registers holds
abbrev pub branch_holds : BranchKind → ℕ → ℕ → Bool
branch_holds branch.Beq a b = a == b
branch_holds branch.Bne a b = not (a == b)
branch_holds branch.Blt a b = signed_less a b
branch_holds branch.Bge a b = not (signed_less a b)
branch_holds branch.Bltu a b = nat_lt a b
branch_holds branch.Bgeu a b = not (nat_lt a b)
