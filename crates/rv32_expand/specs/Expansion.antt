-- The instructions of each item. The last one, which commits the item, changes what task code sees; those before it use x30 and x31 alone.
use Rattle.std.specs.Prelude.{ℕ, zero, suc, ◌+◌, ◌*◌, ℤ, pos, ◌-ℤ◌, neg_ℤ, Bool, true, false, if◌then◌else◌, nat_lt, nat_le, List, [], ◌∷◌, ◌++◌, length, get_or}
use Rattle.sloth_base.specs.ServiceCodes.{has_mask}
use Rattle.sloth_base.specs.declared.app.App.{App}
use Rattle.sloth_base.specs.Named.{function, label_of, operation}
use Rattle.sloth_base.specs.declared.app.Call.{Call}
use Rattle.sloth_base.specs.declared.app.Op.{Op}
use Rattle.sloth_base.specs.declared.app.Op.TheVariants as op
use Rattle.sloth_base.specs.declared.app.AluKind.{AluKind}
use Rattle.sloth_base.specs.declared.app.AluKind.TheVariants as alu
use Rattle.sloth_base.specs.declared.app.ImmKind.{ImmKind}
use Rattle.sloth_base.specs.declared.app.ImmKind.TheVariants as imm
use Rattle.sloth_base.specs.declared.app.BranchKind.{BranchKind}
use Rattle.sloth_base.specs.declared.app.BranchKind.TheVariants as branch
use Rattle.sloth_base.specs.declared.service.Service.{Service}
use Rattle.sloth_base.specs.declared.limits.Places.{Places}
use Rattle.sloth_base.specs.Arithmetic.{hi, lo}
use Rattle.sloth_base.specs.Blocks.{block_number}
use Rattle.rv32_instr.specs.Access.{load, store}
use Rattle.rv32_instr.specs.declared.InstrKind.{InstrKind}
use Rattle.rv32_instr.specs.declared.InstrKind.TheVariants.{Lui, Auipc, Jal, Jalr, Beq, Bne, Blt, Bge, Bltu, Bgeu, Lw, Sw, Addi, Slti, Sltiu, Xori, Ori, Andi, Slli, Srli, Srai, Add, Sub, Sll, Slt, Sltu, Xor, Srl, Sra, Or, And}
use Rattle.rv32_expand.specs.FarAccesses.{far_indexed}

-- ---- addresses

-- the address of an item of a function
abbrev pub item_address : Places → ℕ → ℕ → ℕ
item_address places func index = get_or places.items (get_or places.first func 0 + index) 0

-- the address of a symbol
abbrev pub symbol_address : Places → ℕ → ℕ
symbol_address places symbol = get_or places.symbols symbol 0

-- the address of the code of a service with its object
abbrev pub block_address : Places → Service → ℕ → ℕ
block_address places s object = get_or places.blocks (block_number s object) 0

-- how far it is from one address to another
abbrev pub distance : ℕ → ℕ → ℤ
distance from to = pos to -ℤ pos from

-- the address of the item behind a label
abbrev pub label_address : App → Places → ℕ → ℕ → ℕ
label_address app places func label =
    item_address places func (label_of (function app func) label).item

-- ---- one instruction

-- an operation on two registers
abbrev pub register_operation : AluKind → ℕ → ℕ → ℕ → InstrKind
register_operation alu.Add rd rs1 rs2 = Add rd rs1 rs2
register_operation alu.Sub rd rs1 rs2 = Sub rd rs1 rs2
register_operation alu.Sll rd rs1 rs2 = Sll rd rs1 rs2
register_operation alu.Slt rd rs1 rs2 = Slt rd rs1 rs2
register_operation alu.Sltu rd rs1 rs2 = Sltu rd rs1 rs2
register_operation alu.Xor rd rs1 rs2 = Xor rd rs1 rs2
register_operation alu.Srl rd rs1 rs2 = Srl rd rs1 rs2
register_operation alu.Sra rd rs1 rs2 = Sra rd rs1 rs2
register_operation alu.Or rd rs1 rs2 = Or rd rs1 rs2
register_operation alu.And rd rs1 rs2 = And rd rs1 rs2

-- the amount of a shift, which is not negative
abbrev pub amount : ℤ → ℕ
amount (pos n) = n
amount z = 0

-- an operation on a register and a number
abbrev pub number_operation : ImmKind → ℕ → ℕ → ℤ → InstrKind
number_operation imm.Addi rd rs1 number = Addi rd rs1 number
number_operation imm.Slti rd rs1 number = Slti rd rs1 number
number_operation imm.Sltiu rd rs1 number = Sltiu rd rs1 number
number_operation imm.Xori rd rs1 number = Xori rd rs1 number
number_operation imm.Ori rd rs1 number = Ori rd rs1 number
number_operation imm.Andi rd rs1 number = Andi rd rs1 number
number_operation imm.Slli rd rs1 number = Slli rd rs1 (amount number)
number_operation imm.Srli rd rs1 number = Srli rd rs1 (amount number)
number_operation imm.Srai rd rs1 number = Srai rd rs1 (amount number)

-- goes on so many bytes from here where the test of two registers holds
abbrev pub test : BranchKind → (a b : ℕ) → ℤ → InstrKind
test branch.Beq a b offset = Beq a b offset
test branch.Bne a b offset = Bne a b offset
test branch.Blt a b offset = Blt a b offset
test branch.Bge a b offset = Bge a b offset
test branch.Bltu a b offset = Bltu a b offset
test branch.Bgeu a b offset = Bgeu a b offset

-- the test that holds where the other does not
abbrev pub opposite : BranchKind → BranchKind
opposite branch.Beq = branch.Bne
opposite branch.Bne = branch.Beq
opposite branch.Blt = branch.Bge
opposite branch.Bge = branch.Blt
opposite branch.Bltu = branch.Bgeu
opposite branch.Bgeu = branch.Bltu

-- ---- several

-- a word in a register
abbrev pub number_in : ℕ → ℕ → List InstrKind
number_in rd value = Lui rd (hi value) ∷ Addi rd rd (lo value) ∷ []

-- x31 is the address of a masked index into a symbol, less the low part
abbrev pub index_code : (index mask address : ℕ) → List InstrKind
index_code index mask address = Andi 31 index (pos mask) ∷ Lui 30 (hi address) ∷ Add 31 31 30 ∷ []

-- the access behind a masked index, where the mask may have no place in an instruction
abbrev pub indexed : (index mask address : ℕ) → (access : InstrKind) → List InstrKind
indexed index mask address access = if nat_le mask 2047 then index_code index mask address ++ (access ∷ []) else far_indexed index mask address ++ (access ∷ [])

-- a branch at an address: the test itself, or where it is long, a jump to what x31 holds: the next item, or the target where the test holds
abbrev pub branch_code : (long : Bool) → BranchKind → (a b address target : ℕ) → List InstrKind
branch_code false kind a b address target = test kind a b (distance address target) ∷ []
branch_code true kind a b address target =
    number_in 31 (address + 24) ++ (test (opposite kind) a b (pos 12) ∷ (number_in 31 target ++ (Jalr 0 31 (pos 0) ∷ [])))

-- zeros in so many words of a new frame, from word k on
abbrev pub zeros : ℕ → ℕ → List InstrKind
zeros zero k = []
zeros (suc n) k = Sw 2 0 (pos (4 * k)) ∷ zeros n (k + 1)

-- a call, at an address, of a function with so many frame words
abbrev pub call_code : (address words target : ℕ) → List InstrKind
call_code address words target =
    Addi 2 2 (neg_ℤ (pos (4 + 4 * words))) ∷ (zeros words 0
    ++ (Auipc 31 0 ∷ Sw 2 31 (pos (4 * words)) ∷ Jal 0 (distance (address + 4 * (words + 3)) target) ∷ []))

-- the mask of the named events in x30, where the service has one
abbrev pub mask_of : Service → ℕ → List InstrKind
mask_of s mask = if has_mask s then number_in 30 mask else []

-- the jump to the service's block, from an address
abbrev pub service_jump : Places → Call → ℕ → List InstrKind
service_jump places call address =
    mask_of call.service call.mask
    ++ (Jal 31 (distance (address + 4 * length (mask_of call.service call.mask)) (block_address places call.service call.object)) ∷ [])

-- ---- an item, at its address

-- the instructions of an operation of a function, at its address, where a branch is long or not
abbrev pub operation_code : App → Places → (func address : ℕ) → (long : Bool) → Op → List InstrKind
operation_code app places func address long (op.Alu kind rd rs1 rs2) = register_operation kind rd rs1 rs2 ∷ []
operation_code app places func address long (op.AluImm kind rd rs1 number) = number_operation kind rd rs1 number ∷ []
operation_code app places func address long (op.Lui rd number) = Lui rd number ∷ []
operation_code app places func address long (op.Li rd value) = Lui 31 (hi value) ∷ Addi rd 31 (lo value) ∷ []
operation_code app places func address long (op.FrameLoad rd word) = Lw rd 2 (pos (4 * word)) ∷ []
operation_code app places func address long (op.FrameStore rs word) = Sw 2 rs (pos (4 * word)) ∷ []
operation_code app places func address long (op.Load w rd symbol offset) =
    Lui 31 (hi (symbol_address places symbol + offset)) ∷ load w rd 31 (lo (symbol_address places symbol + offset)) ∷ []
operation_code app places func address long (op.Store w rs symbol offset) =
    Lui 31 (hi (symbol_address places symbol + offset)) ∷ store w rs 31 (lo (symbol_address places symbol + offset)) ∷ []
operation_code app places func address long (op.LoadAt w rd symbol index mask) =
    indexed index mask (symbol_address places symbol) (load w rd 31 (lo (symbol_address places symbol)))
operation_code app places func address long (op.StoreAt w rs symbol index mask) =
    indexed index mask (symbol_address places symbol) (store w rs 31 (lo (symbol_address places symbol)))
operation_code app places func address long (op.Branch kind rs1 rs2 label) = branch_code long kind rs1 rs2 address (label_address app places func label)
operation_code app places func address long (op.Jump label) = Jal 0 (distance address (label_address app places func label)) ∷ []
operation_code app places func address long (op.Invoke callee) = call_code address (function app callee).frame_words (item_address places callee 0)
operation_code app places func address long op.Return =
    Lw 31 2 (pos (4 * (function app func).frame_words)) ∷ Addi 2 2 (pos (4 + 4 * (function app func).frame_words)) ∷ Jalr 0 31 (pos 12) ∷ []
operation_code app places func address long (op.Serve call) = service_jump places call address

-- A branch is long where more than one word lies between its address and that of the next item.
abbrev pub is_long : Places → (func index : ℕ) → Bool
is_long places func index = nat_lt (item_address places func index + 4) (item_address places func (index + 1))

-- the instructions of an item of a function
abbrev pub expansion : App → Places → (func index : ℕ) → List InstrKind
expansion app places func index = operation_code app places func (item_address places func index) (is_long places func index) (operation app func index)
