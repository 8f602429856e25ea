-- When the numbers of an item have room in the fields of its instructions.
use Rattle.std.specs.Prelude.{ℕ, ◌+◌, ◌*◌, ◌<◌, ◌≤◌, ◌^◌, Bool, true, false, length}
use Rattle.sloth_base.specs.Named.{function}
use Rattle.sloth_base.specs.declared.app.App.{App}
use Rattle.sloth_base.specs.declared.app.Op.{Op}
use Rattle.sloth_base.specs.declared.app.Op.TheVariants as op
use Rattle.sloth_base.specs.declared.limits.Places.{Places}
use Rattle.sloth_base.specs.Limits.{mask_limit, frame_limit}
use Rattle.code_rules.specs.AppRange.{IsNumberOf}
use Rattle.rv32_instr.specs.Range.{IsEven}
use Rattle.rv32_expand.specs.Expansion.{distance, item_address, symbol_address, block_address, label_address, mask_of}

-- a long branch always has room
abbrev pub HasBranchRoom : (long : Bool) → (from to : ℕ) → Type 0
HasBranchRoom true from to = from + 24 < 2 ^ 32
HasBranchRoom false from to = IsEven 13 (distance from to)

-- the numbers of an operation of a function, at its address
abbrev pub HasNumbersInRange : App → Places → (func address : ℕ) → (long : Bool) → Op → Type 0
HasNumbersInRange app places func address long (op.Alu kind rd rs1 rs2) = (rd < 32) × (rs1 < 32) × (rs2 < 32)
HasNumbersInRange app places func address long (op.AluImm kind rd rs1 number) = (rd < 32) × (rs1 < 32) × IsNumberOf kind number
HasNumbersInRange app places func address long (op.Lui rd number) = (rd < 32) × (number < 2 ^ 20)
HasNumbersInRange app places func address long (op.Li rd value) = rd < 32
HasNumbersInRange app places func address long (op.FrameLoad rd word) = (rd < 32) × (word < frame_limit)
HasNumbersInRange app places func address long (op.FrameStore rs word) = (rs < 32) × (word < frame_limit)
HasNumbersInRange app places func address long (op.Load w rd symbol offset) = (rd < 32) × (symbol_address places symbol + offset < 2 ^ 32)
HasNumbersInRange app places func address long (op.Store w rs symbol offset) = (rs < 32) × (symbol_address places symbol + offset < 2 ^ 32)
HasNumbersInRange app places func address long (op.LoadAt w rd symbol index mask) = (rd < 32) × (index < 32) × (mask ≤ mask_limit)
HasNumbersInRange app places func address long (op.StoreAt w rs symbol index mask) = (rs < 32) × (index < 32) × (mask ≤ mask_limit)
HasNumbersInRange app places func address long (op.Branch kind rs1 rs2 label) = (rs1 < 32) × (rs2 < 32) × HasBranchRoom long address (label_address app places func label)
HasNumbersInRange app places func address long (op.Jump label) = IsEven 21 (distance address (label_address app places func label))
HasNumbersInRange app places func address long (op.Invoke callee) =
    ((function app callee).frame_words ≤ frame_limit) × (address < 2 ^ 31 + 2 ^ 22)
    × IsEven 21 (distance (address + 4 * ((function app callee).frame_words + 3)) (item_address places callee 0))
HasNumbersInRange app places func address long op.Return = (function app func).frame_words ≤ frame_limit
HasNumbersInRange app places func address long (op.Serve call) =
    (address < 2 ^ 31 + 2 ^ 22) × IsEven 21 (distance (address + 4 * length (mask_of call.service call.mask)) (block_address places call.service call.object))
