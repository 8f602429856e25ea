-- The items of task code stand in an image, and its marks say where.
use Rattle.std.specs.Prelude.{ℕ, ◌+◌, ◌-◌, ◌*◌, ◌<◌, ◌≡◌, ◌∷◌, List, [], map, length, get_or, All, Contains, Some}
use Rattle.sloth_base.specs.ServiceCodes.{code_of}
use Rattle.sloth_base.specs.declared.app.App.{App}
use Rattle.sloth_base.specs.declared.config.Config.{Config}
use Rattle.sloth_base.specs.declared.app.Op.{Op}
use Rattle.sloth_base.specs.declared.app.Op.TheVariants as op
use Rattle.sloth_base.specs.declared.image.Image.{Image}
use Rattle.sloth_base.specs.declared.image.Mark.{Mark}
use Rattle.sloth_base.specs.declared.image.MarkKind.{MarkKind}
use Rattle.sloth_base.specs.declared.image.MarkKind.TheVariants as kind
use Rattle.sloth_base.specs.declared.limits.Places.{Places}
use Rattle.rv32_instr.specs.Encode.{Encode}
use Rattle.rv32_instr.specs.Ram.{word_at}
use Rattle.rv32_instr.specs.declared.InstrKind.{InstrKind}
use Rattle.rv32_expand.specs.Long.{AreLongBranches}
use Rattle.rv32_expand.specs.Expansion.{is_long, expansion, item_address}
use Rattle.sloth_base.specs.Named.{operation, function}
use Rattle.sloth_base.specs.MemoryMap.{memory_base}

-- the register of an item's result: its destination, a store's source, or x0
abbrev pub result_register : Op → ℕ
result_register (op.Alu kind rd rs1 rs2) = rd
result_register (op.AluImm kind rd rs1 number) = rd
result_register (op.Lui rd number) = rd
result_register (op.Li rd value) = rd
result_register (op.FrameLoad rd word) = rd
result_register (op.FrameStore rs word) = rs
result_register (op.Load w rd symbol offset) = rd
result_register (op.Store w rs symbol offset) = rs
result_register (op.LoadAt w rd symbol index mask) = rd
result_register (op.StoreAt w rs symbol index mask) = rs
result_register (op.Branch kind rs1 rs2 label) = 0
result_register (op.Jump label) = 0
result_register (op.Invoke callee) = 0
result_register op.Return = 0
result_register (op.Serve call) = 0

-- an item's mark is that of an item, of a service that of a jump
abbrev pub mark_kind : Op → MarkKind
mark_kind (op.Serve call) = kind.Jump
mark_kind operation = kind.Item

-- it names the register of the result, of a service the service
abbrev pub mark_number : Op → ℕ
mark_number (op.Serve call) = code_of call.service
mark_number operation = result_register operation

-- the mark of an item at an address
abbrev pub mark_of : Op → (address func index : ℕ) → Mark
mark_of operation address func index = record { address = address; kind = mark_kind operation; a = mark_number operation; b = func; c = index }

-- the address of an item's last word
abbrev pub last_address : App → Places → (func index : ℕ) → ℕ
last_address app places func index = item_address places func index + 4 * (length (expansion app places func index) - 1)

-- the mark of an item, on its last instruction
abbrev pub item_mark : App → Places → (func index : ℕ) → Mark
item_mark app places func index = mark_of (operation app func index) (last_address app places func index) func index

-- the words of these instructions stand at an address, one after the other
abbrev pub CodeAt : List ℕ → ℕ → List InstrKind → Type 0
CodeAt memory address [] = Unit {0}
CodeAt memory address (i ∷ rest) = (word_at memory (address - memory_base) ≡ Encode i) × CodeAt memory (address + 4) rest

-- an item of the task code
pub record IsAppItem (app : App) (func index : ℕ) : Type 0 where
  pub declared : func < length app.funcs
  pub inside : index < length (function app func).items

-- a mark is of an item where it is an item mark or that of a jump to a service
abbrev pub IsOfItem : MarkKind → Type 0 → Type 0
IsOfItem kind.Item Fact = Fact
IsOfItem kind.Jump Fact = Fact
IsOfItem kind.Opening Fact = Unit {0}
IsOfItem kind.Idle Fact = Unit {0}
IsOfItem kind.Back Fact = Unit {0}

-- the name of the body of a task
abbrev pub IsBodyName : App → ℕ → List ℕ → Type 0
IsBodyName app task name = (func : ℕ) × (func < length app.funcs) × ((function app func).task ≡ Some task) × ((function app func).name ≡ name)

-- The addresses make as few branches long as can be.
-- With one list of addresses for all items, symbols and service blocks. A mark's address is its own, so that an item has one mark.
-- The image has the name of each function and of each task, and no other.
pub record ItemsInPlace (image : Image) (config : Config) (app : App) : Type 0 where
  pub places : Places
  pub code : (func index : ℕ) → IsAppItem app func index
      → CodeAt image.memory (item_address places func index) (expansion app places func index)
  pub inside : (func index : ℕ) → IsAppItem app func index
      → (memory_base < item_address places func index + 1) × (last_address app places func index + 4 < memory_base + length image.memory + 1)
  pub adjacent : (func index : ℕ) → IsAppItem app func index → IsAppItem app func (index + 1)
      → item_address places func (index + 1) ≡ item_address places func index + 4 * length (expansion app places func index)
  pub least : (func : ℕ) → func < length app.funcs → AreLongBranches app (function app func) (is_long places func)
  pub marked : (func index : ℕ) → IsAppItem app func index → Contains image.marks (item_mark app places func index)
  pub only : All (λ mark. IsOfItem mark.kind (IsAppItem app mark.b mark.c × (mark ≡ item_mark app places mark.b mark.c))) image.marks
  pub functions : image.funcs ≡ map (λ f. f.name) app.funcs
  pub tasks : image.tasks ≡ map (λ d. d.name) config.tasks
  pub bodies : (task : ℕ) → task < length image.tasks → IsBodyName app task (get_or image.tasks task [])
