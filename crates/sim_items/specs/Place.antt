-- Where a task stands at an item, and the code of the items.
use Rattle.std.specs.Prelude.{ℕ, ◌+◌, ◌*◌, ◌%◌, ◌<◌, ◌≤◌, ◌≡◌, ◌^◌, true, false, List, [], ◌∷◌, length, get_or, Some, None}
use Rattle.sloth_base.specs.declared.app.App.{App}
use Rattle.sloth_base.specs.declared.app.Op.{Op}
use Rattle.sloth_base.specs.declared.app.Op.TheVariants as op
use Rattle.sloth_base.specs.declared.app.Width.{Width}
use Rattle.sloth_base.specs.Arithmetic.{size_of}
use Rattle.sloth_base.specs.Machine.{State}
use Rattle.code_rules.specs.AppRange.{IsRegister, IsNumberOf}
use Rattle.sloth_region.specs.Layout.{cur}
use Rattle.rv32_instr.specs.declared.InstrKind.{InstrKind}
use Rattle.rv32_instr.specs.Encode.{Encode}
use Rattle.rv32_instr.specs.Range.{InRange}
use Rattle.rv32_instr.specs.Ram.{word_at}
use Rattle.rv32_expand.specs.Expansion.{item_address, expansion}
use Rattle.rv32_expand.specs.InPlace.{item_mark, last_address}
use Rattle.observe.specs.Observe.{View, mark_at}
use Rattle.osek_scheduler.specs.State.{Frame, System, task}
use Rattle.sloth_base.specs.Named.{function, operation, label_of, symbol_size}
use Rattle.sloth_base.specs.MemoryMap.{memory_base, memory_bytes}
use Rattle.sloth_base.specs.Limits.{mask_limit}
use Rattle.sim_relation.specs.Bounds.{AreBelow}
use Rattle.sim_relation.specs.Build.{Build}
use Rattle.sim_relation.specs.Position.{thread_of, AreFrames, InExpansion, IsCalling, IsReturning}
use Rattle.sim_relation.specs.Context.{IsContext}

-- the running task stands before an instruction of its next item
pub record AtItem (b : Build) (state : State) (s : System) (t : ℕ) : Type 0 where
  pub current : word_at state.core.ram cur ≡ t + 1
  pub place : ℕ
  pub context : IsContext b state.core.ram t (task s t) (thread_of state) place
  pub free : (task s t).owed ≡ false
  pub frame : Frame
  pub outer : List Frame
  pub frames : (task s t).frames ≡ frame ∷ outer
  pub inside : frame.item < length (function b.app frame.func).items
  pub stood : AreFrames b state.core.ram frame outer place (b.top t)
  pub here : InExpansion b (task s t) frame (thread_of state)

-- the running task stands inside a call
pub record InCall (b : Build) (state : State) (s : System) (t : ℕ) : Type 0 where
  pub current : word_at state.core.ram cur ≡ t + 1
  pub place : ℕ
  pub context : IsContext b state.core.ram t (task s t) (thread_of state) place
  pub frame : Frame
  pub outer : List Frame
  pub frames : (task s t).frames ≡ frame ∷ outer
  pub inside : frame.item < length (function b.app frame.func).items
  pub calling : IsCalling b state.core.ram (b.top t) (task s t) frame outer (thread_of state) place

-- the running task stands inside a return
pub record InReturn (b : Build) (state : State) (s : System) (t : ℕ) : Type 0 where
  pub current : word_at state.core.ram cur ≡ t + 1
  pub place : ℕ
  pub context : IsContext b state.core.ram t (task s t) (thread_of state) place
  pub frame : Frame
  pub outer : List Frame
  pub frames : (task s t).frames ≡ frame ∷ outer
  pub inside : frame.item < length (function b.app frame.func).items
  pub returning : IsReturning b state.core.ram (b.top t) (task s t) frame outer (thread_of state) place

-- the image has this instruction at an address, among its code
pub record HasInstruction (b : Build) (address : ℕ) (kind : InstrKind) : Type 0 where
  pub offset : ℕ
  pub is : address ≡ memory_base + offset
  pub to : offset + 4 ≤ memory_bytes
  pub is_code : (i : ℕ) → offset ≤ i → i < offset + 4 → b.is_code i ≡ true
  pub word : word_at b.memory offset ≡ Encode kind
  pub in_range : InRange kind

-- these instructions, one after the other
abbrev pub HasInstructions : Build → ℕ → List InstrKind → Type 0
HasInstructions b address [] = Unit {0}
HasInstructions b address (kind ∷ code) = HasInstruction b address kind × HasInstructions b (address + 4) code

-- an item stands in the image: its whole expansion, its mark at the last instruction and at no other, and the next item behind it
pub record ItemStands (b : Build) (view : View) (func item : ℕ) : Type 0 where
  pub code : HasInstructions b (item_address b.places func item) (expansion b.app b.places func item)
  pub marked : mark_at view (last_address b.app b.places func item) ≡ Some (item_mark b.app b.places func item)
  pub unmarked : (i : ℕ) → i + 1 < length (expansion b.app b.places func item) → mark_at view (item_address b.places func item + 4 * i) ≡ None
  pub adjacent : item + 1 < length (function b.app func).items
      → item_address b.places func (item + 1) ≡ item_address b.places func item + 4 * length (expansion b.app b.places func item)

-- an access to a symbol lies inside its bytes, at a multiple of its width
pub record IsAccess (app : App) (w : Width) (symbol offset : ℕ) : Type 0 where
  pub inside : offset + size_of w ≤ symbol_size app symbol
  pub aligned : offset % size_of w ≡ 0

-- an access by an index under a mask: whatever the index, it lies inside the symbol's bytes, at a multiple of its width
pub record IsMasked (app : App) (w : Width) (symbol mask : ℕ) : Type 0 where
  pub inside : mask + size_of w ≤ symbol_size app symbol
  pub aligned : mask % size_of w ≡ 0
  pub few : mask ≤ mask_limit

-- An item behind which the next one follows. It computes on registers and numbers, or moves a word of its frame or a number of a
-- symbol, at a place that its code names or at an index under a mask.
abbrev pub IsStraight : App → (func : ℕ) → Op → Type 0
IsStraight app func (op.Alu kind rd rs1 rs2) = IsRegister rd × IsRegister rs1 × IsRegister rs2
IsStraight app func (op.AluImm kind rd rs1 number) = IsRegister rd × IsRegister rs1 × IsNumberOf kind number
IsStraight app func (op.Lui rd number) = IsRegister rd × (number < 2 ^ 20)
IsStraight app func (op.Li rd value) = IsRegister rd × (value < 2 ^ 32)
IsStraight app func (op.FrameLoad rd word) = IsRegister rd × (word < (function app func).frame_words)
IsStraight app func (op.FrameStore rs word) = IsRegister rs × (word < (function app func).frame_words)
IsStraight app func (op.Load width rd symbol offset) = IsRegister rd × IsAccess app width symbol offset
IsStraight app func (op.Store width rs symbol offset) = IsRegister rs × IsAccess app width symbol offset
IsStraight app func (op.LoadAt width rd symbol index mask) = IsRegister rd × IsRegister index × IsMasked app width symbol mask
IsStraight app func (op.StoreAt width rs symbol index mask) = IsRegister rs × IsRegister index × IsMasked app width symbol mask
IsStraight app func (op.Branch kind rs1 rs2 label) = ⊥
IsStraight app func (op.Jump label) = ⊥
IsStraight app func (op.Invoke callee) = ⊥
IsStraight app func op.Return = ⊥
IsStraight app func (op.Serve call) = ⊥

-- a label of a function stands at one of its items
pub record IsTarget (app : App) (func label : ℕ) : Type 0 where
  pub known : label < length (function app func).labels
  pub inside : (label_of (function app func) label).item < length (function app func).items

-- an item that goes on at a label of its function, or may go on there or at the next item
abbrev pub IsFlow : App → (func item : ℕ) → Op → Type 0
IsFlow app func item (op.Branch kind rs1 rs2 label) = IsRegister rs1 × IsRegister rs2 × IsTarget app func label × (item + 1 < length (function app func).items)
IsFlow app func item (op.Jump label) = IsTarget app func label
IsFlow app func item (op.Alu kind rd rs1 rs2) = ⊥
IsFlow app func item (op.AluImm kind rd rs1 number) = ⊥
IsFlow app func item (op.Lui rd number) = ⊥
IsFlow app func item (op.Li rd value) = ⊥
IsFlow app func item (op.FrameLoad rd word) = ⊥
IsFlow app func item (op.FrameStore rs word) = ⊥
IsFlow app func item (op.Load width rd symbol offset) = ⊥
IsFlow app func item (op.Store width rs symbol offset) = ⊥
IsFlow app func item (op.LoadAt width rd symbol index mask) = ⊥
IsFlow app func item (op.StoreAt width rs symbol index mask) = ⊥
IsFlow app func item (op.Invoke callee) = ⊥
IsFlow app func item op.Return = ⊥
IsFlow app func item (op.Serve call) = ⊥

-- each item of a function stands in the image
abbrev pub FunctionStands : Build → View → (func : ℕ) → Type 0
FunctionStands b view func = (item : ℕ) → item < length (function b.app func).items → ItemStands b view func item

-- an item calls a function, which stands in the image too
pub record IsCall (b : Build) (view : View) (func item callee : ℕ) : Type 0 where
  pub is : operation b.app func item ≡ op.Invoke callee
  pub known : callee < length b.app.funcs
  pub some : 0 < length (function b.app callee).items
  pub placed : ItemStands b view func item
  pub first : ItemStands b view callee 0

-- an item returns to this caller, which stands at the call and goes on behind it
pub record IsReturn (b : Build) (view : View) (func item : ℕ) (caller : Frame) : Type 0 where
  pub is : operation b.app func item ≡ op.Return
  pub placed : ItemStands b view func item
  pub call : operation b.app caller.func caller.item ≡ op.Invoke func
  pub more : caller.item + 1 < length (function b.app caller.func).items
  pub calling : ItemStands b view caller.func caller.item
  pub next : ItemStands b view caller.func (caller.item + 1)

-- each symbol has as many bytes as the task code says
abbrev pub HasSymbolSizes : App → List (List ℕ) → Type 0
HasSymbolSizes app symbols = (y : ℕ) → length (get_or symbols y []) ≡ symbol_size app y

-- what items need of the numbers: registers hold words, and symbols have their bytes
pub record HasNumbers (b : Build) (state : State) (s : System) : Type 0 where
  pub words : AreBelow 4294967296 state.core.registers
  pub sizes : HasSymbolSizes b.app s.symbols
