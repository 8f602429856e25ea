-- When task code is in range of a configuration: what its text may have said.
use Rattle.std.specs.Prelude.{ℕ, ℤ, pos, negsuc, ◌<◌, ◌≤◌, ◌≡◌, ◌⊎◌, List, [], ◌∷◌, length, map, sum, All, Bool, true, false, IsTrue, None, get_or, bit_or}
use Rattle.sloth_base.specs.declared.config.Config.{Config}
use Rattle.sloth_base.specs.declared.app.App.{App}
use Rattle.sloth_base.specs.declared.app.Func.{Func}
use Rattle.sloth_base.specs.declared.app.ImmKind.{ImmKind}
use Rattle.sloth_base.specs.declared.app.ImmKind.TheVariants as imm
use Rattle.sloth_base.specs.declared.app.Label.{Label}
use Rattle.sloth_base.specs.declared.app.Op.{Op}
use Rattle.sloth_base.specs.declared.app.Op.TheVariants as op
use Rattle.sloth_base.specs.declared.app.Width.{Width}
use Rattle.sloth_base.specs.declared.app.Width.TheVariants as width
use Rattle.sloth_base.specs.declared.service.ObjectKind.{ObjectKind}
use Rattle.sloth_base.specs.declared.service.ObjectKind.TheVariants as object
use Rattle.sloth_base.specs.declared.service.Service.{Service}
use Rattle.sloth_base.specs.ConfigRange.{InRange, scheduler_number}
use Rattle.sloth_base.specs.ConfigRange.{no_event}
use Rattle.sloth_base.specs.ImageRange.{AreNames}
use Rattle.sloth_base.specs.Named.{function, IsBodyOf}
use Rattle.sloth_base.specs.ServiceCodes.{object_kind, has_mask}
use Rattle.sloth_base.specs.Limits.{body_limit, item_limit, symbol_limit, data_limit, frame_limit, operand_limit}

-- ---- operands

-- a register that task code sees: x0, x5 to x29
abbrev pub IsRegister : ℕ → Type 0
IsRegister r = (r ≡ 0) ⊎ ((5 ≤ r) × (r ≤ 29))

-- from -2048 to 2047
abbrev pub IsShort : ℤ → Type 0
IsShort (pos n) = n ≤ 2047
IsShort (negsuc n) = n ≤ 2047

-- from 0 to 31
abbrev pub IsAmount : ℤ → Type 0
IsAmount (pos n) = n ≤ 31
IsAmount (negsuc n) = ⊥

-- the number of an operation on a register and a number
abbrev pub IsNumberOf : ImmKind → ℤ → Type 0
IsNumberOf imm.Slli n = IsAmount n
IsNumberOf imm.Srli n = IsAmount n
IsNumberOf imm.Srai n = IsAmount n
IsNumberOf imm.Addi n = IsShort n
IsNumberOf imm.Slti n = IsShort n
IsNumberOf imm.Sltiu n = IsShort n
IsNumberOf imm.Xori n = IsShort n
IsNumberOf imm.Ori n = IsShort n
IsNumberOf imm.Andi n = IsShort n

-- a width that a store has
abbrev pub IsStored : Width → Type 0
IsStored width.Byte = Unit {0}
IsStored width.Half = Unit {0}
IsStored width.Word = Unit {0}
IsStored width.ByteU = ⊥
IsStored width.HalfU = ⊥

-- a task of the configuration
abbrev pub IsDeclared : Config → ℕ → Type 0
IsDeclared config t = t < length config.tasks

-- a RESOURCE object, or RES_SCHEDULER where that resource exists
abbrev pub IsResource : Config → ℕ → Type 0
IsResource config r = (r < length config.resources) ⊎ ((r ≡ scheduler_number) × IsTrue config.res_scheduler)

-- an alarm of the configuration
abbrev pub IsDeclaredAlarm : Config → ℕ → Type 0
IsDeclaredAlarm config a = a < length config.alarms

-- a named piece of data of the task code
abbrev pub IsSymbol : App → ℕ → Type 0
IsSymbol app y = y < length app.symbols

-- a label of a body
abbrev pub IsLabel : Func → ℕ → Type 0
IsLabel f k = k < length f.labels

-- a function that may be called: it is no task's body
abbrev pub IsCallable : App → ℕ → Type 0
IsCallable app g = (g < length app.funcs) × ((function app g).task ≡ None)

-- the union of the masks of these events
abbrev pub mask_of : Config → List ℕ → ℕ
mask_of config [] = 0
mask_of config (e ∷ events) = bit_or (get_or config.events e no_event).mask (mask_of config events)

-- the mask of one event or more, each of which is declared
pub record IsMask (config : Config) (mask : ℕ) : Type 0 where
  pub first : ℕ
  pub more : List ℕ
  pub declared : All (λ e. e < length config.events) (first ∷ more)
  pub is : mask ≡ mask_of config (first ∷ more)

-- an object of a kind; where a service names none it is 0
abbrev pub IsObject : Config → ObjectKind → ℕ → Type 0
IsObject config object.Nothing o = o ≡ 0
IsObject config object.Task t = IsDeclared config t
IsObject config object.Resource r = IsResource config r
IsObject config object.Alarm a = IsDeclaredAlarm config a

-- the mask of a service's events; where it has none it is 0
abbrev pub AreEvents : Config → (has : Bool) → ℕ → Type 0
AreEvents config true mask = IsMask config mask
AreEvents config false mask = mask ≡ 0

-- the operands of a service: its task, resource or alarm, and the mask of its events
abbrev pub AreOperands : Config → Service → (object mask : ℕ) → Type 0
AreOperands config s object mask = IsObject config (object_kind s) object × AreEvents config (has_mask s) mask

-- what an item of a body may say
abbrev pub IsOp : Config → App → Func → Op → Type 0
IsOp config app f (op.Alu kind rd a b) = IsRegister rd × IsRegister a × IsRegister b
IsOp config app f (op.AluImm kind rd a n) = IsRegister rd × IsRegister a × IsNumberOf kind n
IsOp config app f (op.Lui rd n) = IsRegister rd × (n ≤ 1048575)
IsOp config app f (op.Li rd n) = IsRegister rd × (n ≤ 4294967295)
IsOp config app f (op.FrameLoad rd word) = IsRegister rd × (word ≤ operand_limit)
IsOp config app f (op.FrameStore rs word) = IsRegister rs × (word ≤ operand_limit)
IsOp config app f (op.Load w rd y offset) = IsRegister rd × IsSymbol app y × (offset ≤ operand_limit)
IsOp config app f (op.Store w rs y offset) = IsStored w × IsRegister rs × IsSymbol app y × (offset ≤ operand_limit)
IsOp config app f (op.LoadAt w rd y index mask) = IsRegister rd × IsSymbol app y × IsRegister index × (mask ≤ operand_limit)
IsOp config app f (op.StoreAt w rs y index mask) = IsStored w × IsRegister rs × IsSymbol app y × IsRegister index × (mask ≤ operand_limit)
IsOp config app f (op.Branch kind a b k) = IsRegister a × IsRegister b × IsLabel f k
IsOp config app f (op.Jump k) = IsLabel f k
IsOp config app f (op.Invoke g) = IsCallable app g
IsOp config app f op.Return = Unit {0}
IsOp config app f (op.Serve call) = AreOperands config call.service call.object call.mask

-- ---- bodies and data

-- a label of a body: it stands before an item or behind the last one
pub record IsLabelPlaced (config : Config) (f : Func) (l : Label) : Type 0 where
  pub place : l.item ≤ length f.items
  pub holds : All (IsResource config) l.holds

-- what a body may say
pub record IsBody (config : Config) (app : App) (f : Func) : Type 0 where
  pub frame : f.frame_words ≤ frame_limit
  pub label_names : AreNames (map (λ l. l.name) f.labels)
  pub labels : All (IsLabelPlaced config f) f.labels
  pub items : All (λ item. IsOp config app f item.op) f.items

-- each task has one body, and no body is an undeclared task's
pub record HasBodies (config : Config) (app : App) : Type 0 where
  pub body : (t : ℕ) → IsDeclared config t → (f : ℕ) × IsBodyOf app t f
  pub one : (t f g : ℕ) → IsBodyOf app t f → IsBodyOf app t g → f ≡ g
  pub declared : (t f : ℕ) → IsBodyOf app t f → IsDeclared config t

-- the most of each that task code may have
pub record IsWithinLimits (app : App) : Type 0 where
  pub few_bodies : length app.funcs ≤ body_limit
  pub few_items : sum (map (λ f. length f.items) app.funcs) ≤ item_limit
  pub few_symbols : length app.symbols ≤ symbol_limit
  pub few_bytes : sum (map (λ y. length y.bytes) app.symbols) ≤ data_limit

-- the task code is in range of the configuration
pub record AppInRange (config : Config) (app : App) : Type 0 where
  pub configuration : InRange config
  pub limits : IsWithinLimits app
  pub func_names : AreNames (map (λ f. f.name) app.funcs)
  pub symbol_names : AreNames (map (λ y. y.name) app.symbols)
  pub symbols : All (λ y. 0 < length y.bytes) app.symbols
  pub tasks : HasBodies config app
  pub bodies : All (IsBody config app) app.funcs

-- task code that comes without its configuration
abbrev pub IsTaskCode : App → Type 0
IsTaskCode app = (config : Config) × AppInRange config app
