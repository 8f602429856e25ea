-- What a proof owes of a routine: a weakest precondition that speaks of no arrivals but at the touch of a line.
use Rattle.std.specs.Prelude.{ℕ, zero, suc, ◌+◌, ◌*◌, ◌%◌, ◌≡◌, ◌≢◌, ◌<◌, ◌≤◌, ◌⊎◌, true, false, List, [], ◌∷◌, Some, slice_index, slice_set}
use Rattle.sloth_base.specs.declared.app.Width.TheVariants as width
use Rattle.sloth_base.specs.Machine.{Core, State}
use Rattle.sloth_base.specs.Arithmetic.{sum32}
use Rattle.sloth_base.specs.MemoryMap.{memory_base, memory_bytes, controller_base, line_count}
use Rattle.sloth_base.specs.Lines.{flag_of}
use Rattle.sloth_base.specs.Arrive.{core_arrive, state_arrive}
use Rattle.sloth_region.specs.Layout.{pending_byte, enabled_byte, level_byte}
use Rattle.rv32_instr.specs.declared.encoding.Change.{Change}
use Rattle.rv32_instr.specs.declared.encoding.Effect.{Effect}
use Rattle.rv32_instr.specs.declared.encoding.Effect.TheVariants.{Nothing, Write, Branch, Jump, Load, Store, Csr, Environment, Return}
use Rattle.rv32_instr.specs.declared.InstrKind.{InstrKind}
use Rattle.rv32_instr.specs.Ram.{word_at, with_word}
use Rattle.rv32_instr.specs.Effect.{effect}
use Rattle.rv32_instr.specs.Execute.{with_register, csr_value, changed_core}

infixr 1 ◌▸◌
-- what a proof says of an instruction, naming a value or a place, and then what it owes behind the instruction
pub data Owed (A : Type 0) (Says Rest : A → Type 0) : Type 0 where
  ◌▸◌ : {named : A} → Says named → Rest named → Owed A Says Rest

-- a byte of the controller, by the line that it belongs to
pub data LineByte : Type 0 where
  Pending : ℕ → LineByte
  Enabled : ℕ → LineByte
  Level : ℕ → LineByte

-- the address of a line's byte
abbrev pub IsAt : ℕ → LineByte → Type 0
IsAt address (Pending line) = (address ≡ controller_base + pending_byte line) × (line < line_count)
IsAt address (Enabled line) = (address ≡ controller_base + enabled_byte line) × (line < line_count)
IsAt address (Level line) = (address ≡ controller_base + level_byte line) × (line < line_count)

-- a word of RAM, given by its offset
pub record IsWordAt (address offset : ℕ) : Type 0 where
  pub is : address ≡ memory_base + offset
  pub aligned : offset % 4 ≡ 0
  pub inside : offset + 4 ≤ memory_bytes

-- a word apart from the bytes from `from` up to `to`
abbrev pub IsApart : ℕ → ℕ → ℕ → Type 0
IsApart from to offset = (offset + 4 ≤ from) ⊎ (to ≤ offset)

-- what a store to a byte of the controller does to its line: it is pending, or no longer; is enabled, or not; has another level
pub data LineChange : Type 0 where
  Raised : ℕ → LineChange
  Cleared : ℕ → LineChange
  Switched : ℕ → LineChange
  Levelled : ℕ → LineChange

-- the change that a store of a value at an address makes
abbrev pub IsStoreOf : ℕ → ℕ → LineChange → Type 0
IsStoreOf address value (Raised line) = IsAt address (Pending line) × (value % 256 ≢ 0)
IsStoreOf address value (Cleared line) = IsAt address (Pending line) × (value % 256 ≡ 0)
IsStoreOf address value (Switched line) = IsAt address (Enabled line)
IsStoreOf address value (Levelled line) = IsAt address (Level line)

-- ---- what a proof says of an instruction

-- the value that goes to a register
pub record HasValue (value named : ℕ) : Type 0 where
  pub is : value ≡ named

-- the word of RAM that is loaded has this value
pub record LoadsWord (core : Core) (address named : ℕ) : Type 0 where
  pub place : ℕ
  pub there : IsWordAt address place
  pub is : word_at core.ram place ≡ named

-- the word of RAM that is stored is at this offset, apart from the code
pub record StoresWord (from to address place : ℕ) : Type 0 where
  pub there : IsWordAt address place
  pub apart : IsApart from to place

-- the byte of the controller that is loaded
pub record LoadsByte (address : ℕ) (byte : LineByte) : Type 0 where
  pub there : IsAt address byte

-- the change that is stored in the controller
pub record StoresByte (address value : ℕ) (change : LineChange) : Type 0 where
  pub there : IsStoreOf address value change

-- what a CSR held; interrupts stay masked
pub record AccessesCsr (core : Core) (csr : ℕ) (change : Change) (old : ℕ) : Type 0 where
  pub is : csr_value core csr ≡ Some old
  pub masked : (changed_core change csr old core).mie ≡ false

-- ---- the same as steps of a proof, each before what is owed behind its instruction

pub writes : {value : ℕ} (named : ℕ) → value ≡ named → HasValue value named
writes named is = record { is = is }

pub loads : {core : Core} {address : ℕ} (place : ℕ) → IsWordAt address place → (named : ℕ) → word_at core.ram place ≡ named
    → LoadsWord core address named
loads place there named is = record { place = place; there = there; is = is }

pub stores : {from to address : ℕ} (place : ℕ) → IsWordAt address place → IsApart from to place → StoresWord from to address place
stores place there apart = record { there = there; apart = apart }

pub loads_byte : {address : ℕ} (byte : LineByte) → IsAt address byte → LoadsByte address byte
loads_byte byte there = record { there = there }

pub raises : {address value : ℕ} (line : ℕ) → IsAt address (Pending line) → value % 256 ≢ 0 → StoresByte address value (Raised line)
raises line there other = record { there = (there, other) }

pub clears : {address value : ℕ} (line : ℕ) → IsAt address (Pending line) → value % 256 ≡ 0 → StoresByte address value (Cleared line)
clears line there is_zero = record { there = (there, is_zero) }

pub sets_enabled : {address value : ℕ} (line : ℕ) → IsAt address (Enabled line) → StoresByte address value (Switched line)
sets_enabled line there = record { there = there }

pub sets_level : {address value : ℕ} (line : ℕ) → IsAt address (Level line) → StoresByte address value (Levelled line)
sets_level line there = record { there = there }

pub accesses : {core : Core} {csr : ℕ} {change : Change} (old : ℕ) → csr_value core csr ≡ Some old → (changed_core change csr old core).mie ≡ false
    → AccessesCsr core csr change old
accesses old is masked = record { is = is; masked = masked }

-- ---- what it owes behind it

-- how a proof goes on
pub record Ways : Type 1 where
  -- with the next instruction, in this state
  pub next : Core → Type 0
  -- the same, where a line was touched, before which these lines had arrived
  pub touch : ℕ → List ℕ → Core → Type 0
  -- with the instruction behind so many more, in this state
  pub skip : ℕ → Core → Type 0
  -- the routine has gone back
  pub done : State → Type 0

-- arrivals of this line alone
abbrev pub AreOfLine : ℕ → List ℕ → Type 0
AreOfLine line [] = Unit {0}
AreOfLine line (arrived ∷ lines) = (arrived ≡ line) × AreOfLine line lines

-- behind a load of a controller byte; that of a pending byte is a touch
abbrev pub OwesLoad : ℕ → Core → Ways → LineByte → Type 0
OwesLoad rd core ways (Pending line) =
    (lines : List ℕ) → AreOfLine line lines →
    let now = core_arrive lines core in
    ways.touch line lines (with_register now rd (slice_index now.pending line))
OwesLoad rd core ways (Enabled line) = ways.next (with_register core rd (slice_index core.enabled line))
OwesLoad rd core ways (Level line) = ways.next (with_register core rd (slice_index core.levels line))

-- behind a store of a value's low byte to a controller byte; that a line is no longer pending is a touch
abbrev pub OwesStore : ℕ → Core → Ways → LineChange → Type 0
OwesStore value core ways (Raised line) = ways.next (record core { pending = slice_set core.pending line 1 })
OwesStore value core ways (Cleared line) =
    (lines : List ℕ) → AreOfLine line lines →
    let now = core_arrive lines core in
    ways.touch line lines (record now { pending = slice_set now.pending line 0 })
OwesStore value core ways (Switched line) = ways.next (record core { enabled = slice_set core.enabled line (flag_of (value % 256)) })
OwesStore value core ways (Levelled line) = ways.next (record core { levels = slice_set core.levels line (value % 256) })

-- a branch at an offset: where it is taken it passes `passed` instructions
pub record OwesBranch (offset target : ℕ) (taken next : Type 0) (skip : ℕ → Type 0) : Type 0 where
  pub passed : ℕ
  pub lands : target ≡ memory_base + (offset + 4 + 4 * passed)
  pub when_taken : taken → skip passed
  pub when_not : (taken → ⊥) → next

-- a jump at an offset, which passes `passed` instructions
pub record OwesJump (offset target : ℕ) (skip : ℕ → Type 0) : Type 0 where
  pub passed : ℕ
  pub lands : target ≡ memory_base + (offset + 4 + 4 * passed)
  pub goes_on : skip passed

-- One instruction with this effect at an offset; the code's bytes stand from `from` up to `to`. The proof names each
-- address and each value that is loaded.
abbrev pub OwesOne : ℕ → ℕ → ℕ → Effect → Core → Ways → Type 0
OwesOne from to offset Nothing core ways = ways.next core
OwesOne from to offset (Write rd value) core ways = Owed ℕ (HasValue value) (λ named. ways.next (with_register core rd named))
OwesOne from to offset (Branch taken target) core ways = OwesBranch offset target (taken ≡ true) (ways.next core) (λ passed. ways.skip passed core)
OwesOne from to offset (Jump rd target) core ways =
    Owed ℕ (HasValue (sum32 (memory_base + offset) 4)) (λ named. OwesJump offset target (λ passed. ways.skip passed (with_register core rd named)))
OwesOne from to offset (Load width.Word rd address) core ways = Owed ℕ (LoadsWord core address) (λ named. ways.next (with_register core rd named))
OwesOne from to offset (Load width.ByteU rd address) core ways = Owed LineByte (LoadsByte address) (OwesLoad rd core ways)
OwesOne from to offset (Load width rd address) core ways = ⊥
OwesOne from to offset (Store width.Word address value) core ways =
    Owed ℕ (StoresWord from to address) (λ place. ways.next (record core { ram = with_word core.ram place value }))
OwesOne from to offset (Store width.Byte address value) core ways = Owed LineChange (StoresByte address value) (OwesStore value core ways)
OwesOne from to offset (Store width address value) core ways = ⊥
OwesOne from to offset (Csr rd csr change) core ways =
    Owed ℕ (AccessesCsr core csr change) (λ old. ways.next (with_register (changed_core change csr old core) rd old))
OwesOne from to offset Environment core ways = ⊥
OwesOne from to offset Return core ways = ways.done (record { pc = core.mepc; core = record core { ilevel = core.plevel; mie = core.mpie; mpie = true } })

-- What is owed of code whose first `skip` instructions are passed: it goes back by `mret`, and then `Effect` holds of the
-- lines that it touched, of the state `start` at its start, and of the state at its end. `start` has the early arrivals.
abbrev pub Owes : ℕ → ℕ → ℕ → List InstrKind → ℕ → (List ℕ → State → State → Type 0) → State → Core → Type 0
Owes from to offset [] skip Effect start core = ⊥
Owes from to offset (kind ∷ code) (suc skip) Effect start core = Owes from to (offset + 4) code skip Effect start core
Owes from to offset (kind ∷ code) zero Effect start core = OwesOne from to offset (effect kind (memory_base + offset) core.registers) core (record {
  next = λ now. Owes from to (offset + 4) code 0 Effect start now;
  touch = λ line lines now. Owes from to (offset + 4) code 0 (λ touched. Effect (line ∷ touched)) (state_arrive lines start) now;
  skip = λ passed now. Owes from to (offset + 4) code passed Effect start now;
  done = λ end. Effect [] start end;
})
