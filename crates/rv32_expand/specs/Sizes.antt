-- The lengths of the items of all bodies, and addresses that agree with them.
use Rattle.std.specs.Prelude.{ℕ, zero, suc, ◌+◌, ◌*◌, ◌<◌, ◌≤◌, ◌≡◌, ◌%◌, List, [], ◌∷◌, length, get_or}
use Rattle.sloth_base.specs.Named.{function}
use Rattle.sloth_base.specs.declared.app.App.{App}
use Rattle.sloth_base.specs.declared.app.Call.{Call}
use Rattle.sloth_base.specs.declared.app.Func.{Func}
use Rattle.sloth_base.specs.declared.app.Op.TheVariants as op
use Rattle.sloth_base.specs.declared.config.Config.{Config}
use Rattle.sloth_base.specs.declared.limits.Places.{Places}
use Rattle.code_rules.specs.WellFormed.{WellFormed}
use Rattle.rv32_expand.specs.Expansion.{item_address, symbol_address, block_address, expansion}
use Rattle.sloth_base.specs.Named.{operation}
use Rattle.sloth_base.specs.MemoryMap.{memory_base, memory_end}
use Rattle.rv32_expand.specs.InPlace.{IsAppItem}
use Rattle.rv32_expand.specs.Long.{BranchSet, size_at, AreLongBranches}

-- how many items stand before those of a function
abbrev pub items_before : List Func → ℕ → ℕ
items_before bodies zero = 0
items_before [] (suc func) = 0
items_before (body ∷ bodies) (suc func) = length body.items + items_before bodies func

-- the length of each item over all bodies in order, where the long branches of each body are the least set of them
pub record AreItemSizes (app : App) (sizes : List ℕ) : Type 0 where
  pub long : ℕ → BranchSet
  pub least : (func : ℕ) → func < length app.funcs → AreLongBranches app (function app func) (long func)
  pub count : length sizes ≡ items_before app.funcs (length app.funcs)
  pub each : (func index : ℕ) → IsAppItem app func index
      → get_or sizes (items_before app.funcs func + index) 0 ≡ size_at app (function app func) (long func) index

-- each item of a body stands behind the one before it, whose length is that of `sizes`
pub record AgreeWithSizes (app : App) (places : Places) : Type 0 where
  pub sizes : List ℕ
  pub are_sizes : AreItemSizes app sizes
  pub adjacent : (func index : ℕ) → IsAppItem app func index → IsAppItem app func (index + 1)
      → item_address places func (index + 1) ≡ item_address places func index + 4 * get_or sizes (items_before app.funcs func + index) 0

-- task code that keeps the rules of some configuration
abbrev pub IsVerified : App → Type 0
IsVerified app = (config : Config) × WellFormed config app

-- the address of a word of RAM
abbrev pub IsWordAddress : ℕ → Type 0
IsWordAddress address = (memory_base ≤ address) × (address < memory_end) × (address % 4 ≡ 0)

-- The addresses of items, symbols and blocks of services are those of words in RAM, and the code that jumps between them
-- stands in less than 1 MiB from `low` on.
pub record HasWordAddresses (app : App) (places : Places) : Type 0 where
  pub low : ℕ
  pub items : (func index : ℕ) → IsAppItem app func index → IsWordAddress (item_address places func index)
  pub symbols : (symbol : ℕ) → symbol < length app.symbols → IsWordAddress (symbol_address places symbol)
  pub blocks : (func index : ℕ) (call : Call) → IsAppItem app func index → operation app func index ≡ op.Serve call
      → IsWordAddress (block_address places call.service call.object)
  pub items_near : (func index : ℕ) → IsAppItem app func index
      → (low ≤ item_address places func index) × (item_address places func index + 4 * length (expansion app places func index) ≤ low + 0x10_0000)
  pub blocks_near : (func index : ℕ) (call : Call) → IsAppItem app func index → operation app func index ≡ op.Serve call
      → (low ≤ block_address places call.service call.object) × (block_address places call.service call.object < low + 0x10_0000)
