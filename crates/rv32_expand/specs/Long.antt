-- Which branches of a body are long: the least set with which every other branch reaches its label's item.
use Rattle.std.specs.Prelude.{ℕ, zero, suc, ◌+◌, ◌*◌, ◌<◌, ◌≤◌, ◌≡◌, Bool, true, false, [], length, Option, Some, None}
use Rattle.sloth_base.specs.declared.app.App.{App}
use Rattle.sloth_base.specs.declared.app.Func.{Func}
use Rattle.sloth_base.specs.declared.app.Op.{Op}
use Rattle.sloth_base.specs.declared.app.Op.TheVariants as op
use Rattle.sloth_base.specs.declared.limits.Places.{Places}
use Rattle.sloth_base.specs.Named.{item_of, label_of}
use Rattle.rv32_expand.specs.Expansion.{operation_code}

-- no addresses at all
abbrev pub no_places : Places
no_places = record { items = []; first = []; symbols = []; blocks = [] }

-- how many instructions an operation has, where a branch is long or not; they are as many at every address
unfoldable pub size : App → (long : Bool) → Op → ℕ
size app long o = length (operation_code app no_places 0 0 long o)

-- A set of branches says of each item of a body by its number whether it is in. Of an item that is no branch it says nothing.
abbrev pub BranchSet : Type 0
BranchSet = ℕ → Bool

-- how many instructions an item of a body has
abbrev pub size_at : App → Func → BranchSet → ℕ → ℕ
size_at app body long index = size app (long index) (item_of body index).op

-- how many there are before an item
unfoldable pub place : App → Func → BranchSet → ℕ → ℕ
place app body long zero = 0
place app body long (suc index) = place app body long index + size_at app body long index

-- the number of the item to which a branch may go
abbrev pub target_of : Func → Op → Option ℕ
target_of body (op.Branch kind rs1 rs2 label) = Some (label_of body label).item
target_of body _ = None

-- an item of a body is a branch to an item
pub record IsBranchTo (body : Func) (index target : ℕ) : Type 0 where
  pub inside : index < length body.items
  pub goes : target_of body (item_of body index).op ≡ Some target

-- from one address to another a branch reaches: the distance is from -4096 to 4094
abbrev pub IsInBranchReach : (from to : ℕ) → Type 0
IsInBranchReach from to = (to ≤ from + 4094) × (from ≤ to + 4096)

-- with the lengths that a set gives, a branch reaches its item
abbrev pub IsNear : App → Func → BranchSet → (index target : ℕ) → Type 0
IsNear app body long index target = IsInBranchReach (4 * place app body long index) (4 * place app body long target)

-- every branch outside the set reaches
abbrev pub IsSufficient : App → Func → BranchSet → Type 0
IsSufficient app body long = (index target : ℕ) → IsBranchTo body index target → long index ≡ false → IsNear app body long index target

-- every branch of the first set is in the second
abbrev pub IsInSet : Func → BranchSet → BranchSet → Type 0
IsInSet body a b = (index target : ℕ) → IsBranchTo body index target → a index ≡ true → b index ≡ true

-- the long branches of a body
pub record AreLongBranches (app : App) (body : Func) (long : BranchSet) : Type 0 where
  pub suffices : IsSufficient app body long
  pub least : (other : BranchSet) → IsSufficient app body other → IsInSet body long other
