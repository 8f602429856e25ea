-- What one pass over a body does to the set of long branches, in the form of a list.
use Rattle.std.specs.Prelude.{ℕ, ◌+◌, ◌*◌, ◌<◌, ◌≤◌, ◌≡◌, Bool, true, false, cond, List, length, get_or, sum_by}
use Rattle.sloth_base.specs.Named.{function, label_of}
use Rattle.sloth_base.specs.declared.app.App.{App}
use Rattle.sloth_base.specs.declared.app.Func.{Func}
use Rattle.sloth_base.specs.Limits.{item_limit, frame_limit}
use Rattle.rv32_expand.specs.Long.{BranchSet, size_at, place, IsBranchTo, IsNear, IsSufficient, IsInSet, AreLongBranches}

-- what is asked of a body: that its words can be counted, and that its labels are in it
pub record IsCountable (app : App) (body : Func) : Type 0 where
  pub frames : (func : ℕ) → (function app func).frame_words ≤ frame_limit
  pub items : length body.items ≤ item_limit
  pub labels : (label : ℕ) → (label_of body label).item ≤ length body.items

-- the set in a list
abbrev pub set_in_list : List Bool → BranchSet
set_in_list long index = get_or long index false

-- how many are not in it
abbrev pub short_count : List Bool → ℕ
short_count long = sum_by (λ b. cond b 0 1) long

-- the words before each item and before the end
pub record ArePlaces (app : App) (body : Func) (long : List Bool) (places : List ℕ) : Type 0 where
  pub count : length places ≡ length body.items + 1
  pub each : (index : ℕ) → index ≤ length body.items → get_or places index 0 ≡ place app body (set_in_list long) index
  pub few : (index : ℕ) → index ≤ length body.items → place app body (set_in_list long) index ≤ 36 * index

-- the lengths of the items of a body, in order, that a set gives
pub record AreItemLengths (app : App) (body : Func) (long : BranchSet) (lengths : List ℕ) : Type 0 where
  pub count : length lengths ≡ length body.items
  pub each : (index : ℕ) → index < length body.items → get_or lengths index 0 ≡ size_at app body long index

-- whether an item is a branch outside the set that does not reach
pub record IsFarMark (app : App) (body : Func) (long : BranchSet) (index : ℕ) (far : Bool) : Type 0 where
  pub yes : far ≡ true → (target : ℕ) × IsBranchTo body index target × (long index ≡ false) × ¬ (IsNear app body long index target)
  pub no : far ≡ false → (target : ℕ) → IsBranchTo body index target → long index ≡ false → IsNear app body long index target

-- a whole pass
pub record IsPass (app : App) (body : Func) (old new : List Bool) (changed : Bool) : Type 0 where
  pub count : length new ≡ length body.items
  pub forced : (other : BranchSet) → IsSufficient app body other → IsInSet body (set_in_list old) other → IsInSet body (set_in_list new) other
  pub done : changed ≡ false → IsSufficient app body (set_in_list old)
  pub fewer : changed ≡ true → short_count new < short_count old

-- the lengths of the items of a body, with the least set of long branches
pub record AreShortest (app : App) (body : Func) (lengths : List ℕ) : Type 0 where
  pub long : BranchSet
  pub is_least : AreLongBranches app body long
  pub are_lengths : AreItemLengths app body long lengths
