-- A pass of the search for long branches, on its way.
use Rattle.std.specs.Prelude.{ℕ, ◌+◌, ◌<◌, ◌≤◌, ◌≡◌, Bool, true, false, cond, List, length, take, sum_by}
use Rattle.sloth_base.specs.declared.app.App.{App}
use Rattle.sloth_base.specs.declared.app.Func.{Func}
use Rattle.rv32_expand.specs.Long.{BranchSet, IsBranchTo, IsNear, IsSufficient, IsInSet}
use Rattle.rv32_expand.specs.Passes.{set_in_list, short_count}

-- the pass before an item
pub record IsPassTo (app : App) (body : Func) (old : List Bool) (index : ℕ) (new : List Bool) (changed : Bool) : Type 0 where
  pub count : length new ≡ index
  pub forced : (other : BranchSet) → IsSufficient app body other → IsInSet body (set_in_list old) other
      → (k target : ℕ) → k < index → IsBranchTo body k target → set_in_list new k ≡ true → other k ≡ true
  pub near : changed ≡ false → (k : ℕ) → k < index → (target : ℕ) → IsBranchTo body k target → set_in_list old k ≡ false → IsNear app body (set_in_list old) k target
  pub fewer : short_count new + cond changed 1 0 ≤ sum_by (λ b. cond b 0 1) (take index old)
