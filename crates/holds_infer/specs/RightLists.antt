-- What the rules say of the lists of one body.
use Rattle.std.specs.Prelude.{ℕ, ◌≡◌, ◌<◌, true, false, length, Some}
use Rattle.sloth_base.specs.declared.app.Func.{Func}
use Rattle.sloth_base.specs.declared.app.Op.TheVariants as op
use Rattle.sloth_base.specs.declared.service.Service.TheVariants as service
use Rattle.sloth_base.specs.declared.app.Call.{Call}
use Rattle.sloth_base.specs.Named.{item_of, label_of}
use Rattle.code_rules.specs.Code.{way, is_in, held_list_at, is_entered, held_list_entering}
use Rattle.code_rules.specs.WellFormed.{IsUnreached}
use Rattle.task_verify.specs.Ways.{HasBodyLabel}
use Rattle.holds_infer.specs.Filling.{IsClear}

-- each branch and jump leads to a label of the body
abbrev pub HasItsLabels : Func → Type 0
HasItsLabels f = (i : ℕ) → i < length f.items → HasBodyLabel f (item_of f i).op

-- every item is reached, every way to a label has the label's list, and nothing is taken that is held
pub record HasRightLists (f : Func) : Type 0 where
  pub some : 0 < length f.items
  pub labels : HasItsLabels f
  pub falling : (k : ℕ) → k < length f.labels → is_entered f k ≡ true → (label_of f k).holds ≡ held_list_entering f k
  pub turning : (i k : ℕ) → i < length f.items → way (item_of f i).op ≡ Some k → (label_of f k).holds ≡ held_list_at f i
  pub taking : (i : ℕ) (call : Call) → i < length f.items → (item_of f i).op ≡ op.Serve call → call.service ≡ service.GetResource
      → is_in call.object (held_list_at f i) ≡ false
  pub reached : (i : ℕ) → i < length f.items → ¬ (IsUnreached f i)
  pub clear : IsClear f
