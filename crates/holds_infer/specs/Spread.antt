-- The lists that are spread from the first item of a body along its ways.
use Rattle.std.specs.Prelude.{ℕ, ◌≡◌, ◌<◌, ◌++◌, Bool, cond, List, [], ◌∷◌, length, map, set, get_or, Some, None, is_some, All, MatchBool}
use Rattle.sloth_base.specs.declared.config.Config.{Config}
use Rattle.sloth_base.specs.declared.app.App.{App}
use Rattle.sloth_base.specs.declared.app.Func.{Func}
use Rattle.sloth_base.specs.declared.app.Label.{Label}
use Rattle.sloth_base.specs.declared.app.Op.{Op}
use Rattle.sloth_base.specs.declared.app.Op.TheVariants as op
use Rattle.sloth_base.specs.declared.service.Service.{Service}
use Rattle.sloth_base.specs.declared.service.Service.TheVariants as service
use Rattle.holds_infer.specs.Places.{PlaceLists, list_at}
use Rattle.code_rules.specs.AppRange.{IsResource}
use Rattle.code_rules.specs.Code.{is_in, without_last, held_list_at}
use Rattle.task_verify.specs.Ways.{IsReachedItem, IsMarked, IsMarking}
use Rattle.task_verify.specs.Cases.{AreOps}
use Rattle.holds_infer.specs.Filling.{bare_func}
use Rattle.holds_infer.specs.RightLists.{HasRightLists}

-- the list behind a service that names this resource; a resource that is held is not taken again
abbrev pub list_behind : Service → ℕ → List ℕ → List ℕ
list_behind service.GetResource r held = cond (is_in r held) held (held ++ r ∷ [])
list_behind service.ReleaseResource r held = without_last held
list_behind _ r held = held

-- the list behind an operation
abbrev pub list_after : Op → List ℕ → List ℕ
list_after (op.Serve call) held = list_behind call.service call.object held
list_after _ held = held

-- the places that have a list
abbrev pub marks : PlaceLists → List Bool
marks lists = map is_some lists

-- a visit gives the place this list and keeps the place, where it has none yet
abbrev pub IsListVisit : (old new : PlaceLists) → (pending kept : List ℕ) → (at : ℕ) → (held : List ℕ) → Type 0
IsListVisit old new pending kept at held = MatchBool (is_some (get_or old at None))
    ((new ≡ old) × (kept ≡ pending))
    ((new ≡ set old at (Some held)) × (kept ≡ pending ++ at ∷ []))

-- the lists are those that are held there, whatever right lists the labels have
abbrev pub AreTrueLists : Func → PlaceLists → Type 0
AreTrueLists f lists =
    (g : Func) → bare_func f ≡ bare_func g → HasRightLists g → (i : ℕ) (held : List ℕ) → get_or lists i None ≡ Some held → held ≡ held_list_at g i

-- where the operations are in range, the lists are lists of resources
abbrev pub AreResourceLists : Func → PlaceLists → Type 0
AreResourceLists f lists =
    (config : Config) (app : App) → AreOps config app f → (i : ℕ) (held : List ℕ) → get_or lists i None ≡ Some held → All (IsResource config) held

-- lists are spread so far
pub record AreSpreading (f : Func) (lists : PlaceLists) (pending : List ℕ) : Type 0 where
  pub searching : IsMarking f (marks lists) pending
  pub true_lists : AreTrueLists f lists
  pub resources : AreResourceLists f lists

-- lists for all places of a body that are reached
pub record AreLists (f : Func) (lists : PlaceLists) : Type 0 where
  pub count : length lists ≡ length f.items
  pub reached : (i : ℕ) → i < length f.items → IsReachedItem f i → IsMarked (marks lists) i
  pub true_lists : AreTrueLists f lists
  pub resources : AreResourceLists f lists

-- a label with the list of its place
abbrev pub relisted_label : PlaceLists → Label → Label
relisted_label lists l = record { name = l.name; line = l.line; item = l.item; holds = list_at lists l.item }

-- a body whose labels have the lists of their places
abbrev pub relisted_func : PlaceLists → Func → Func
relisted_func lists f =
    record { name = f.name; line = f.line; task = f.task; frame_words = f.frame_words; items = f.items; labels = map (relisted_label lists) f.labels }
