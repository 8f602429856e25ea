-- What is kept of the lists of a body: a table of what is held before each item, and of the places at which all labels say so.
use Rattle.std.specs.Prelude.{ℕ, ◌≡◌, ◌≤◌, Bool, true, false, List, [], Option, None, length, get_or}
use Rattle.sloth_base.specs.declared.app.Func.{Func}
use Rattle.sloth_base.specs.declared.app.Op.{Op}
use Rattle.code_rules.specs.Code.{held_list_at, held_after}
use Rattle.task_verify.specs.Labels.{last_label_below}
use Rattle.fault_witnesses.specs.CleanWays.{LabelsHave, is_orderly}
use Rattle.fault_witnesses.specs.declared.body_lists.KeptList.{KeptList}
use Rattle.fault_witnesses.specs.declared.body_lists.BodyLists.{BodyLists}

-- the last label at each place of a body, and at that behind its last item
abbrev pub AreLastLabels : Func → List (Option ℕ) → Type 0
AreLastLabels f last = (place : ℕ) → place ≤ length f.items → get_or last place None ≡ last_label_below f.labels place (length f.labels)

-- what stands in the place of a list that is not there
abbrev pub no_list : KeptList
no_list = record { kept = false; list = [] }

-- a list that is kept is what is held before the item
abbrev pub IsKept : Func → ℕ → KeptList → Type 0
IsKept f i row = row.kept ≡ true → row.list ≡ held_list_at f i

-- so is each of these
abbrev pub AreLists : Func → List KeptList → Type 0
AreLists f rows = (i : ℕ) → IsKept f i (get_or rows i no_list)

-- at a marked place all labels have the list that is held there
abbrev pub AreAgreed : Func → List Bool → Type 0
AreAgreed f marks = (k : ℕ) → get_or marks k false ≡ true → LabelsHave f k (held_list_at f k)

-- with the first list the operation is orderly, and behind it the second is held
pub record AreLed (before : KeptList) (o : Op) (behind : KeptList) : Type 0 where
  pub kept_before : before.kept ≡ true
  pub kept_behind : behind.kept ≡ true
  pub orderly : is_orderly before.list o ≡ true
  pub is : behind.list ≡ held_after o before.list

-- both tables of a body
pub record AreBodyLists (f : Func) (tables : BodyLists) : Type 0 where
  pub lists : AreLists f tables.lists
  pub agreed : AreAgreed f tables.agreed
