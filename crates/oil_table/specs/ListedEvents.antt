-- The events that tasks list, and what is kept of them, so that an alarm is judged without going over all objects again.
use Rattle.std.specs.Prelude.{◌≡◌, ℕ, zero, suc, Bool, if◌then◌else◌, ◌&&◌, ◌==◌, List, [], ◌∷◌, codes, filter, position, Option, Some, None}
use Rattle.std.specs.List.{list_any}
use Rattle.std.specs.Str.{bytes_eq}
use Rattle.std.specs.Borrow.{Bor}
use Rattle.indexmap.specs.IndexSet.{IndexSet}
use Rattle.oil_parse.specs.declared.tree.OilValue.{OilValue}
use Rattle.oil_parse.specs.declared.tree.OilValue.TheVariants.{Word}
use Rattle.oil_parse.specs.declared.tree.OilAttr.{OilAttr}
use Rattle.oil_parse.specs.declared.tree.OilObject.{OilObject}
use Rattle.oil_table.specs.Table.{is_word}
use Rattle.oil_table.specs.Objects.{is_use, is_of_kind, names_of}

-- the word that a value is
abbrev pub referred_word : OilValue → Option (List ℕ)
referred_word (Word word) = Some word
referred_word _ = None

-- the event that an attribute refers to
abbrev pub event_word : OilAttr → Option (List ℕ)
event_word attr = if is_use (codes "EVENT") attr then referred_word attr.value else None

-- an attribute of a task lists the event of this name
abbrev pub lists_event : List ℕ → OilAttr → Bool
lists_event word attr = is_use (codes "EVENT") attr && is_word attr.value word

-- the tasks among these objects
abbrev pub tasks_among : List OilObject → List OilObject
tasks_among objects = filter (is_of_kind (codes "TASK")) objects

-- the attributes of the object at a place; none behind the last
abbrev pub attrs_at : List OilObject → ℕ → List OilAttr
attrs_at [] place = []
attrs_at (object ∷ objects) zero = object.attrs
attrs_at (object ∷ objects) (suc place) = attrs_at objects place

-- a key is this event of the task of this number
abbrev pub is_listing : ℕ → List ℕ → ℕ × Bor (List ℕ) → Bool
is_listing number word key = (key.0 == number) && bytes_eq key.1.now word

-- the keys are the events that these tasks list, each with the number of its task
abbrev pub AreListings : {S : Type 0} → List OilObject → IndexSet (ℕ × Bor (List ℕ)) S → Type 0
AreListings tasks listed = (number : ℕ) (word : List ℕ) → list_any (is_listing number word) listed.keys ≡ list_any (lists_event word) (attrs_at tasks number)

-- what is kept of the tasks among these objects
pub record AreTasks {S : Type 0} (objects : List OilObject) (names : List (List ℕ)) (listed : IndexSet (ℕ × Bor (List ℕ)) S) : Type 0 where
  pub named : names ≡ names_of (codes "TASK") objects
  pub events : AreListings (tasks_among objects) listed

-- the number of the task that a value names
abbrev pub task_of_value : List OilObject → OilValue → Option ℕ
task_of_value objects (Word word) = position (bytes_eq word) (names_of (codes "TASK") objects)
task_of_value objects _ = None

-- the number of the task that an attribute names
abbrev pub task_of : List OilObject → Option OilAttr → Option ℕ
task_of objects None = None
task_of objects (Some attr) = task_of_value objects attr.value
