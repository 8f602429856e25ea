-- The task that a block names, by its number: whether it lists an event.
use Rattle.std.proofs.Common.{◌≡◌, ◌∙◌, ℕ, zero, suc, ◌<◌, false, Some, None, Option, List, [], ◌∷◌, length, slice_get, refl, ap, sym, arith}
use Rattle.std.specs.Prelude.{not, codes, find, position}
use Rattle.std.specs.List.{list_any}
use Rattle.std.specs.Str.{bytes_eq}
use Rattle.oil_parse.specs.declared.tree.OilValue.{OilValue}
use Rattle.oil_parse.specs.declared.tree.OilValue.TheVariants.{Word, Number, Text}
use Rattle.oil_parse.specs.declared.tree.OilAttr.{OilAttr}
use Rattle.oil_parse.specs.declared.tree.OilObject.{OilObject}
use Rattle.oil_table.specs.Objects.{is_declaration, names_of, object_of_value, object_named}
use Rattle.oil_table.specs.ListedEvents.{lists_event, tasks_among, attrs_at, task_of_value, task_of}
use Rattle.oil_table.proofs.Names.{place_in, declared_at}
use Rattle.oil_table.proofs.Indexes.{named_within}
use Rattle.oil_rules.specs.AlarmFaults.{leaves_out}

place_left : (word : List ℕ) (tasks : List OilObject) (number : ℕ) → number < length tasks
    → leaves_out (slice_get tasks number) word ≡ not (list_any (lists_event word) (attrs_at tasks number))
place_left word [] number h = absurd (omega (arith, h))
place_left word (t ∷ tasks) zero h = refl
place_left word (t ∷ tasks) (suc n) h = place_left word tasks n (omega (arith, h))

left_some : (word name : List ℕ) (objects : List OilObject) (number : ℕ) → position (bytes_eq name) (names_of (codes "TASK") objects) ≡ Some number
    → not (list_any (lists_event word) (attrs_at (tasks_among objects) number)) ≡ leaves_out (find (is_declaration (codes "TASK") name) objects) word
left_some word name objects number e =
    sym (ap (λ (o : Option OilObject). leaves_out o word) (declared_at (codes "TASK") name objects ∙ ap (place_in (tasks_among objects)) e)
    ∙ place_left word (tasks_among objects) number (named_within (codes "TASK") name objects number e))

left_none : (word name : List ℕ) (objects : List OilObject) → position (bytes_eq name) (names_of (codes "TASK") objects) ≡ None
    → false ≡ leaves_out (find (is_declaration (codes "TASK") name) objects) word
left_none word name objects e =
    sym (ap (λ (o : Option OilObject). leaves_out o word) (declared_at (codes "TASK") name objects ∙ ap (place_in (tasks_among objects)) e))

-- the task that an attribute names
pub task_left : (word : List ℕ) (objects : List OilObject) (named : Option OilAttr) (number : ℕ) → task_of objects named ≡ Some number
    → not (list_any (lists_event word) (attrs_at (tasks_among objects) number)) ≡ leaves_out (object_named objects (codes "TASK") named) word
task_left word objects None number e = cc
task_left word objects (Some attr) number e = by attr.value e
  where
    by : (value : OilValue) → task_of_value objects value ≡ Some number
        → not (list_any (lists_event word) (attrs_at (tasks_among objects) number)) ≡ leaves_out (object_of_value objects (codes "TASK") value) word
    by (Word name) e = left_some word name objects number e
    by (Number n) e = cc
    by (Text t) e = cc

-- no task
pub no_task_left : (word : List ℕ) (objects : List OilObject) (named : Option OilAttr) → task_of objects named ≡ None
    → false ≡ leaves_out (object_named objects (codes "TASK") named) word
no_task_left word objects None e = refl
no_task_left word objects (Some attr) e = by attr.value e
  where
    by : (value : OilValue) → task_of_value objects value ≡ None → false ≡ leaves_out (object_of_value objects (codes "TASK") value) word
    by (Word name) e = left_none word name objects e
    by (Number n) e = refl
    by (Text t) e = refl
