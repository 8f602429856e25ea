-- What an object says by the attributes of its own block. Of two uses of one attribute the first counts.
use Rattle.std.specs.Prelude.{ℕ, Bool, true, false, not, ◌&&◌, ◌==◌, List, codes, find, map, filter, Option, Some, None}
use Rattle.std.specs.List.{list_any}
use Rattle.std.specs.Str.{bytes_eq}
use Rattle.oil_parse.specs.declared.tree.OilValue.{OilValue}
use Rattle.oil_parse.specs.declared.tree.OilValue.TheVariants.{Word, Number}
use Rattle.oil_parse.specs.declared.tree.OilAttr.{OilAttr}
use Rattle.oil_parse.specs.declared.tree.OilObject.{OilObject}
use Rattle.oil_table.specs.Table.{is_word}

-- a use of the attribute at this depth: 0 is an object's own block, 1 a block behind a value there
abbrev pub is_use_at : ℕ → List ℕ → OilAttr → Bool
is_use_at depth name attr = (attr.depth == depth) && bytes_eq attr.name name

-- a use of the attribute in the object's own block
abbrev pub is_use : List ℕ → OilAttr → Bool
is_use name attr = is_use_at 0 name attr

-- a list of attributes has this name
abbrev pub is_used : List OilAttr → List ℕ → Bool
is_used attrs name = list_any (is_use name) attrs

-- an attribute is there, and its value is this word
abbrev pub is_given : Option OilAttr → List ℕ → Bool
is_given None word = false
is_given (Some attr) word = is_word attr.value word

-- the first use has this word
abbrev pub first_is : List OilAttr → List ℕ → List ℕ → Bool
first_is attrs name word = is_given (find (is_use name) attrs) word

-- the number that a value is
abbrev pub number_of : OilValue → Option ℕ
number_of (Number number) = Some number
number_of _ = None

-- the number that an attribute gives
abbrev pub number_given : Option OilAttr → Option ℕ
number_given None = None
number_given (Some attr) = number_of attr.value

-- the number of the first use
abbrev pub first_number : List OilAttr → List ℕ → Option ℕ
first_number attrs name = number_given (find (is_use name) attrs)

-- an object of this kind and name
abbrev pub is_declaration : List ℕ → List ℕ → OilObject → Bool
is_declaration kind name object = bytes_eq object.kind kind && bytes_eq object.name name

-- an object of this kind and name
abbrev pub is_declared : List OilObject → List ℕ → List ℕ → Bool
is_declared objects kind name = list_any (is_declaration kind name) objects

-- the first object of this kind that a value names
abbrev pub object_of_value : List OilObject → List ℕ → OilValue → Option OilObject
object_of_value objects kind (Word word) = find (is_declaration kind word) objects
object_of_value objects kind _ = None

-- the first object of this kind that an attribute names
abbrev pub object_named : List OilObject → List ℕ → Option OilAttr → Option OilObject
object_named objects kind None = None
object_named objects kind (Some attr) = object_of_value objects kind attr.value

-- an object of this kind
abbrev pub is_of_kind : List ℕ → OilObject → Bool
is_of_kind kind object = bytes_eq object.kind kind

-- the names of the objects of a kind, in the order of the text
abbrev pub names_of : List ℕ → List OilObject → List (List ℕ)
names_of kind objects = map (λ object. object.name) (filter (is_of_kind kind) objects)

-- the OS object wants RES_SCHEDULER
abbrev pub os_scheduler : OilObject → Bool
os_scheduler os = not (first_is os.attrs (codes "USERESSCHEDULER") (codes "FALSE"))

-- RES_SCHEDULER exists, by the OS object if there is one
abbrev pub scheduler_by : Option OilObject → Bool
scheduler_by None = true
scheduler_by (Some os) = os_scheduler os

-- RES_SCHEDULER exists, by the first OS object. It exists too where there is none (OIL 2.5, section 3.2.1).
abbrev pub has_scheduler : List OilObject → Bool
has_scheduler objects = scheduler_by (find (is_of_kind (codes "OS")) objects)
