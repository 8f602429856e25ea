-- The faults of an attribute. All stand on its line.
use Rattle.std.specs.Prelude.{ℕ, Bool, false, ◌⊎◌, if◌then◌else◌, not, ◌&&◌, ◌==◌, List, fold, codes, Option, Some, None, is_none}
use Rattle.std.specs.Str.{bytes_eq}
use Rattle.sloth_base.specs.declared.refusal.Code.TheVariants.{O8, O9, O10, O12}
use Rattle.sloth_base.specs.declared.refusal.Refusal.{Refusal}
use Rattle.oil_parse.specs.declared.tree.OilValue.{OilValue}
use Rattle.oil_parse.specs.declared.tree.OilValue.TheVariants.{Word}
use Rattle.oil_parse.specs.declared.tree.OilAttr.{OilAttr}
use Rattle.oil_parse.specs.declared.tree.OilObject.{OilObject}
use Rattle.oil_table.specs.declared.table.Place.{Place}
use Rattle.oil_table.specs.declared.table.Place.TheVariants.{Nowhere}
use Rattle.oil_table.specs.declared.table.Attribute.{Attribute}
use Rattle.oil_table.specs.declared.table.Attribute.TheVariants as attribute
use Rattle.oil_table.specs.Cases.{OilCase}
use Rattle.oil_table.specs.Table.{attribute_of, is_allowed, block_place}
use Rattle.oil_table.specs.Objects.{is_declared}
use Rattle.oil_table.specs.Uses.{is_second}

-- the place that the last attribute opened, with one more attribute
abbrev pub opened_place : Place → Place → OilAttr → Place
opened_place place inner attr = if attr.depth == 0 then block_place place attr else inner

-- the place that the block of the last attribute in the object's own block is
abbrev pub inner_place : Place → List OilAttr → Place
inner_place place before = fold (opened_place place) Nowhere before

-- the place of an attribute, where the object is a place and the last attribute in its own block opened another: no attribute may stand deeper
abbrev pub place_by : Place → Place → OilAttr → Place
place_by place inner attr = if attr.depth == 0 then place else if attr.depth == 1 then inner else Nowhere

-- the place of an attribute behind others
abbrev pub place_at : Place → List OilAttr → OilAttr → Place
place_at place before attr = place_by place (inner_place place before) attr

-- the word refers to no object
abbrev pub is_missing : List OilObject → Bool → Attribute → List ℕ → Bool
is_missing objects scheduler attribute.Mode word = not (bytes_eq word (codes "OSDEFAULTAPPMODE"))
is_missing objects scheduler attribute.Resource word = not (scheduler && bytes_eq word (codes "RES_SCHEDULER")) && not (is_declared objects (codes "RESOURCE") word)
is_missing objects scheduler attribute.Event word = not (is_declared objects (codes "EVENT") word)
is_missing objects scheduler attribute.Counter word = not (is_declared objects (codes "COUNTER") word)
is_missing objects scheduler attribute.ActionTask word = not (is_declared objects (codes "TASK") word)
is_missing objects scheduler attribute.ActionEvent word = not (is_declared objects (codes "EVENT") word)
is_missing objects scheduler _ word = false

-- a value names an object that is not there
abbrev pub misses_value : List OilObject → Bool → Attribute → OilValue → Bool
misses_value objects scheduler row (Word word) = is_missing objects scheduler row word
misses_value objects scheduler row _ = false

-- a value of an attribute names an object that is not there
abbrev pub refers_to_none : List OilObject → Bool → Option Attribute → OilValue → Bool
refers_to_none objects scheduler None value = false
refers_to_none objects scheduler (Some row) value = misses_value objects scheduler row value

-- an attribute does not allow a value
abbrev pub is_refused : Option Attribute → OilValue → Bool
is_refused None value = false
is_refused (Some row) value = not (is_allowed row value)

-- O8, O9, O10 and O12 of an attribute with this row of the table, behind these attributes of its object
abbrev pub RowFault : List OilObject → Bool → Option Attribute → List OilAttr → OilAttr → Refusal → Type 0
RowFault objects scheduler row before attr r =
    OilCase (is_none row) attr.line O8 r
    ⊎ (OilCase (is_second 0 row before attr) attr.line O9 r
    ⊎ (OilCase (refers_to_none objects scheduler row attr.value) attr.line O10 r
    ⊎ OilCase (is_refused row attr.value) attr.line O12 r))

-- the same in an object that is this place
abbrev pub AttributeFault : List OilObject → Bool → Place → List OilAttr → OilAttr → Refusal → Type 0
AttributeFault objects scheduler place before attr r = RowFault objects scheduler (attribute_of (place_at place before attr) attr.name) before attr r
