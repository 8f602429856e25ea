-- Objects that attributes name, and their numbers.
use Rattle.std.proofs.Common.{◌≡◌, ◌∙◌, ℕ, ◌<◌, Bool, true, false, Option, Some, None, List, length, get_or, refl, ap, sym, arith}
use Rattle.std.specs.Prelude.{codes, position, filter, is_some, unwrap_or}
use Rattle.std.specs.Str.{bytes_eq}
use Rattle.std.proofs.lemmas.Bool.{not-false}
use Rattle.std.proofs.lemmas.Option.{slice_get-get_or}
use Rattle.std.proofs.lemmas.List.{length-map}
use Rattle.std.proofs.lemmas.List.Quantifiers.{position-Some}
use Rattle.oil_parse.specs.declared.tree.OilValue.{OilValue}
use Rattle.oil_parse.specs.declared.tree.OilValue.TheVariants.{Word, Number, Text}
use Rattle.oil_parse.specs.declared.tree.OilObject.{OilObject}
use Rattle.oil_table.specs.declared.table.Attribute.TheVariants.{Counter, ActionTask, ActionEvent}
use Rattle.oil_table.specs.Table.{is_allowed}
use Rattle.oil_table.specs.Objects.{is_of_kind, is_declared, names_of, object_of_value}
use Rattle.oil_rules.specs.AttributeFaults.{misses_value}
use Rattle.oil_table.proofs.Names.{place_in, declared_at, numbered}
use Rattle.oil_rules.specs.Clocks.{number_of_value}

-- the object of a kind that a value names
pub record IsNamed (objects : List OilObject) (kind : List ℕ) (value : OilValue) : Type 0 where
  pub place : ℕ
  pub within : place < length (filter (is_of_kind kind) objects)
  pub number : number_of_value (names_of kind objects) value ≡ place
  pub object : (d : OilObject) → object_of_value objects kind value ≡ Some (get_or (filter (is_of_kind kind) objects) place d)

is_named : (objects : List OilObject) (kind word : List ℕ) → is_declared objects kind word ≡ true → IsNamed objects kind (Word word)
is_named objects kind word h = by (position (bytes_eq word) (names_of kind objects)) refl
  where
    by : (o : Option ℕ) → position (bytes_eq word) (names_of kind objects) ≡ o → IsNamed objects kind (Word word)
    by None e =
        let z : false ≡ true = sym (ap is_some e) ∙ numbered kind word objects (names_of kind objects) refl ∙ h in
        cc
    by (Some i) e =
        let l = length-map (filter (is_of_kind kind) objects) (λ (o : OilObject). o.name) in
        let w = (position-Some (bytes_eq word) (names_of kind objects) i word e).0 in
        record {
          place = i;
          within = omega (arith, l, w);
          number = ap (λ o. unwrap_or o 0) e;
          object = λ d. declared_at kind word objects ∙ ap (place_in (filter (is_of_kind kind) objects)) e
              ∙ slice_get-get_or (filter (is_of_kind kind) objects) i d (omega (arith, l, w));
        }

pub counter_named : (objects : List OilObject) (scheduler : Bool) (value : OilValue) → is_allowed Counter value ≡ true → misses_value objects scheduler Counter value ≡ false
    → IsNamed objects (codes "COUNTER") value
counter_named objects scheduler (Word word) a m = is_named objects (codes "COUNTER") word (not-false (is_declared objects (codes "COUNTER") word) m)
counter_named objects scheduler (Number number) a m = cc
counter_named objects scheduler (Text bytes) a m = cc

pub task_named : (objects : List OilObject) (scheduler : Bool) (value : OilValue) → is_allowed ActionTask value ≡ true → misses_value objects scheduler ActionTask value ≡ false
    → IsNamed objects (codes "TASK") value
task_named objects scheduler (Word word) a m = is_named objects (codes "TASK") word (not-false (is_declared objects (codes "TASK") word) m)
task_named objects scheduler (Number number) a m = cc
task_named objects scheduler (Text bytes) a m = cc

-- an event of an action is a word that names an event
pub record IsEventWord (objects : List OilObject) (value : OilValue) : Type 0 where
  pub word : List ℕ
  pub is : value ≡ Word word
  pub declared : is_declared objects (codes "EVENT") word ≡ true

pub event_named : (objects : List OilObject) (scheduler : Bool) (value : OilValue) → is_allowed ActionEvent value ≡ true → misses_value objects scheduler ActionEvent value ≡ false
    → IsEventWord objects value
event_named objects scheduler (Word word) a m = record { word = word; is = refl; declared = not-false (is_declared objects (codes "EVENT") word) m }
event_named objects scheduler (Number number) a m = cc
event_named objects scheduler (Text bytes) a m = cc
