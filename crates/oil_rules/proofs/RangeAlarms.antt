-- The alarms of a tree without a fault are in range.
use Rattle.std.proofs.Common.{◌≡◌, ◌∙◌, ◌⊎◌, inl, inr, ⊎_elim, ℕ, ◌<◌, ◌≤◌, Bool, true, false, cond, Option, Some, List, length, get_or, refl, ap, sym, subst, arith}
use Rattle.std.specs.Prelude.{◌||◌, ◌&&◌, ◌==◌, not, nat_lt, bit_and, codes, find, filter, unwrap_or}
use Rattle.std.specs.List.{list_any}
use Rattle.std.specs.Str.{bytes_eq}
use Rattle.std.proofs.lemmas.Bool.{leb-true, ltb-false, not-false, and_parts, or_parts, eqb-true}
use Rattle.std.proofs.lemmas.List.{length-map, get_or-map, get_or_default}
use Rattle.std.proofs.lemmas.Nat.Bits.{bit_at_and, same_from_bits}
use Rattle.std.proofs.lemmas.Slice.Eq.{bytes_eq-Decides}
use Rattle.sloth_base.specs.declared.config.EventDecl.{EventDecl}
use Rattle.sloth_base.specs.declared.config.Config.{Config}
use Rattle.sloth_base.specs.declared.config.TaskDecl.{TaskDecl}
use Rattle.sloth_base.specs.declared.config.CounterDecl.{CounterDecl}
use Rattle.sloth_base.specs.declared.config.Action.TheVariants as action
use Rattle.sloth_base.specs.Named.{declaration, undeclared_task, counter_declaration, undeclared_counter}
use Rattle.sloth_base.specs.ConfigRange.{IsAlarm, IsAction, IsCycle, no_event}
use Rattle.sloth_base.specs.Limits.{tick_limit}
use Rattle.sloth_base.specs.Order.{NoFault}
use Rattle.oil_parse.specs.declared.tree.OilValue.{OilValue}
use Rattle.oil_parse.specs.declared.tree.OilValue.TheVariants.{Word, Number, Text}
use Rattle.oil_parse.specs.declared.tree.OilAttr.{OilAttr}
use Rattle.oil_parse.specs.declared.tree.OilObject.{OilObject}
use Rattle.oil_parse.specs.declared.tree.OilTree.{OilTree}
use Rattle.oil_table.specs.declared.table.Attribute.{Attribute}
use Rattle.oil_table.specs.declared.table.Attribute.TheVariants as attribute
use Rattle.oil_table.specs.declared.table.Place.{Place}
use Rattle.oil_table.specs.declared.table.Place.TheVariants as place
use Rattle.oil_table.specs.Table.{attribute_of, is_allowed, is_word, block_place}
use Rattle.oil_table.specs.Objects.{is_of_kind, is_use, is_used, is_given, first_is, first_number, number_of, number_given, has_scheduler, names_of, object_named}
use Rattle.oil_table.specs.Events.{events_of, mask_named, mask_given, number_masks}
use Rattle.oil_rules.specs.AttributeFaults.{misses_value}
use Rattle.oil_rules.specs.ObjectFaults.{lacks_task_attribute, is_endless}
use Rattle.oil_table.specs.declared.counter_limits.Limits.{Limits}
use Rattle.oil_table.specs.AlarmCounters.{limit_by, limits_given}
use Rattle.oil_rules.specs.Blocks.{first_block, is_inner_use, is_used_in, first_in, number_in}
use Rattle.oil_table.specs.Beyond.{is_value_beyond, is_beyond}
use Rattle.oil_rules.specs.AlarmFaults.{lacks_inner, place_behind, lacks_behind, leaves_out, is_left_out, is_unlisted}
use Rattle.oil_table.specs.ListedEvents.{lists_event}
use Rattle.oil_rules.specs.ModelFaults.{ModelFault}
use Rattle.oil_table.specs.Masks.{mask_of_value, listed_mask, event_mask}
use Rattle.oil_rules.specs.Clocks.{declared_counter, number_named, mask_named_by, action_of, started, declared_alarm}
use Rattle.oil_rules.specs.Configs.{resource_names, declared_task, config_of}
use Rattle.text_pieces.proofs.Tests.{All-kept}
use Rattle.oil_rules.proofs.Lists.{IsFirst, first_of}
use Rattle.oil_rules.proofs.Attributes.{allowed, refers}
use Rattle.oil_rules.proofs.AlarmParts.{attrs, limits, inner, lacks_none, first_inner, allowed_inside, refers_inside, is_listed, is_inside}
use Rattle.oil_rules.proofs.RangeCounters.{none_found, lacking, max_limit, cycle_limit}
use Rattle.oil_rules.proofs.RangeNamed.{IsNamed, counter_named, task_named, event_named}
use Rattle.oil_rules.proofs.RangeExtended.{declared}
use Rattle.oil_rules.proofs.RangeUnions.{listed_within}
use Rattle.oil_rules.proofs.Unions.{Within}

-- ---- values of the table

-- a time is a number above 0
record IsTime (value : OilValue) : Type 0 where
  number : ℕ
  is : value ≡ Number number
  low : 1 ≤ number

is_time : (value : OilValue) → is_allowed attribute.Time value ≡ true → IsTime value
is_time (Word word) a = cc
is_time (Number number) a = record { number = number; is = refl; low = leb-true 1 number a }
is_time (Text bytes) a = cc

-- a cycle is a number
record IsNumber (value : OilValue) : Type 0 where
  number : ℕ
  is : value ≡ Number number

is_number : (value : OilValue) → is_allowed attribute.Cycle value ≡ true → IsNumber value
is_number (Word word) a = cc
is_number (Number number) a = record { number = number; is = refl }
is_number (Text bytes) a = cc

-- an action is one of two words
is_action : (value : OilValue) → is_allowed attribute.Action value ≡ true → (is_word value (codes "ACTIVATETASK") ≡ true) ⊎ (is_word value (codes "SETEVENT") ≡ true)
is_action (Word word) a = by (bytes_eq word (codes "ACTIVATETASK")) (bytes_eq word (codes "SETEVENT")) refl refl
  where
    by : (x y : Bool) → bytes_eq word (codes "ACTIVATETASK") ≡ x → bytes_eq word (codes "SETEVENT") ≡ y
        → (bytes_eq word (codes "ACTIVATETASK") ≡ true) ⊎ (bytes_eq word (codes "SETEVENT") ≡ true)
    by true y p q = inl p
    by false true p q = inr q
    by false false p q = let z : false ≡ true = sym (ap (λ b. b || bytes_eq word (codes "SETEVENT")) p ∙ q) ∙ a in cc
is_action (Number number) a = cc
is_action (Text bytes) a = cc

-- ---- places of blocks

-- a use of a word has its name
use_name : (name : List ℕ) (a : OilAttr) → is_use name a ≡ true → a.name ≡ name
use_name name a t = (bytes_eq-Decides a.name name).0 (and_parts (a.depth == 0) (bytes_eq a.name name) t).1

wakes : (a : OilAttr) → a.name ≡ codes "AUTOSTART" → is_word a.value (codes "TRUE") ≡ true → block_place place.Alarm a ≡ place.Wakeup
wakes a n t =
    ap (λ (w : List ℕ). cond (bytes_eq w (codes "AUTOSTART") && is_word a.value (codes "TRUE")) place.Wakeup
    (cond (bytes_eq w (codes "ACTION") && is_word a.value (codes "ACTIVATETASK")) place.Activating
    (cond (bytes_eq w (codes "ACTION") && is_word a.value (codes "SETEVENT")) place.Setting place.Nowhere))) n
    ∙ ap (λ b. cond b place.Wakeup place.Nowhere) t

acts : (a : OilAttr) → a.name ≡ codes "ACTION"
    → block_place place.Alarm a ≡ cond (is_word a.value (codes "ACTIVATETASK")) place.Activating (cond (is_word a.value (codes "SETEVENT")) place.Setting place.Nowhere)
acts a n =
    ap (λ (w : List ℕ). cond (bytes_eq w (codes "AUTOSTART") && is_word a.value (codes "TRUE")) place.Wakeup
    (cond (bytes_eq w (codes "ACTION") && is_word a.value (codes "ACTIVATETASK")) place.Activating
    (cond (bytes_eq w (codes "ACTION") && is_word a.value (codes "SETEVENT")) place.Setting place.Nowhere))) n

-- no value is both words
one_word : (value : OilValue) → is_word value (codes "SETEVENT") ≡ true → is_word value (codes "ACTIVATETASK") ≡ false
one_word (Word word) t = ap (λ (w : List ℕ). bytes_eq w (codes "ACTIVATETASK")) ((bytes_eq-Decides word (codes "SETEVENT")).0 t)
one_word (Number number) t = cc
one_word (Text bytes) t = cc

-- nor the other way round
other_word : (value : OilValue) → is_word value (codes "ACTIVATETASK") ≡ true → is_word value (codes "SETEVENT") ≡ false
other_word (Word word) t = ap (λ (w : List ℕ). bytes_eq w (codes "SETEVENT")) ((bytes_eq-Decides word (codes "ACTIVATETASK")).0 t)
other_word (Number number) t = cc
other_word (Text bytes) t = cc

both_used : (a b : Bool) → not (a && b) ≡ false → (a ≡ true) × (b ≡ true)
both_used true true e = (refl, refl)
both_used true false e = cc
both_used false b e = cc

behind_true : (a b : Bool) → a ≡ true → (a && b) ≡ false → b ≡ false
behind_true true b t e = e
behind_true false b t e = cc

-- ---- masks

within_and : (a b : ℕ) → Within a b → bit_and a b ≡ a
within_and a b h = same_from_bits (bit_and a b) a (λ i. let m = bit_at_and a b i in let w = h i in omega (arith, m, w))

-- the mask of an event that a task lists is in the mask of all that it lists
listed_is : (events : List EventDecl) (word : List ℕ) (attrs : List OilAttr) → list_any (lists_event word) attrs ≡ true → bit_and (mask_named events word) (event_mask events attrs) ≡ mask_named events word
listed_is events word attrs t =
    let f = first_of (lists_event word) attrs t in
    let p = and_parts (is_use (codes "EVENT") f.item) (is_word f.item.value word) f.passes in
    let m : listed_mask events (get_or attrs f.place f.item) ≡ mask_named events word =
    ap (λ (x : OilAttr). listed_mask events x) f.stands ∙ ap (λ b. cond b (mask_of_value events f.item.value) 0) p.0 ∙ named f.item.value p.1 in
    within_and (mask_named events word) (event_mask events attrs) (subst (λ n. Within n (event_mask events attrs)) m (listed_within events attrs 0 f.place f.item f.within))
  where
    named : (value : OilValue) → is_word value word ≡ true → mask_of_value events value ≡ mask_named events word
    named (Word w) t = ap (mask_named events) ((bytes_eq-Decides w word).0 t)
    named (Number n) t = cc
    named (Text b) t = cc

-- the event of a word that is declared
record IsEvent (events : List EventDecl) (mask : ℕ) : Type 0 where
  place : ℕ
  within : place < length events
  is : mask ≡ (get_or events place no_event).mask

is_event_of : (objects : List OilObject) (word : List ℕ) → list_any (λ (e : EventDecl). bytes_eq e.name word) (events_of objects) ≡ true → IsEvent (events_of objects) (mask_named (events_of objects) word)
is_event_of objects word t =
    let f = first_of (λ (e : EventDecl). bytes_eq e.name word) (events_of objects) t in
    record {
      place = f.place;
      within = f.within;
      is = ap mask_given f.found ∙ ap (λ (e : EventDecl). e.mask) (sym f.stands ∙ get_or_default (events_of objects) f.place f.item no_event f.within);
    }

-- ---- objects of a kind

at_kept : (kind : List ℕ) (objects : List OilObject) (P : OilObject → Type 0) → ((i : ℕ) (d : OilObject) → i < length objects → is_of_kind kind (get_or objects i d) ≡ true → P (get_or objects i d))
    → (k : ℕ) (d : OilObject) → k < length (filter (is_of_kind kind) objects) → P (get_or (filter (is_of_kind kind) objects) k d)
at_kept kind objects P h k d l =
    let m = length-map (filter (is_of_kind kind) objects) (λ (o : OilObject). o) in
    subst P (get_or-map (λ (o : OilObject). o) (filter (is_of_kind kind) objects) k d d l)
    (All-kept (is_of_kind kind) (λ (o : OilObject). o) P objects h k d (omega (arith, m, l)))

-- the limits that an alarm takes of its counter are those of the declaration
abbrev HasLimits : OilObject → Type 0
HasLimits o =
    (limit_by (first_number o.attrs (codes "MINCYCLE")) 1 ≡ (declared_counter o).min_cycle)
    × (limit_by (first_number o.attrs (codes "MAXALLOWEDVALUE")) tick_limit ≡ (declared_counter o).max)

module _ (tree : OilTree) (none : NoFault (ModelFault tree)) where
  abbrev config : Config
  config = config_of tree.objects

  limits_declared : (k : ℕ) (d : OilObject) → k < length (filter (is_of_kind (codes "COUNTER")) tree.objects) → HasLimits (get_or (filter (is_of_kind (codes "COUNTER")) tree.objects) k d)
  limits_declared = at_kept (codes "COUNTER") tree.objects HasLimits (λ i d h t. ((cycle_limit tree none i d h t).same, (max_limit tree none i d h t).same))

  module _ (i : ℕ) (d : OilObject) (within : i < length tree.objects) (alarm : is_of_kind (codes "ALARM") (get_or tree.objects i d) ≡ true) where
    abbrev object : OilObject
    object = get_or tree.objects i d

    uses : (is_used object.attrs (codes "COUNTER") ≡ true) × (is_used object.attrs (codes "ACTION") ≡ true)
    uses =
        let f = (or_parts (is_endless object) _ (or_parts (lacks_task_attribute object) _ (lacking tree none i d within)).1).1 in
        both (is_of_kind (codes "ALARM") object) (is_used object.attrs (codes "COUNTER")) (is_used object.attrs (codes "ACTION")) alarm f
      where
        both : (a b c : Bool) → a ≡ true → (a && not (b && c)) ≡ false → (b ≡ true) × (c ≡ true)
        both true true true t e = (refl, refl)
        both true true false t e = cc
        both true false c t e = cc
        both false b c t e = cc

    -- ---- the counter

    first_counter : IsFirst (is_use (codes "COUNTER")) object.attrs
    first_counter = first_of (is_use (codes "COUNTER")) object.attrs uses.0

    counter_use : is_use (codes "COUNTER") (get_or object.attrs first_counter.place first_counter.item) ≡ true
    counter_use = ap (is_use (codes "COUNTER")) first_counter.stands ∙ first_counter.passes

    counter_is : IsNamed tree.objects (codes "COUNTER") first_counter.item.value
    counter_is =
        let f = first_counter in
        counter_named tree.objects (has_scheduler tree.objects) f.item.value
        (ap (λ (x : OilAttr). is_allowed attribute.Counter x.value) (sym f.stands)
        ∙ allowed tree none i d within (codes "ALARM") (codes "COUNTER") attribute.Counter refl f.place f.item f.within alarm counter_use)
        (ap (λ (x : OilAttr). misses_value tree.objects (has_scheduler tree.objects) attribute.Counter x.value) (sym f.stands)
        ∙ refers tree none i d within (codes "ALARM") (codes "COUNTER") attribute.Counter refl f.place f.item f.within alarm counter_use)

    number_is : number_named (names_of (codes "COUNTER") tree.objects) (find (is_use (codes "COUNTER")) object.attrs) ≡ counter_is.place
    number_is = ap (number_named (names_of (codes "COUNTER") tree.objects)) first_counter.found ∙ counter_is.number

    abbrev counter_object : OilObject
    counter_object = get_or (filter (is_of_kind (codes "COUNTER")) tree.objects) counter_is.place d

    limits_are : limits tree none i d within alarm ≡ limits_given (Some counter_object)
    limits_are = ap (λ (o : Option OilAttr). limits_given (object_named tree.objects (codes "COUNTER") o)) first_counter.found ∙ ap limits_given (counter_is.object d)

    declaration_is : counter_declaration config (number_named (names_of (codes "COUNTER") tree.objects) (find (is_use (codes "COUNTER")) object.attrs)) ≡ declared_counter counter_object
    declaration_is =
        ap (counter_declaration config) number_is
        ∙ get_or-map declared_counter (filter (is_of_kind (codes "COUNTER")) tree.objects) counter_is.place d undeclared_counter counter_is.within

    greatest_is : (limits tree none i d within alarm).greatest ≡ (declared_counter counter_object).max
    greatest_is = ap (λ (l : Limits). l.greatest) limits_are ∙ (limits_declared counter_is.place d counter_is.within).1

    least_is : (limits tree none i d within alarm).least ≡ (declared_counter counter_object).min_cycle
    least_is = ap (λ (l : Limits). l.least) limits_are ∙ (limits_declared counter_is.place d counter_is.within).0

    -- ---- attributes in blocks

    -- the first use of a word in the block behind the first use of a name, which is this place
    record Held (name word : List ℕ) (row : Attribute) (p : Place) : Type 0 where
      item : OilAttr
      found : first_in (first_block name object.attrs) word ≡ Some item
      used : is_inner_use word item ≡ true
      allows : is_allowed row item.value ≡ true
      names : misses_value tree.objects (has_scheduler tree.objects) row item.value ≡ false
      lists : is_unlisted tree.objects p (first_block name object.attrs) item ≡ false
      inside : is_beyond (limits tree none i d within alarm) (Some row) item ≡ false

    held : (name word : List ℕ) (row : Attribute) (head : OilAttr) → find (is_use name) object.attrs ≡ Some head → (p : Place) → block_place place.Alarm head ≡ p
        → attribute_of p word ≡ Some row → is_used_in (first_block name object.attrs) word ≡ true → Held name word row p
    held name word row head f p e l u =
        let listed : attribute_of (block_place place.Alarm head) word ≡ Some row = ap (λ (q : Place). attribute_of q word) e ∙ l in
        let first = first_inner tree none i d within alarm name head f word row listed u in
        record {
          item = first.item;
          found = first.found;
          used = first.passes;
          allows = allowed_inside tree none i d within alarm name head f word row listed u;
          names = refers_inside tree none i d within alarm name head f word row listed u;
          lists = ap (λ (q : Place). is_unlisted tree.objects q (first_block name object.attrs) first.item) (sym e) ∙ is_listed tree none i d within alarm name head f word row listed u;
          inside = is_inside tree none i d within alarm name head f word row listed u;
        }

    -- ---- the start

    module _ (t : first_is object.attrs (codes "AUTOSTART") (codes "TRUE") ≡ true) where
      start_used : is_used object.attrs (codes "AUTOSTART") ≡ true
      start_used = by (is_used object.attrs (codes "AUTOSTART")) refl
        where
          by : (b : Bool) → is_used object.attrs (codes "AUTOSTART") ≡ b → is_used object.attrs (codes "AUTOSTART") ≡ true
          by true e = e
          by false e =
              let z : false ≡ true = sym (ap (λ (o : Option OilAttr). is_given o (codes "TRUE")) (none_found (is_use (codes "AUTOSTART")) object.attrs e)) ∙ t in
              cc

      first_start : IsFirst (is_use (codes "AUTOSTART")) object.attrs
      first_start = first_of (is_use (codes "AUTOSTART")) object.attrs start_used

      start_place : block_place place.Alarm first_start.item ≡ place.Wakeup
      start_place = wakes first_start.item (use_name (codes "AUTOSTART") first_start.item first_start.passes)
          (sym (ap (λ (o : Option OilAttr). is_given o (codes "TRUE")) first_start.found) ∙ t)

      start_has : (is_used_in (first_block (codes "AUTOSTART") object.attrs) (codes "ALARMTIME") ≡ true) × (is_used_in (first_block (codes "AUTOSTART") object.attrs) (codes "CYCLETIME") ≡ true)
      start_has =
          let inner = first_block (codes "AUTOSTART") object.attrs in
          both_used (is_used_in inner (codes "ALARMTIME")) (is_used_in inner (codes "CYCLETIME"))
          (sym (ap (λ (o : Option OilAttr). lacks_inner (place_behind o) inner) first_start.found ∙ ap (λ (q : Place). lacks_inner q inner) start_place)
          ∙ (or_parts (lacks_behind (codes "ACTION") object.attrs) _ (lacks_none tree none i d within alarm)).1)

      held_time : Held (codes "AUTOSTART") (codes "ALARMTIME") attribute.Time place.Wakeup
      held_time = held (codes "AUTOSTART") (codes "ALARMTIME") attribute.Time first_start.item first_start.found place.Wakeup start_place refl start_has.0

      held_cycle : Held (codes "AUTOSTART") (codes "CYCLETIME") attribute.Cycle place.Wakeup
      held_cycle = held (codes "AUTOSTART") (codes "CYCLETIME") attribute.Cycle first_start.item first_start.found place.Wakeup start_place refl start_has.1

      time_is : IsTime held_time.item.value
      time_is = is_time held_time.item.value held_time.allows

      cycle_is : IsNumber held_cycle.item.value
      cycle_is = is_number held_cycle.item.value held_cycle.allows

      started_time : started object.attrs (codes "ALARMTIME") ≡ time_is.number
      started_time =
          let inner = first_block (codes "AUTOSTART") object.attrs in
          ap (λ b. cond b (unwrap_or (number_in inner (codes "ALARMTIME")) 0) 0) t ∙ ap (λ (o : Option OilAttr). unwrap_or (number_given o) 0) held_time.found
          ∙ ap (λ (v : OilValue). unwrap_or (number_of v) 0) time_is.is

      started_cycle : started object.attrs (codes "CYCLETIME") ≡ cycle_is.number
      started_cycle =
          let inner = first_block (codes "AUTOSTART") object.attrs in
          ap (λ b. cond b (unwrap_or (number_in inner (codes "CYCLETIME")) 0) 0) t ∙ ap (λ (o : Option OilAttr). unwrap_or (number_given o) 0) held_cycle.found
          ∙ ap (λ (v : OilValue). unwrap_or (number_of v) 0) cycle_is.is

      time_inside : time_is.number ≤ (declared_counter counter_object).max
      time_inside =
          let l = limits tree none i d within alarm in
          let a = held_time.item in
          let own = (and_parts (a.depth == 1) (bytes_eq a.name (codes "ALARMTIME")) held_time.used).0 in
          let e : nat_lt l.greatest time_is.number ≡ false =
          sym (ap (λ (v : OilValue). is_value_beyond l attribute.Time v) time_is.is) ∙ behind_true (a.depth == 1) (is_value_beyond l attribute.Time a.value) own held_time.inside in
          let h = ltb-false l.greatest time_is.number e in
          let g = greatest_is in
          omega (arith, h, g)

      cycle_inside : IsCycle (declared_counter counter_object) cycle_is.number
      cycle_inside =
          let l = limits tree none i d within alarm in
          let a = held_cycle.item in
          let own = (and_parts (a.depth == 1) (bytes_eq a.name (codes "CYCLETIME")) held_cycle.used).0 in
          let e : (not (cycle_is.number == 0) && (nat_lt cycle_is.number l.least || nat_lt l.greatest cycle_is.number)) ≡ false =
          sym (ap (λ (v : OilValue). is_value_beyond l attribute.Cycle v) cycle_is.is) ∙ behind_true (a.depth == 1) (is_value_beyond l attribute.Cycle a.value) own held_cycle.inside in
          by (cycle_is.number == 0) refl e
        where
          by : (b : Bool) → (cycle_is.number == 0) ≡ b
              → (not (cycle_is.number == 0) && (nat_lt cycle_is.number (limits tree none i d within alarm).least || nat_lt (limits tree none i d within alarm).greatest cycle_is.number)) ≡ false
              → IsCycle (declared_counter counter_object) cycle_is.number
          by true z e = inl (eqb-true cycle_is.number 0 z)
          by false z e =
              let l = limits tree none i d within alarm in
              let n = cycle_is.number in
              let p = or_parts (nat_lt n l.least) (nat_lt l.greatest n) (behind_true (not (n == 0)) _ (ap not z) e) in
              let low = ltb-false n l.least p.0 in
              let high = ltb-false l.greatest n p.1 in
              let g = greatest_is in
              let m = least_is in
              inr (omega (arith, low, m), omega (arith, high, g))

    not_started : first_is object.attrs (codes "AUTOSTART") (codes "TRUE") ≡ false → (word : List ℕ) → started object.attrs word ≡ 0
    not_started f word = ap (λ b. cond b (unwrap_or (number_in (first_block (codes "AUTOSTART") object.attrs) word) 0) 0) f

    time_fits : started object.attrs (codes "ALARMTIME") ≤ (declared_counter counter_object).max
    time_fits = by (first_is object.attrs (codes "AUTOSTART") (codes "TRUE")) refl
      where
        by : (b : Bool) → first_is object.attrs (codes "AUTOSTART") (codes "TRUE") ≡ b → started object.attrs (codes "ALARMTIME") ≤ (declared_counter counter_object).max
        by true t = let s = started_time t in let h = time_inside t in omega (arith, s, h)
        by false f = let s = not_started f (codes "ALARMTIME") in omega (arith, s)

    cycle_fits : IsCycle (declared_counter counter_object) (started object.attrs (codes "CYCLETIME"))
    cycle_fits = by (first_is object.attrs (codes "AUTOSTART") (codes "TRUE")) refl
      where
        by : (b : Bool) → first_is object.attrs (codes "AUTOSTART") (codes "TRUE") ≡ b → IsCycle (declared_counter counter_object) (started object.attrs (codes "CYCLETIME"))
        by true t = subst (IsCycle (declared_counter counter_object)) (sym (started_cycle t)) (cycle_inside t)
        by false f = inl (not_started f (codes "CYCLETIME"))

    asleep_is : started object.attrs (codes "ALARMTIME") ≡ 0 → started object.attrs (codes "CYCLETIME") ≡ 0
    asleep_is z = by (first_is object.attrs (codes "AUTOSTART") (codes "TRUE")) refl
      where
        by : (b : Bool) → first_is object.attrs (codes "AUTOSTART") (codes "TRUE") ≡ b → started object.attrs (codes "CYCLETIME") ≡ 0
        by true t = let s = started_time t in let h = (time_is t).low in absurd (omega (arith, s, h, z))
        by false f = not_started f (codes "CYCLETIME")

    -- ---- the action

    first_action : IsFirst (is_use (codes "ACTION")) object.attrs
    first_action = first_of (is_use (codes "ACTION")) object.attrs uses.1

    action_place : block_place place.Alarm first_action.item
        ≡ cond (is_word first_action.item.value (codes "ACTIVATETASK")) place.Activating (cond (is_word first_action.item.value (codes "SETEVENT")) place.Setting place.Nowhere)
    action_place = acts first_action.item (use_name (codes "ACTION") first_action.item first_action.passes)

    sets : first_is object.attrs (codes "ACTION") (codes "SETEVENT") ≡ is_word first_action.item.value (codes "SETEVENT")
    sets = ap (λ (o : Option OilAttr). is_given o (codes "SETEVENT")) first_action.found

    lacks_action : (p : Place) → block_place place.Alarm first_action.item ≡ p → lacks_inner p (first_block (codes "ACTION") object.attrs) ≡ false
    lacks_action p e =
        let inner = first_block (codes "ACTION") object.attrs in
        sym (ap (λ (o : Option OilAttr). lacks_inner (place_behind o) inner) first_action.found ∙ ap (λ (q : Place). lacks_inner q inner) e)
        ∙ (or_parts (lacks_behind (codes "ACTION") object.attrs) _ (lacks_none tree none i d within alarm)).0

    -- the task of the action, in a block that is this place
    module _ (p : Place) (h : Held (codes "ACTION") (codes "TASK") attribute.ActionTask p) where
      task_is : IsNamed tree.objects (codes "TASK") h.item.value
      task_is = task_named tree.objects (has_scheduler tree.objects) h.item.value h.allows h.names

      task_number : number_named (names_of (codes "TASK") tree.objects) (first_in (first_block (codes "ACTION") object.attrs) (codes "TASK")) ≡ task_is.place
      task_number = ap (number_named (names_of (codes "TASK") tree.objects)) h.found ∙ task_is.number

      task_within : task_is.place < length config.tasks
      task_within =
          let m = length-map (filter (is_of_kind (codes "TASK")) tree.objects) (declared_task (resource_names tree.objects) (events_of tree.objects)) in
          let w = task_is.within in
          omega (arith, m, w)

    activates : is_word first_action.item.value (codes "ACTIVATETASK") ≡ true → IsAction config (action_of (names_of (codes "TASK") tree.objects) (events_of tree.objects) object.attrs)
    activates t =
        let e : block_place place.Alarm first_action.item ≡ place.Activating =
        action_place ∙ ap (λ b. cond b place.Activating (cond (is_word first_action.item.value (codes "SETEVENT")) place.Setting place.Nowhere)) t in
        let h = held (codes "ACTION") (codes "TASK") attribute.ActionTask first_action.item first_action.found place.Activating e refl
        (not-false (is_used_in (first_block (codes "ACTION") object.attrs) (codes "TASK")) (lacks_action place.Activating e)) in
        let inner = first_block (codes "ACTION") object.attrs in
        let n = number_named (names_of (codes "TASK") tree.objects) (first_in inner (codes "TASK")) in
        subst (IsAction config)
        (sym (ap (λ b. cond b (action.Set n (mask_named_by (events_of tree.objects) (first_in inner (codes "EVENT")))) (action.Activate n)) (sets ∙ other_word first_action.item.value t)))
        (let w = task_within place.Activating h in let q = task_number place.Activating h in omega (arith, w, q))

    sets_one : is_word first_action.item.value (codes "SETEVENT") ≡ true → IsAction config (action_of (names_of (codes "TASK") tree.objects) (events_of tree.objects) object.attrs)
    sets_one t =
        let events = events_of tree.objects in
        let inner = first_block (codes "ACTION") object.attrs in
        let e : block_place place.Alarm first_action.item ≡ place.Setting =
        action_place ∙ ap (λ b. cond b place.Activating (cond (is_word first_action.item.value (codes "SETEVENT")) place.Setting place.Nowhere)) (one_word first_action.item.value t)
        ∙ ap (λ b. cond b place.Setting place.Nowhere) t in
        let has = both_used (is_used_in inner (codes "TASK")) (is_used_in inner (codes "EVENT")) (lacks_action place.Setting e) in
        let h = held (codes "ACTION") (codes "TASK") attribute.ActionTask first_action.item first_action.found place.Setting e refl has.0 in
        let g = held (codes "ACTION") (codes "EVENT") attribute.ActionEvent first_action.item first_action.found place.Setting e refl has.1 in
        let word = event_named tree.objects (has_scheduler tree.objects) g.item.value g.allows g.names in
        let k = (task_is place.Setting h).place in
        let task = get_or (filter (is_of_kind (codes "TASK")) tree.objects) k d in
        let mask : mask_named_by events (first_in inner (codes "EVENT")) ≡ mask_named events word.word = ap (mask_named_by events) g.found ∙ ap (mask_of_value events) word.is in
        let left : leaves_out (Some task) word.word ≡ false =
        sym (ap (is_left_out tree.objects inner) word.is ∙ ap (λ (o : Option OilAttr). leaves_out (object_named tree.objects (codes "TASK") o) word.word) h.found
        ∙ ap (λ (o : Option OilObject). leaves_out o word.word) ((task_is place.Setting h).object d))
        ∙ behind_true (is_inner_use (codes "EVENT") g.item) (is_left_out tree.objects inner g.item.value) g.used g.lists in
        let own : declaration config k ≡ declared_task (resource_names tree.objects) events task =
        get_or-map (declared_task (resource_names tree.objects) events) (filter (is_of_kind (codes "TASK")) tree.objects) k d undeclared_task (task_is place.Setting h).within in
        let event = is_event_of tree.objects word.word (sym (declared (number_masks tree.objects) tree.objects word.word) ∙ word.declared) in
        let set : IsAction config (action.Set k (mask_named events word.word)) = (
          task_within place.Setting h,
          (event.place, event.within, event.is),
          ap (λ x. bit_and (mask_named events word.word) x) (ap (λ (x : TaskDecl). x.events) own)
              ∙ listed_is events word.word task.attrs (not-false (list_any (lists_event word.word) task.attrs) left),
        ) in
        let n = number_named (names_of (codes "TASK") tree.objects) (first_in inner (codes "TASK")) in
        subst (IsAction config)
        (sym (ap (λ b. cond b (action.Set n (mask_named_by events (first_in inner (codes "EVENT")))) (action.Activate n)) (sets ∙ t)
        ∙ ap (λ x. action.Set x (mask_named_by events (first_in inner (codes "EVENT")))) (task_number place.Setting h) ∙ ap (λ x. action.Set k x) mask)) set

    does : IsAction config (action_of (names_of (codes "TASK") tree.objects) (events_of tree.objects) object.attrs)
    does =
        let f = first_action in
        let used : is_use (codes "ACTION") (get_or object.attrs f.place f.item) ≡ true = ap (is_use (codes "ACTION")) f.stands ∙ f.passes in
        let a = ap (λ (x : OilAttr). is_allowed attribute.Action x.value) (sym f.stands)
        ∙ allowed tree none i d within (codes "ALARM") (codes "ACTION") attribute.Action refl f.place f.item f.within alarm used in
        ⊎_elim activates sets_one (is_action f.item.value a)

    -- ---- all

    pub is_alarm : IsAlarm config (declared_alarm (names_of (codes "TASK") tree.objects) (names_of (codes "COUNTER") tree.objects) (events_of tree.objects) object)
    is_alarm =
        let m = length-map (filter (is_of_kind (codes "COUNTER")) tree.objects) declared_counter in
        let n = number_is in
        let w = counter_is.within in
        record {
          counter = omega (arith, m, n, w);
          action = does;
          time = subst (λ (c : CounterDecl). started object.attrs (codes "ALARMTIME") ≤ c.max) (sym declaration_is) time_fits;
          cycle = subst (λ (c : CounterDecl). IsCycle c (started object.attrs (codes "CYCLETIME"))) (sym declaration_is) cycle_fits;
          asleep = asleep_is;
        }
