-- What the indexes of all objects tell of one of them.
use Rattle.std.proofs.Common.{◌≡◌, ◌∙◌, ℕ, zero, suc, ◌<◌, Bool, true, false, cond, Some, None, List, [], ◌∷◌, ◌++◌, length, map, get_or, slice_get, append-nil, refl, ap, sym, arith}
use Rattle.std.specs.Prelude.{◌||◌, ◌&&◌, ◌==◌, codes, filter, find, position}
use Rattle.std.specs.Borrow.{Bor}
use Rattle.std.specs.List.{list_any}
use Rattle.std.specs.Str.{bytes_eq}
use mathlib.Core.Bool.{or-false}
use Rattle.std.proofs.Math.Bool.{and-false, or_assoc, and-or_distrib_left}
use Rattle.std.proofs.Math.Dec.{eqb-zero-suc, eqb-suc-zero, eqb-suc-suc}
use Rattle.std.proofs.lemmas.Bool.{and_parts, eqb-true}
use Rattle.std.proofs.lemmas.List.{length-map, map-append}
use Rattle.std.proofs.lemmas.List.Elements.{filter-append}
use Rattle.std.proofs.lemmas.List.Quantifiers.{position-Some}
use Rattle.std.proofs.lemmas.Slice.Eq.{bytes_eq-Decides}
use Rattle.indexmap.specs.IndexSet.{IndexSet, insert_key}
use Rattle.oil_parse.specs.declared.tree.OilValue.{OilValue}
use Rattle.oil_parse.specs.declared.tree.OilValue.TheVariants.{Word, Number, Text}
use Rattle.oil_parse.specs.declared.tree.OilAttr.{OilAttr}
use Rattle.oil_parse.specs.declared.tree.OilObject.{OilObject}
use Rattle.text_pieces.proofs.Tests.{any_insert}
use Rattle.oil_table.specs.Table.{is_word}
use Rattle.oil_table.specs.Objects.{is_use, is_of_kind, is_declaration, names_of}
use Rattle.oil_table.specs.declared.counter_limits.Limits.{Limits}
use Rattle.oil_table.proofs.Names.{place_in, declared_at}
use Rattle.oil_table.specs.ListedEvents.{event_word, referred_word, lists_event, tasks_among, attrs_at, is_listing, AreTasks}
use Rattle.oil_table.specs.AlarmCounters.{limits_in, limits_given, limits_among}

-- ---- one event more

-- an event of a task among those that are kept
pub listed_more : (keys : List (ℕ × Bor (List ℕ))) (task : ℕ) (event : Bor (List ℕ)) (number : ℕ) (word : List ℕ)
    → list_any (is_listing number word) (insert_key (λ (x : ℕ × Bor (List ℕ)) y. (x.0 == y.0) && bytes_eq x.1.now y.1.now) keys (task, event))
    ≡ (list_any (is_listing number word) keys || ((task == number) && bytes_eq event.now word))
listed_more keys task event number word =
    any_insert (is_listing number word) (λ (x : ℕ × Bor (List ℕ)) y. (x.0 == y.0) && bytes_eq x.1.now y.1.now) (task, event)
    (λ (y : ℕ × Bor (List ℕ)) h.
    let p = and_parts (task == y.0) (bytes_eq event.now y.1.now) h in
    let e : task ≡ y.0 = eqb-true task y.0 p.0 in
    let f : event.now ≡ y.1.now = (bytes_eq-Decides event.now y.1.now).0 p.1 in
    sym (ap (λ (n : ℕ). (n == number) && bytes_eq event.now word) e ∙ ap (λ (w : List ℕ). (y.0 == number) && bytes_eq w word) f)) keys

word_at : (event word : List ℕ) (b : Bool) (x : OilValue) → cond b (referred_word x) None ≡ Some event → (b && is_word x word) ≡ bytes_eq event word
word_at event word true (Word w) e = let g : w ≡ event = cc in ap (λ (y : List ℕ). bytes_eq y word) g
word_at event word true (Number n) e = cc
word_at event word true (Text t) e = cc
word_at event word false x e = cc

-- an attribute lists the event that it refers to
pub listed_word : (event word : List ℕ) (attr : OilAttr) → event_word attr ≡ Some event → lists_event word attr ≡ bytes_eq event word
listed_word event word attr e = word_at event word (is_use (codes "EVENT") attr) attr.value e

none_at : (word : List ℕ) (b : Bool) (x : OilValue) → cond b (referred_word x) None ≡ None → (b && is_word x word) ≡ false
none_at word true (Word w) e = cc
none_at word true (Number n) e = refl
none_at word true (Text t) e = refl
none_at word false x e = refl

-- and none where it refers to none
pub listed_none : (word : List ℕ) (attr : OilAttr) → event_word attr ≡ None → lists_event word attr ≡ false
listed_none word attr e = none_at word (is_use (codes "EVENT") attr) attr.value e

-- nothing more, under a condition
pub none_more : (a b : Bool) → a ≡ (a || (b && false))
none_more a b = sym (ap (λ c. a || c) (and-false b) ∙ or-false a)

-- one more, and then another, under one condition
pub one_more : (a b p q : Bool) → ((a || (b && p)) || (b && q)) ≡ (a || (b && (p || q)))
one_more a b p q = or_assoc a (b && p) (b && q) ∙ ap (λ c. a || c) (sym (and-or_distrib_left b p q))

-- ---- one object more

attrs_push : (p : OilAttr → Bool) (task : OilObject) (tasks : List OilObject) (number : ℕ)
    → list_any p (attrs_at (tasks ++ task ∷ []) number) ≡ (list_any p (attrs_at tasks number) || ((length tasks == number) && list_any p task.attrs))
attrs_push p task [] zero = refl
attrs_push p task [] (suc n) = sym (ap (λ b. b && list_any p task.attrs) (eqb-zero-suc n))
attrs_push p task (t ∷ tasks) zero =
    sym (ap (λ b. list_any p t.attrs || (b && list_any p task.attrs)) (eqb-suc-zero (length tasks)) ∙ or-false (list_any p t.attrs))
attrs_push p task (t ∷ tasks) (suc n) =
    attrs_push p task tasks n ∙ sym (ap (λ b. list_any p (attrs_at tasks n) || (b && list_any p task.attrs)) (eqb-suc-suc (length tasks) n))

among_push : (kind : List ℕ) (objects : List OilObject) (o : OilObject) (b : Bool) → is_of_kind kind o ≡ b
    → filter (is_of_kind kind) (objects ++ o ∷ []) ≡ filter (is_of_kind kind) objects ++ cond b (o ∷ []) []
among_push kind objects o b e = filter-append (is_of_kind kind) objects (o ∷ []) ∙ ap (λ c. filter (is_of_kind kind) objects ++ cond c (o ∷ []) []) e

module _ {S : Type 0} (objects : List OilObject) (o : OilObject) (names : List (List ℕ)) (listed : IndexSet (ℕ × Bor (List ℕ)) S) (k : AreTasks objects names listed) where
  -- one that is no task
  pub tasks_passed : is_of_kind (codes "TASK") o ≡ false → AreTasks (objects ++ o ∷ []) names listed
  tasks_passed e =
      let among : tasks_among (objects ++ o ∷ []) ≡ tasks_among objects = among_push (codes "TASK") objects o false e ∙ append-nil (tasks_among objects) in
      record {
        named = k.named ∙ ap (λ (ts : List OilObject). map (λ (x : OilObject). x.name) ts) (sym among);
        events = λ number word. k.events number word ∙ ap (λ (ts : List OilObject). list_any (lists_event word) (attrs_at ts number)) (sym among);
      }

  -- a task, and the events that it lists
  pub tasks_more : (more : IndexSet (ℕ × Bor (List ℕ)) S) → is_of_kind (codes "TASK") o ≡ true
      → ((number : ℕ) (word : List ℕ) → list_any (is_listing number word) more.keys ≡ (list_any (is_listing number word) listed.keys || ((length names == number) && list_any (lists_event word) o.attrs)))
      → AreTasks (objects ++ o ∷ []) (names ++ o.name ∷ []) more
  tasks_more more e added =
      let tasks = tasks_among objects in
      let among : tasks_among (objects ++ o ∷ []) ≡ tasks ++ o ∷ [] = among_push (codes "TASK") objects o true e in
      let count : length names ≡ length tasks = ap length k.named ∙ length-map tasks (λ (x : OilObject). x.name) in
      record {
        named = ap (λ (ns : List (List ℕ)). ns ++ o.name ∷ []) k.named
            ∙ sym (ap (λ (ts : List OilObject). map (λ (x : OilObject). x.name) ts) among ∙ map-append (λ (x : OilObject). x.name) tasks (o ∷ []));
        events = λ number word.
            added number word
            ∙ ap (λ b. b || ((length names == number) && list_any (lists_event word) o.attrs)) (k.events number word)
            ∙ ap (λ (n : ℕ). list_any (lists_event word) (attrs_at tasks number) || ((n == number) && list_any (lists_event word) o.attrs)) count
            ∙ sym (ap (λ (ts : List OilObject). list_any (lists_event word) (attrs_at ts number)) among ∙ attrs_push (lists_event word) o tasks number);
      }

-- ---- the object of a number

pub named_within : (kind word : List ℕ) (objects : List OilObject) (number : ℕ) → position (bytes_eq word) (names_of kind objects) ≡ Some number
    → number < length (filter (is_of_kind kind) objects)
named_within kind word objects number e =
    let l = length-map (filter (is_of_kind kind) objects) (λ (o : OilObject). o.name) in
    let h = (position-Some (bytes_eq word) (names_of kind objects) number [] e).0 in
    omega (arith, l, h)

-- ---- the counter of a number

limits_are : (objects : List OilObject) → limits_among objects ≡ map limits_in (filter (is_of_kind (codes "COUNTER")) objects)
limits_are [] = refl
limits_are (o ∷ objects) = by (is_of_kind (codes "COUNTER") o) (limits_are objects)
  where
    by : (b : Bool) → limits_among objects ≡ map limits_in (filter (is_of_kind (codes "COUNTER")) objects)
        → cond b (limits_in o ∷ limits_among objects) (limits_among objects) ≡ map limits_in (cond b (o ∷ filter (is_of_kind (codes "COUNTER")) objects) (filter (is_of_kind (codes "COUNTER")) objects))
    by true again = ap (λ (l : List Limits). limits_in o ∷ l) again
    by false again = again

place_limited : (counters : List OilObject) (number : ℕ) (d : Limits) → number < length counters → get_or (map limits_in counters) number d ≡ limits_given (slice_get counters number)
place_limited [] number d h = absurd (omega (arith, h))
place_limited (c ∷ counters) zero d h = refl
place_limited (c ∷ counters) (suc n) d h = place_limited counters n d (omega (arith, h))

pub limits_within : (word : List ℕ) (objects : List OilObject) (number : ℕ) → position (bytes_eq word) (names_of (codes "COUNTER") objects) ≡ Some number
    → number < length (limits_among objects)
limits_within word objects number e =
    let h = named_within (codes "COUNTER") word objects number e in
    let l = ap length (limits_are objects) ∙ length-map (filter (is_of_kind (codes "COUNTER")) objects) limits_in in
    omega (arith, h, l)

pub limits_some : (word : List ℕ) (objects : List OilObject) (number : ℕ) (d : Limits) → position (bytes_eq word) (names_of (codes "COUNTER") objects) ≡ Some number
    → get_or (limits_among objects) number d ≡ limits_given (find (is_declaration (codes "COUNTER") word) objects)
limits_some word objects number d e =
    let counters = filter (is_of_kind (codes "COUNTER")) objects in
    ap (λ (l : List Limits). get_or l number d) (limits_are objects) ∙ place_limited counters number d (named_within (codes "COUNTER") word objects number e)
    ∙ sym (ap limits_given (declared_at (codes "COUNTER") word objects ∙ ap (place_in counters) e))

pub limits_none : (word : List ℕ) (objects : List OilObject) → position (bytes_eq word) (names_of (codes "COUNTER") objects) ≡ None
    → limits_given None ≡ limits_given (find (is_declaration (codes "COUNTER") word) objects)
limits_none word objects e = sym (ap limits_given (declared_at (codes "COUNTER") word objects ∙ ap (place_in (filter (is_of_kind (codes "COUNTER")) objects)) e))
