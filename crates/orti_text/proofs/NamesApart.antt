-- The names in a file.
use Rattle.std.proofs.Common.{◌≡◌, ◌≢◌, ◌∙◌, ℕ, zero, suc, ◌+◌, ◌<◌, ◌≤◌, ◌==◌, Bool, true, false, not, ◌&&◌, ◌||◌, cond, List, [], ◌∷◌, ◌++◌, All, AllPairs, append-nil, arith, ap, get_or, length, map, refl, sym, subst}
use Rattle.std.specs.Prelude.{bytes_eq, codes, filter}
use Rattle.std.specs.Int.{is_in_range}
use Rattle.std.specs.List.{AllByRecursion, list_all, range_with_len}
use Rattle.std.proofs.lemmas.Bool.{and_parts, false≢true}
use Rattle.std.proofs.lemmas.List.{append_cancel_left, get_or-map, get_or_default, length-map}
use Rattle.std.proofs.lemmas.List.Elements.{All-append, All-from_recursion, All-map, recursion_from_All}
use Rattle.std.proofs.lemmas.List.FromFn.{get_or-map-range_with_len, length-range_with_len}
use Rattle.std.proofs.lemmas.List.Kept.{AllPairs-filter}
use Rattle.std.proofs.lemmas.List.Sums.{AllPass-from_list_all, list_all-from_AllPass}
use Rattle.std.proofs.lemmas.Slice.Eq.{bytes_eq-Decides}
use Rattle.sloth_base.specs.declared.config.Config.{Config}
use Rattle.sloth_base.specs.declared.config.CounterDecl.{CounterDecl}
use Rattle.sloth_base.specs.declared.config.EventDecl.{EventDecl}
use Rattle.sloth_base.specs.declared.config.TaskDecl.{TaskDecl}
use Rattle.sloth_base.specs.ConfigRange.{InRange, no_event, res_scheduler_name}
use Rattle.sloth_base.specs.ImageRange.{AreNames, IsWord, begins_word, continues_word}
use Rattle.sloth_base.specs.Named.{counter_declaration, undeclared_counter}
use Rattle.mem_map.specs.StackParts.{first_own}
use Rattle.orti_text.specs.Attributes.{attribute_name, attributes, event_declaration, object_names, stack_names}
use Rattle.orti_text.specs.FileNames.{NamesDiffer}
use Rattle.orti_text.specs.declared.attributes.Attribute.{Attribute}
use Rattle.orti_text.specs.declared.attributes.Attribute.TheVariants as attribute
use Rattle.orti_text.specs.declared.attributes.Kind.{Kind}
use Rattle.orti_text.specs.declared.attributes.Kind.TheVariants as kind
use Rattle.orti_text.proofs.Pairs.{pairs_append, pairs_cons, pairs_map, pairs_one, pairs_unmap}

-- ---- identifiers

widened : (digit upper lower low : Bool) → ((upper || lower) || low) ≡ true → (((digit || upper) || lower) || low) ≡ true
widened true u l w h = refl
widened false u l w h = h

begins_continues : (b : ℕ) → begins_word b ≡ true → continues_word b ≡ true
begins_continues b h = widened (is_in_range 48 57 b) (is_in_range 65 90 b) (is_in_range 97 122 b) (b == 95) h

pub word_continues : (name : List ℕ) → IsWord name → list_all continues_word name ≡ true
word_continues [] h = absurd h
word_continues (b ∷ rest) h =
    let first = begins_continues b h.0 in let others = list_all-from_AllPass continues_word rest h.1 in rw (first, others) refl

-- a test of words
abbrev is_word : List ℕ → Bool
is_word [] = false
is_word (b ∷ rest) = begins_word b && list_all continues_word rest

word_is : (t : List ℕ) → is_word t ≡ true → IsWord t
word_is [] h = absurd (false≢true h)
word_is (b ∷ rest) h = let w = and_parts (begins_word b) (list_all continues_word rest) h in (w.0, AllPass-from_list_all continues_word rest w.1)

-- ---- lists

kept_by : {X : Type 0} (P : X → Type 0) (p : X → Bool) (xs : List X) → AllByRecursion P xs → AllByRecursion P (filter p xs)
kept_by P p [] h = tt
kept_by {X} P p (x ∷ xs) h = by (p x) (kept_by P p xs h.1)
  where
    by : (b : Bool) → AllByRecursion P (filter p xs) → AllByRecursion P (cond b (x ∷ filter p xs) (filter p xs))
    by true rest = (h.0, rest)
    by false rest = rest

kept : {X : Type 0} (P : X → Type 0) (p : X → Bool) (xs : List X) → All P xs → All P (filter p xs)
kept P p xs h = All-from_recursion P (filter p xs) (kept_by P p xs (recursion_from_All P xs h))

-- a test of lists that are written out
abbrev apart : List (List ℕ) → Bool
apart [] = true
apart (x ∷ xs) = list_all (λ y. not (bytes_eq x y)) xs && apart xs

unequal : (x y : List ℕ) → not (bytes_eq x y) ≡ true → x ≢ y
unequal x y h same = absurd (false≢true (sym (ap not ((bytes_eq-Decides x y).1 same)) ∙ h))

apart_pairs : (xs : List (List ℕ)) → apart xs ≡ true → AllPairs (λ one other. one ≢ other) xs
apart_pairs [] h i j d before inside = absurd (omega (arith, inside))
apart_pairs (x ∷ xs) h i j d before inside =
    let w = and_parts (list_all (λ y. not (bytes_eq x y)) xs) (apart xs) h in
    pairs_cons (λ one other. one ≢ other) x xs
    (λ k e within. unequal x (get_or xs k e) (AllPass-from_list_all (λ y. not (bytes_eq x y)) xs w.0 k e within)) (apart_pairs xs w.1) i j d before inside

-- ---- numbered names

-- those of the elements of a list that are all different
module _ {X : Type 0} (f : X → List ℕ) (prefix : List ℕ) where
  prefixed_differ : (xs : List X) → AllPairs (λ one other. one ≢ other) (map f xs) → (k : ℕ → X) → ((i : ℕ) (d : X) → i < length xs → k i ≡ get_or xs i d)
      → (i j : ℕ) → i < j → j < length xs → prefix ++ f (k i) ≢ prefix ++ f (k j)
  prefixed_differ [] h k is i j before inside same = absurd (omega (arith, inside))
  prefixed_differ (x ∷ xs) h k is i j before inside same =
      let all : List X = x ∷ xs in
      let a : k i ≡ get_or all i x = is i x (omega (arith, before, inside)) in
      let b : k j ≡ get_or all j x = is j x inside in
      let e : f (get_or all i x) ≡ f (get_or all j x) = sym (ap f a) ∙ append_cancel_left prefix (f (k i)) (f (k j)) same ∙ ap f b in
      pairs_unmap (λ one other. one ≢ other) f all h i j x before inside e

-- ---- what a configuration has

module _ (config : Config) (range : InRange config) where
  word_at_name : (names : List (List ℕ)) → AreNames names → All IsWord names
  word_at_name names h i d inside = (h.each i d inside).word

  -- the attributes of the OS object
  counter_word : (c : ℕ) → c < length config.counters → IsWord (attribute_name config (attribute.CounterValue c))
  counter_word c inside =
      let f : CounterDecl → List ℕ = λ d. d.name in
      let long = length-map config.counters f in
      let name = (range.counter_names.each c [] (omega (arith, inside, long))).word in
      let is = get_or-map f config.counters c undeclared_counter [] inside in
      word_is (attribute_name config (attribute.CounterValue c)) (word_continues (counter_declaration config c).name (subst IsWord is name))

  event_word : (e : ℕ) → e < length config.events → IsWord (attribute_name config (attribute.EventMask e))
  event_word e inside =
      let f : EventDecl → List ℕ = λ d. d.name in
      let long = length-map config.events f in
      let name = (range.event_names.each e [] (omega (arith, inside, long))).word in
      let is = get_or-map f config.events e no_event [] inside in
      word_is (attribute_name config (attribute.EventMask e)) (word_continues (event_declaration config e).name (subst IsWord is name))

  counters_words : (a k : ℕ) (rest : List Attribute) → a + k ≤ length config.counters → AllByRecursion (λ x. IsWord (attribute_name config x)) rest
      → AllByRecursion (λ x. IsWord (attribute_name config x)) (map attribute.CounterValue (range_with_len a k) ++ rest)
  counters_words a zero rest few h = h
  counters_words a (suc k) rest few h = (counter_word a (omega (arith, few)), counters_words (a + 1) k rest (omega (arith, few)) h)

  events_words : (a k : ℕ) → a + k ≤ length config.events
      → AllByRecursion (λ x. IsWord (attribute_name config x)) (map attribute.EventMask (range_with_len a k))
  events_words a zero few = tt
  events_words a (suc k) few = (event_word a (omega (arith, few)), events_words (a + 1) k (omega (arith, few)))

  attributes_words : (k : Kind) → All (λ a. IsWord (attribute_name config a)) (attributes config k)
  attributes_words kind.Os =
      All-from_recursion (λ a. IsWord (attribute_name config a)) (attributes config kind.Os)
      (word_is (attribute_name config attribute.RunningTask) refl, counters_words 0 (length config.counters) _ (omega arith) (events_words 0 (length config.events) (omega arith)))
  attributes_words kind.Task =
      All-from_recursion (λ a. IsWord (attribute_name config a)) (attributes config kind.Task)
      (word_is (attribute_name config attribute.StaticPriority) refl, (word_is (attribute_name config attribute.TaskState) refl, (word_is (attribute_name config attribute.Entered) refl, (word_is (attribute_name config attribute.TaskStack) refl, (word_is (attribute_name config attribute.Activations) refl, (word_is (attribute_name config attribute.Events) refl, (word_is (attribute_name config attribute.WaitMask) refl, tt)))))))
  attributes_words kind.Stack = All-from_recursion (λ a. IsWord (attribute_name config a)) (attributes config kind.Stack) (word_is (attribute_name config attribute.Size) refl, (word_is (attribute_name config attribute.BaseAddress) refl, (word_is (attribute_name config attribute.Direction) refl, tt)))
  attributes_words kind.Alarm =
      All-from_recursion (λ a. IsWord (attribute_name config a)) (attributes config kind.Alarm)
      (word_is (attribute_name config attribute.AlarmTime) refl, (word_is (attribute_name config attribute.CycleTime) refl, (word_is (attribute_name config attribute.AlarmState) refl, (word_is (attribute_name config attribute.Expiry) refl, (word_is (attribute_name config attribute.AlarmCounter) refl, tt)))))
  attributes_words kind.Resource = All-from_recursion (λ a. IsWord (attribute_name config a)) (attributes config kind.Resource) (word_is (attribute_name config attribute.Ceiling) refl, tt)

  -- ---- objects

  stack_words : (tasks : List TaskDecl) → All IsWord (map (λ (d : TaskDecl). d.name) tasks) → All IsWord (stack_names tasks)
  stack_words tasks h =
      All-append IsWord (cond (first_own tasks == 0) [] (codes "shared" ∷ [])) (map (λ (d : TaskDecl). codes "stack_" ++ d.name) (filter (λ (d : TaskDecl). d.extended) tasks))
      (shared (first_own tasks == 0))
      (All-map IsWord (λ (d : TaskDecl). codes "stack_" ++ d.name) (filter (λ (d : TaskDecl). d.extended) tasks)
      (kept (λ (d : TaskDecl). IsWord (codes "stack_" ++ d.name)) (λ (d : TaskDecl). d.extended) tasks
      (λ i d inside.
      let f : TaskDecl → List ℕ = λ t. t.name in
      let long = length-map tasks f in
      let is = get_or-map f tasks i d [] inside in
      word_is (codes "stack_" ++ (get_or tasks i d).name) (word_continues (get_or tasks i d).name (subst IsWord is (h i [] (omega (arith, inside, long))))))))
    where
      shared : (b : Bool) → All IsWord (cond b [] (codes "shared" ∷ []))
      shared true = All-from_recursion IsWord [] tt
      shared false = All-from_recursion IsWord (codes "shared" ∷ []) (word_is (codes "shared") refl, tt)

  scheduler_words : (b : Bool) → All IsWord (cond b (codes "RES_SCHEDULER" ∷ []) [])
  scheduler_words true = All-from_recursion IsWord (codes "RES_SCHEDULER" ∷ []) (word_is (codes "RES_SCHEDULER") refl, tt)
  scheduler_words false = All-from_recursion IsWord [] tt

  objects_words : (k : Kind) → All IsWord (object_names config k)
  objects_words kind.Os = All-from_recursion IsWord (codes "sloth" ∷ []) (word_is (codes "sloth") refl, tt)
  objects_words kind.Task = word_at_name _ range.task_names
  objects_words kind.Stack = stack_words config.tasks (word_at_name _ range.task_names)
  objects_words kind.Alarm = word_at_name _ range.alarm_names
  objects_words kind.Resource = All-append IsWord config.resources (cond config.res_scheduler (codes "RES_SCHEDULER" ∷ []) []) (word_at_name _ range.resource_names) (scheduler_words config.res_scheduler)

  -- ---- no two are the same

  stacks_differ : (tasks : List TaskDecl) → AllPairs (λ one other. one ≢ other) (map (λ (d : TaskDecl). d.name) tasks)
      → AllPairs (λ one other. one ≢ other) (stack_names tasks)
  stacks_differ tasks h =
      let f : TaskDecl → List ℕ = λ d. codes "stack_" ++ d.name in
      let own = filter (λ (d : TaskDecl). d.extended) tasks in
      let R : List ℕ → List ℕ → Type 0 = λ one other. one ≢ other in
      let apart_tasks : AllPairs (λ (a b : TaskDecl). f a ≢ f b) tasks =
      λ i j d before inside same. pairs_unmap R (λ (x : TaskDecl). x.name) tasks h i j d before inside (append_cancel_left (codes "stack_") _ _ same) in
      pairs_append R (cond (first_own tasks == 0) [] (codes "shared" ∷ [])) (map f own) (shared (first_own tasks == 0))
      (pairs_map R f own (AllPairs-filter (λ (a b : TaskDecl). f a ≢ f b) (λ (d : TaskDecl). d.extended) tasks apart_tasks))
      (across (first_own tasks == 0) own)
    where
      shared : (b : Bool) → AllPairs (λ one other. one ≢ other) (cond b [] (codes "shared" ∷ []))
      shared true i j d before inside = absurd (omega (arith, inside))
      shared false i j d before inside = pairs_one (λ one other. one ≢ other) (codes "shared") i j d before inside

      across : (b : Bool) (own : List TaskDecl)
          → All (λ x. All (λ y. x ≢ y) (map (λ (d : TaskDecl). codes "stack_" ++ d.name) own)) (cond b [] (codes "shared" ∷ []))
      across true own = All-from_recursion (λ x. All (λ y. x ≢ y) (map (λ (d : TaskDecl). codes "stack_" ++ d.name) own)) [] tt
      across false own =
          All-from_recursion (λ x. All (λ y. x ≢ y) (map (λ (d : TaskDecl). codes "stack_" ++ d.name) own)) (codes "shared" ∷ []) (
            All-map (λ y. codes "shared" ≢ y) (λ (d : TaskDecl). codes "stack_" ++ d.name) own
                (λ i d inside same. let q = ap (λ (l : List ℕ). get_or l 1 0) same in absurd (omega (arith, q))),
            tt,
          )

  resources_differ : (b : Bool) → (b ≡ true → All (λ name. name ≢ res_scheduler_name) config.resources)
      → AllPairs (λ one other. one ≢ other) (config.resources ++ cond b (codes "RES_SCHEDULER" ∷ []) [])
  resources_differ true alone =
      pairs_append (λ one other. one ≢ other) config.resources (codes "RES_SCHEDULER" ∷ []) range.resource_names.distinct
      (pairs_one (λ one other. one ≢ other) (codes "RES_SCHEDULER"))
      (λ i d inside. All-from_recursion (λ x. get_or config.resources i d ≢ x) (codes "RES_SCHEDULER" ∷ []) (alone refl i d inside, tt))
  resources_differ false alone =
      subst (λ l. AllPairs (λ one other. one ≢ other) l) (sym (append-nil config.resources)) range.resource_names.distinct

  objects_apart : (k : Kind) → AllPairs (λ one other. one ≢ other) (object_names config k)
  objects_apart kind.Os = pairs_one (λ one other. one ≢ other) (codes "sloth")
  objects_apart kind.Task = range.task_names.distinct
  objects_apart kind.Stack = stacks_differ config.tasks range.task_names.distinct
  objects_apart kind.Alarm = range.alarm_names.distinct
  objects_apart kind.Resource = resources_differ config.res_scheduler range.scheduler_alone

  abbrev Unlike : Attribute → Attribute → Type 0
  Unlike a b = attribute_name config a ≢ attribute_name config b

  counters_apart : AllPairs Unlike (map attribute.CounterValue (range_with_len 0 (length config.counters)))
  counters_apart i j d before inside =
      let n = length config.counters in
      let long = length-map (range_with_len 0 n) attribute.CounterValue in
      let count = length-range_with_len 0 n in
      let a : get_or (map attribute.CounterValue (range_with_len 0 n)) i d ≡ attribute.CounterValue i =
      get_or-map-range_with_len attribute.CounterValue 0 n i i d (omega (arith, before, inside, long, count)) (omega arith) in
      let b : get_or (map attribute.CounterValue (range_with_len 0 n)) j d ≡ attribute.CounterValue j =
      get_or-map-range_with_len attribute.CounterValue 0 n j j d (omega (arith, inside, long, count)) (omega arith) in
      let at : Unlike (attribute.CounterValue i) (attribute.CounterValue j) =
      prefixed_differ (λ (x : CounterDecl). x.name) (codes "vs_COUNTER_") config.counters range.counter_names.distinct (counter_declaration config)
      (λ k e inside. get_or_default config.counters k undeclared_counter e inside) i j before (omega (arith, inside, long, count)) in
      subst (λ x. Unlike x (get_or (map attribute.CounterValue (range_with_len 0 n)) j d)) (sym a) (subst (λ y. Unlike (attribute.CounterValue i) y) (sym b) at)

  events_apart : AllPairs Unlike (map attribute.EventMask (range_with_len 0 (length config.events)))
  events_apart i j d before inside =
      let n = length config.events in
      let long = length-map (range_with_len 0 n) attribute.EventMask in
      let count = length-range_with_len 0 n in
      let a : get_or (map attribute.EventMask (range_with_len 0 n)) i d ≡ attribute.EventMask i =
      get_or-map-range_with_len attribute.EventMask 0 n i i d (omega (arith, before, inside, long, count)) (omega arith) in
      let b : get_or (map attribute.EventMask (range_with_len 0 n)) j d ≡ attribute.EventMask j =
      get_or-map-range_with_len attribute.EventMask 0 n j j d (omega (arith, inside, long, count)) (omega arith) in
      let at : Unlike (attribute.EventMask i) (attribute.EventMask j) =
      prefixed_differ (λ (x : EventDecl). x.name) (codes "vs_EVENT_") config.events range.event_names.distinct (event_declaration config)
      (λ k e inside. get_or_default config.events k no_event e inside) i j before (omega (arith, inside, long, count)) in
      subst (λ x. Unlike x (get_or (map attribute.EventMask (range_with_len 0 n)) j d)) (sym a) (subst (λ y. Unlike (attribute.EventMask i) y) (sym b) at)

  -- a counter's and an event's attribute differ in the fourth byte, and both from RUNNINGTASK in the first
  attributes_apart : (k : Kind) → AllPairs Unlike (attributes config k)
  attributes_apart kind.Os =
      let counters = map attribute.CounterValue (range_with_len 0 (length config.counters)) in
      let events = map attribute.EventMask (range_with_len 0 (length config.events)) in
      let first : All (Unlike attribute.RunningTask) (counters ++ events) =
      All-append (Unlike attribute.RunningTask) counters events
      (All-map (Unlike attribute.RunningTask) attribute.CounterValue (range_with_len 0 (length config.counters))
      (λ i d inside same. let q = ap (λ (l : List ℕ). get_or l 0 0) same in absurd (omega (arith, q))))
      (All-map (Unlike attribute.RunningTask) attribute.EventMask (range_with_len 0 (length config.events))
      (λ i d inside same. let q = ap (λ (l : List ℕ). get_or l 0 0) same in absurd (omega (arith, q)))) in
      let across : All (λ a. All (Unlike a) events) counters =
      All-map (λ a. All (Unlike a) events) attribute.CounterValue (range_with_len 0 (length config.counters))
      (λ i d inside. All-map (Unlike (attribute.CounterValue (get_or (range_with_len 0 (length config.counters)) i d))) attribute.EventMask (range_with_len 0 (length config.events))
      (λ j e within same. let q = ap (λ (l : List ℕ). get_or l 3 0) same in absurd (omega (arith, q)))) in
      pairs_cons Unlike attribute.RunningTask (counters ++ events) first (pairs_append Unlike counters events counters_apart events_apart across)
  attributes_apart kind.Task = pairs_unmap (λ one other. one ≢ other) (attribute_name config) (attributes config kind.Task)
      (apart_pairs (map (attribute_name config) (attributes config kind.Task)) refl)
  attributes_apart kind.Stack = pairs_unmap (λ one other. one ≢ other) (attribute_name config) (attributes config kind.Stack)
      (apart_pairs (map (attribute_name config) (attributes config kind.Stack)) refl)
  attributes_apart kind.Alarm = pairs_unmap (λ one other. one ≢ other) (attribute_name config) (attributes config kind.Alarm)
      (apart_pairs (map (attribute_name config) (attributes config kind.Alarm)) refl)
  attributes_apart kind.Resource = pairs_unmap (λ one other. one ≢ other) (attribute_name config) (attributes config kind.Resource)
      (apart_pairs (map (attribute_name config) (attributes config kind.Resource)) refl)

pub names_differ : NamesDiffer
names_differ config range = record {
  objects_are_words = objects_words config range;
  objects_differ = objects_apart config range;
  attributes_are_words = attributes_words config range;
  attributes_differ = attributes_apart config range;
  running = refl;
  stacks = refl;
}
