-- The file of accepted texts is read as its table.
use Rattle.std.proofs.Common.{◌≡◌, ◌∙◌, ℕ, ◌+◌, ◌<◌, ◌≤◌, ◌^◌, ◌==◌, ⊎_elim, Bool, true, false, cond, List, [], ◌∷◌, ◌++◌, All, Some, arith, ap, get_or, length, map, refl, subst}
use Rattle.std.specs.Prelude.{bytes_eq, codes, filter}
use Rattle.std.specs.List.{AllByRecursion, find, flat_map, list_any}
use Rattle.std.proofs.lemmas.Bool.{cases_lt, false≢true}
use Rattle.std.proofs.lemmas.List.{get_or-map, get_or_past, length-map}
use Rattle.std.proofs.lemmas.List.Elements.{All-drop, All-filter, All-map, All-weaker, recursion_from_All}
use Rattle.sloth_base.specs.declared.config.Action.{Action}
use Rattle.sloth_base.specs.declared.config.Action.TheVariants as action
use Rattle.sloth_base.specs.declared.config.Config.{Config}
use Rattle.sloth_base.specs.declared.config.CounterDecl.{CounterDecl}
use Rattle.sloth_base.specs.declared.config.EventDecl.{EventDecl}
use Rattle.sloth_base.specs.declared.config.TaskDecl.{TaskDecl}
use Rattle.sloth_base.specs.ConfigRange.{InRange, IsAction, no_event, scheduler_number}
use Rattle.sloth_base.specs.ImageRange.{AreNames, IsWord, continues_word}
use Rattle.sloth_base.specs.Limits.{alarm_limit, priority_limit, task_limit}
use Rattle.sloth_base.specs.MemoryMap.{memory_end, words_base}
use Rattle.sloth_base.specs.Named.{alarm_declaration, declaration, undeclared_alarm, undeclared_counter, undeclared_task}
use Rattle.code_rules.specs.Code.{is_in}
use Rattle.text_pieces.specs.Bytes.{is_byte_of}
use Rattle.text_pieces.proofs.Cuts.{has_in, lacks}
use Rattle.sloth_region.specs.declared.region.Extent.{Extent}
use Rattle.sloth_region.specs.declared.region.Map.{Map}
use Rattle.sloth_region.specs.Layout.{active, alarm_cycle, alarm_left, counter_value, cur, enabled_byte, events, pending_byte, wait}
use Rattle.mem_map.specs.StackParts.{no_extent}
use Rattle.mem_map.specs.Zones.{HasZones, all_stacks}
use Rattle.mem_map.proofs.StackNumbers.{few_stacks, number_below}
use Rattle.osek_scheduler.specs.Priority.{ceiling, greatest, highest_priority}
use Rattle.orti_text.specs.Attributes.{all_kinds, attribute_about, attribute_name, attributes, event_declaration, kind_about, kind_word, meaning, object_names}
use Rattle.orti_text.specs.FormulaReading.{HasNumbers}
use Rattle.orti_text.specs.Formulas.{Formula, Number, Equal, Choice}
use Rattle.orti_text.specs.InReach.{IsInReach}
use Rattle.orti_text.specs.OrtiTable.{declared_attribute, declared_kind, has_object, named_value, numbered_object, numbered_objects, objects_of_kind, orti_table, present_kinds}
use Rattle.orti_text.specs.OrtiText.{FilesReadBack}
use Rattle.orti_text.specs.TableReading.{AreValues, IsAttribute, IsKind, IsMeaning, IsObject, IsTable, IsValue, Lacks, read_file}
use Rattle.orti_text.specs.Tables as table
use Rattle.orti_text.specs.Values.{action_text, attribute_value, by_state, byte, mask_text, resource_number, stack_at, where_in_use, word}
use Rattle.orti_text.specs.declared.attributes.Attribute.{Attribute}
use Rattle.orti_text.specs.declared.attributes.Attribute.TheVariants as attribute
use Rattle.orti_text.specs.declared.attributes.Kind.{Kind}
use Rattle.orti_text.specs.declared.attributes.Kind.TheVariants as kind
use Rattle.orti_text.proofs.NamesApart.{names_differ, word_continues}
use Rattle.orti_text.proofs.Reach.{in_reach}
use Rattle.orti_text.proofs.TableReading.{tables_read_back}

-- ---- texts that lack a byte

lacking : (c : ℕ) (t : List ℕ) → list_any (λ b. b == c) t ≡ false → Lacks c t
unfolding is_byte_of
lacking c t h = h

word_lacks : (c : ℕ) → continues_word c ≡ false → (t : List ℕ) → IsWord t → Lacks c t
word_lacks c fails t h = lacks continues_word c fails t (word_continues t h)

words_lack : (names : List (List ℕ)) → All IsWord names → AllByRecursion (Lacks 34) names
words_lack names h = recursion_from_All (Lacks 34) names (All-weaker IsWord (Lacks 34) (word_lacks 34 refl) names h)

kind_lacks : (k : Kind) → list_any (λ b. b == 32) (kind_word k) ≡ false
kind_lacks kind.Os = refl
kind_lacks other = refl

about_lacks : (k : Kind) → list_any (λ b. b == 34) (kind_about k) ≡ false
about_lacks kind.Os = refl
about_lacks other = refl

said_lacks : (a : Attribute) → list_any (λ b. b == 34) (attribute_about a) ≡ false
said_lacks attribute.RunningTask = refl
said_lacks other = refl

mask_lacks : (first : Bool) (mask : ℕ) (list : List EventDecl) → AllByRecursion (λ (e : EventDecl). IsWord e.name) list → Lacks 34 (mask_text first mask list)
mask_lacks first mask [] h = lacking 34 [] refl
mask_lacks first mask (e ∷ list) h = by (e.mask == mask) (or_lacks first) (mask_lacks false mask list h.1) (mask_lacks first mask list h.1)
  where
    or_lacks : (b : Bool) → Lacks 34 (cond b [] (codes " or "))
    or_lacks true = lacking 34 [] refl
    or_lacks false = lacking 34 (codes " or ") refl

    by : (b : Bool) → Lacks 34 (cond first [] (codes " or ")) → Lacks 34 (mask_text false mask list) → Lacks 34 (mask_text first mask list)
        → Lacks 34 (cond b (cond first [] (codes " or ") ++ e.name ++ mask_text false mask list) (mask_text first mask list))
    by true front taken passed =
        has_in 34 (cond first [] (codes " or ") ++ e.name) (mask_text false mask list) (has_in 34 (cond first [] (codes " or ")) e.name front (word_lacks 34 refl e.name h.0)) taken
    by false front taken passed = passed

-- ---- numbers

small_word : (offset : ℕ) → offset < 1024 → HasNumbers (word offset)
small_word offset h = omega (arith, h)

small_byte : (offset : ℕ) → offset < 96 → HasNumbers (byte offset)
small_byte offset h = omega (arith, h)

one : HasNumbers (Number 1)
one = omega arith

none : HasNumbers (Number 0)
none = omega arith

by_state_numbers : (t : ℕ) (a r s w : Formula) → t < task_limit → HasNumbers a → HasNumbers r → HasNumbers s → HasNumbers w → HasNumbers (by_state t a r s w)
by_state_numbers t a r s w h ha hr hs hw = (
  (small_word (active t) (omega (arith, h)), one),
  ha,
  ((small_byte (enabled_byte t) (omega (arith, h)), one), ((small_byte (pending_byte t) (omega (arith, h)), one), hr, hs), hw),
)

in_use_numbers : (a : ℕ) (f : Formula) → a < alarm_limit → HasNumbers f → HasNumbers (where_in_use a f)
in_use_numbers a f h hf = ((small_word (alarm_left a) (omega (arith, h)), none), none, hf)

greatest_most : (most : ℕ) (list : List ℕ) → AllByRecursion (λ n. n ≤ most) list → greatest list ≤ most
greatest_most most [] h = omega arith
greatest_most most (n ∷ list) h = let rest = greatest_most most list h.1 in let first = h.0 in grind (arith, first, rest)

-- ---- a kernel's table

module _ (config : Config) (range : InRange config) where
  name_word : {X : Type 0} (f : X → List ℕ) (list : List X) → AreNames (map f list) → (i : ℕ) (d : X) → i < length list → IsWord (f (get_or list i d))
  name_word f list names i d inside =
      let long = length-map list f in
      let is = get_or-map f list i d [] inside in
      subst IsWord is ((names.each i [] (omega (arith, inside, long))).word)

  task_word : (t : ℕ) → t < length config.tasks → IsWord (declaration config t).name
  task_word t inside = name_word (λ (d : TaskDecl). d.name) config.tasks range.task_names t undeclared_task inside

  event_words : AllByRecursion (λ (e : EventDecl). IsWord e.name) config.events
  event_words = recursion_from_All (λ (e : EventDecl). IsWord e.name) config.events (name_word (λ (e : EventDecl). e.name) config.events range.event_names)

  -- ---- its kinds

  meaning_is : (a : Attribute) → IsMeaning (meaning config a)
  meaning_is attribute.RunningTask =
      (lacking 34 (codes "NO_TASK") refl, words_lack (object_names config kind.Task) ((names_differ config range).objects_are_words kind.Task))
  meaning_is attribute.TaskState =
      (lacking 34 (codes "RUNNING") refl, (lacking 34 (codes "WAITING") refl, (lacking 34 (codes "READY") refl, (lacking 34 (codes "SUSPENDED") refl, tt))))
  meaning_is attribute.Entered = (lacking 34 (codes "NO") refl, (lacking 34 (codes "YES") refl, tt))
  meaning_is attribute.TaskStack = words_lack (object_names config kind.Stack) ((names_differ config range).objects_are_words kind.Stack)
  meaning_is attribute.AlarmState = (lacking 34 (codes "ALARMSTOP") refl, (lacking 34 (codes "ALARMRUN") refl, tt))
  meaning_is other = tt

  attribute_is : (a : Attribute) → IsWord (attribute_name config a) → IsAttribute (declared_attribute config a)
  attribute_is a word = record {
    meaning = meaning_is a;
    name = word_lacks 44 refl (attribute_name config a) word;
    about = lacking 34 (attribute_about a) (said_lacks a);
  }

  kind_is : (k : Kind) → IsKind (declared_kind config k)
  kind_is k = record {
    word = lacking 32 (kind_word k) (kind_lacks k);
    attributes = recursion_from_All IsAttribute (map (declared_attribute config) (attributes config k))
        (All-map IsAttribute (declared_attribute config) (attributes config k)
        (All-weaker (λ a. IsWord (attribute_name config a)) (λ a. IsAttribute (declared_attribute config a)) attribute_is (attributes config k)
        ((names_differ config range).attributes_are_words k)));
    about = lacking 34 (kind_about k) (about_lacks k);
  }

  kinds_are : (list : List Kind) → AllByRecursion IsKind (map (declared_kind config) list)
  kinds_are [] = tt
  kinds_are (k ∷ list) = (kind_is k, kinds_are list)

  -- whether a kind has the word of this one
  abbrev test : Kind → table.Kind → Bool
  test k other = bytes_eq other.word (kind_word k)

  own : (k : Kind) → bytes_eq (kind_word k) (kind_word k) ≡ true
  own kind.Os = refl
  own other = refl

  passed : (b : Bool) (other k : Kind) (rest : List Kind) → bytes_eq (kind_word other) (kind_word k) ≡ false
      → find (test k) (map (declared_kind config) (cond b (other ∷ rest) rest)) ≡ find (test k) (map (declared_kind config) rest)
  passed true other k rest h = ap (λ (v : Bool). cond v (Some (declared_kind config other)) (find (test k) (map (declared_kind config) rest))) h
  passed false other k rest h = refl

  here : (b : Bool) (k : Kind) (rest : List Kind) → b ≡ true
      → find (test k) (map (declared_kind config) (cond b (k ∷ rest) rest)) ≡ Some (declared_kind config k)
  here true k rest h = ap (λ (v : Bool). cond v (Some (declared_kind config k)) (find (test k) (map (declared_kind config) rest))) (own k)
  here false k rest h = absurd (false≢true h)

  abbrev from_resource : List Kind
  from_resource = kind.Resource ∷ []

  abbrev from_alarm : List Kind
  from_alarm = kind.Alarm ∷ from_resource

  abbrev from_stack : List Kind
  from_stack = kind.Stack ∷ from_alarm

  abbrev from_task : List Kind
  from_task = kind.Task ∷ from_stack

  -- a kind that is kept is found by its word
  present : (p : Kind → Bool) (k : Kind) → p k ≡ true → find (test k) (map (declared_kind config) (filter p all_kinds)) ≡ Some (declared_kind config k)
  present p kind.Os h = here (p kind.Os) kind.Os (filter p from_task) h
  present p kind.Task h =
      passed (p kind.Os) kind.Os kind.Task (filter p from_task) refl ∙ here (p kind.Task) kind.Task (filter p from_stack) h
  present p kind.Stack h =
      passed (p kind.Os) kind.Os kind.Stack (filter p from_task) refl ∙ passed (p kind.Task) kind.Task kind.Stack (filter p from_stack) refl
      ∙ here (p kind.Stack) kind.Stack (filter p from_alarm) h
  present p kind.Alarm h =
      passed (p kind.Os) kind.Os kind.Alarm (filter p from_task) refl ∙ passed (p kind.Task) kind.Task kind.Alarm (filter p from_stack) refl
      ∙ passed (p kind.Stack) kind.Stack kind.Alarm (filter p from_alarm) refl ∙ here (p kind.Alarm) kind.Alarm (filter p from_resource) h
  present p kind.Resource h =
      passed (p kind.Os) kind.Os kind.Resource (filter p from_task) refl ∙ passed (p kind.Task) kind.Task kind.Resource (filter p from_stack) refl
      ∙ passed (p kind.Stack) kind.Stack kind.Resource (filter p from_alarm) refl ∙ passed (p kind.Alarm) kind.Alarm kind.Resource (filter p from_resource) refl
      ∙ here (p kind.Resource) kind.Resource [] h

  -- ---- its values

  mask_small : (e : ℕ) → (event_declaration config e).mask < 2 ^ 32
  mask_small e = ⊎_elim
      (λ inside. let h = (range.masks e no_event inside).1 in omega (arith, h))
      (λ past. let is = ap (λ (d : EventDecl). d.mask) (get_or_past config.events e no_event past) in omega (arith, is))
      (cases_lt e (length config.events))

  priorities : All (λ (d : TaskDecl). d.priority ≤ priority_limit) config.tasks
  priorities i d inside = (range.tasks i d inside).priority

  greatest_priority : (list : List TaskDecl) → All (λ (d : TaskDecl). d.priority ≤ priority_limit) list → greatest (map (λ (d : TaskDecl). d.priority) list) ≤ priority_limit
  greatest_priority list h =
      let numbers = map (λ (d : TaskDecl). d.priority) list in
      greatest_most priority_limit numbers (recursion_from_All (λ n. n ≤ priority_limit) numbers (All-map (λ n. n ≤ priority_limit) (λ (d : TaskDecl). d.priority) list h))

  ceiling_small : (r : ℕ) → ceiling config r ≤ priority_limit
  ceiling_small r = by (r == scheduler_number)
    where
      by : (b : Bool) → cond b (highest_priority config) (greatest (map (λ (d : TaskDecl). d.priority) (filter (λ (d : TaskDecl). is_in r d.resources) config.tasks))) ≤ priority_limit
      by true = greatest_priority config.tasks priorities
      by false = greatest_priority (filter (λ (d : TaskDecl). is_in r d.resources) config.tasks)
          (All-filter (λ (d : TaskDecl). is_in r d.resources) (λ (d : TaskDecl). d.priority ≤ priority_limit) config.tasks priorities)

  action_lacks : (act : Action) → IsAction config act → Lacks 34 (action_text config act)
  action_lacks (action.Activate t) h =
      let name = (declaration config t).name in
      has_in 34 (codes "ActivateTask(" ++ name) (codes ")")
      (has_in 34 (codes "ActivateTask(") name (lacking 34 (codes "ActivateTask(") refl) (word_lacks 34 refl name (task_word t h))) (lacking 34 (codes ")") refl)
  action_lacks (action.Set t mask) h =
      let name = (declaration config t).name in
      let front : List ℕ = codes "SetEvent(" ++ name in
      let named = has_in 34 (codes "SetEvent(") name (lacking 34 (codes "SetEvent(") refl) (word_lacks 34 refl name (task_word t h.0)) in
      let comma = has_in 34 front (codes ", ") named (lacking 34 (codes ", ") refl) in
      let set = mask_text true mask config.events in
      has_in 34 (front ++ codes ", " ++ set) (codes ")") (has_in 34 (front ++ codes ", ") set comma (mask_lacks true mask config.events event_words)) (lacking 34 (codes ")") refl)

  module _ (m : Map) (zones : HasZones m config) where
    abbrev Fits : Extent → Type 0
    Fits e = (words_base ≤ e.base) × (1 ≤ e.len) × (e.base + e.len ≤ memory_end)

    stack_small : (k : ℕ) → ((stack_at m k).base < 2 ^ 32) × ((stack_at m k).len < 2 ^ 32)
    stack_small k = ⊎_elim
        (λ inside. let h = All-drop Fits 3 m.extents zones.apart.inside k no_extent inside in let end = h.2 in (omega (arith, end), omega (arith, end)))
        (λ past.
        let is = get_or_past (all_stacks m) k no_extent past in
        let base = ap (λ (e : Extent). e.base) is in
        let len = ap (λ (e : Extent). e.len) is in
        (omega (arith, base), omega (arith, len)))
        (cases_lt k (length (all_stacks m)))

    task : (t : ℕ) → t < length config.tasks → t < task_limit
    task t h = let few = range.few_tasks in omega (arith, h, few)

    alarm : (a : ℕ) → a < length config.alarms → a < alarm_limit
    alarm a h = let few = range.few_alarms in omega (arith, h, few)

    value_is : (a : Attribute) (n : ℕ) → IsInReach config a n → IsValue (meaning config a) (attribute_value config m a n)
    value_is attribute.RunningTask n h = (small_word cur (omega arith), omega arith)
    value_is (attribute.CounterValue c) n h = let few = range.few_counters in (small_word (counter_value c) (omega (arith, h, few)), omega arith)
    value_is (attribute.EventMask e) n h = (mask_small e, omega arith)
    value_is attribute.StaticPriority n h = let most = priorities n undeclared_task h in (omega (arith, most), omega arith)
    value_is attribute.TaskState n h =
        let t = task n h in
        let number : HasNumbers (Number (n + 1)) = omega (arith, t) in
        let two : HasNumbers (Number 2) = omega arith in
        let three : HasNumbers (Number 3) = omega arith in
        let runs : HasNumbers (Choice (Equal (word cur) (Number (n + 1))) (Number 0) (Number 2)) = ((small_word cur (omega arith), number), none, two) in
        (by_state_numbers n (Choice (Equal (word cur) (Number (n + 1))) (Number 0) (Number 2)) (Number 2) (Number 3) (Number 1) t runs two three one, omega arith)
    value_is attribute.Entered n h = let t = task n h in (((small_word (active n) (omega (arith, t)), one), one, none), omega arith)
    value_is attribute.TaskStack n h =
        let below = number_below config.tasks n h in
        let count = few_stacks config.tasks in
        let few = range.few_tasks in
        (omega (arith, below, count, few), omega arith)
    value_is attribute.Activations n h = (by_state_numbers n (Number 1) (Number 1) (Number 0) (Number 1) (task n h) one one none one, omega arith)
    value_is attribute.Events n h = let t = task n h in (small_word (events n) (omega (arith, t)), omega arith)
    value_is attribute.WaitMask n h =
        let t = task n h in
        (((small_word (active n) (omega (arith, t)), one), none, ((small_byte (enabled_byte n) (omega (arith, t)), one), none, small_word (wait n) (omega (arith, t)))), omega arith)
    value_is attribute.Size n h = ((stack_small n).1, omega arith)
    value_is attribute.BaseAddress n h = ((stack_small n).0, omega arith)
    value_is attribute.Direction n h = lacking 34 (codes "DOWN") refl
    value_is attribute.AlarmTime n h = let a = alarm n h in (small_word (alarm_left n) (omega (arith, a)), omega arith)
    value_is attribute.CycleTime n h =
        let a = alarm n h in (in_use_numbers n (word (alarm_cycle n)) a (small_word (alarm_cycle n) (omega (arith, a))), omega arith)
    value_is attribute.AlarmState n h = (in_use_numbers n (Number 1) (alarm n h) one, omega arith)
    value_is attribute.Expiry n h = action_lacks (alarm_declaration config n).action (range.alarms n undeclared_alarm h).action
    value_is attribute.AlarmCounter n h =
        word_lacks 34 refl _
        (name_word (λ (d : CounterDecl). d.name) config.counters range.counter_names (alarm_declaration config n).counter undeclared_counter (range.alarms n undeclared_alarm h).counter)
    value_is attribute.Ceiling n h = let most = ceiling_small (resource_number config n) in (omega (arith, most), omega arith)

    values_are : (n : ℕ) (list : List Attribute) → AllByRecursion (λ a. IsInReach config a n) list
        → AreValues (map (declared_attribute config) list) (map (named_value config m n) list)
    values_are n [] h = tt
    values_are n (a ∷ list) h = (refl, value_is a n h.0, values_are n list h.1)

    -- ---- its objects

    abbrev kinds : List table.Kind
    kinds = map (declared_kind config) (present_kinds config)

    object_is : (k : Kind) (n : ℕ) (name : List ℕ) → has_object config k ≡ true → IsWord name → n < length (object_names config k)
        → IsObject kinds (numbered_object config m k n name)
    object_is k n name has is_word inside = record {
      kind = declared_kind config k;
      found = present (has_object config) k has;
      word = lacking 32 (kind_word k) (kind_lacks k);
      name = word_lacks 32 refl name is_word;
      values = values_are n (attributes config k) (recursion_from_All (λ a. IsInReach config a n) (attributes config k) (in_reach config n k inside));
    }

    objects_are : (k : Kind) → has_object config k ≡ true → (n : ℕ) (names : List (List ℕ)) → AllByRecursion IsWord names
        → n + length names ≤ length (object_names config k) → AllByRecursion (IsObject kinds) (numbered_objects config m k n names)
    objects_are k has n [] words few = tt
    objects_are k has n (name ∷ names) words few =
        (object_is k n name has words.0 (omega (arith, few)), objects_are k has (n + 1) names words.1 (omega (arith, few)))

    both : (one other : List table.Object) → AllByRecursion (IsObject kinds) one → AllByRecursion (IsObject kinds) other → AllByRecursion (IsObject kinds) (one ++ other)
    both [] other h g = g
    both (o ∷ one) other h g = (h.0, both one other h.1 g)

    all_objects : (list : List Kind) → AllByRecursion (IsObject kinds) (flat_map (objects_of_kind config m) (filter (has_object config) list))
    all_objects [] = tt
    all_objects (k ∷ list) = by (has_object config k) refl (all_objects list)
      where
        by : (b : Bool) → has_object config k ≡ b → AllByRecursion (IsObject kinds) (flat_map (objects_of_kind config m) (filter (has_object config) list))
            → AllByRecursion (IsObject kinds) (flat_map (objects_of_kind config m) (cond b (k ∷ filter (has_object config) list) (filter (has_object config) list)))
        by true has rest =
            both (objects_of_kind config m k) (flat_map (objects_of_kind config m) (filter (has_object config) list))
            (objects_are k has 0 (object_names config k) (recursion_from_All IsWord (object_names config k) ((names_differ config range).objects_are_words k)) (omega arith)) rest
        by false has rest = rest

    pub is_table : IsTable (orti_table config m)
    is_table = record { kinds = kinds_are (present_kinds config); objects = all_objects all_kinds }

pub files_read_back : FilesReadBack
files_read_back oil src text h =
    ap read_file h.has_table.is
    ∙ tables_read_back (orti_table h.config h.has_table.plan) (is_table h.config h.well_formed.in_range.configuration h.has_table.plan h.has_table.planned.zones)
