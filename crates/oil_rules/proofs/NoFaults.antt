-- What holds of each object of a tree without a fault.
use Rattle.std.proofs.Common.{◌≡◌, ◌∙◌, inl, inr, ⊎_elim, ℕ, ◌<◌, ◌≤◌, ◌+◌, Bool, true, false, List, [], ◌∷◌, length, take, get_or, suc, zero, refl, ap, sym, subst, add-one, arith}
use Rattle.std.specs.Prelude.{◌&&◌, ◌==◌, not, codes, count_by, filter}
use Rattle.std.proofs.lemmas.List.Sums.{count_by_more_yes, count_by_more_no, length-filter}
use Rattle.std.proofs.lemmas.List.{length-map}
use Rattle.std.proofs.lemmas.Bool.{eqb-false, cases_lt, or_parts}
use Rattle.std.proofs.Math.Seq.{take-length}
use Rattle.sloth_base.specs.declared.refusal.Code.TheVariants.{O7, O14}
use Rattle.sloth_base.specs.declared.refusal.Refusal.{Refusal}
use Rattle.sloth_base.specs.Order.{NoFault}
use Rattle.sloth_base.proofs.Nowhere.{nowhere, case_false}
use Rattle.sloth_base.specs.declared.refusal.Part.TheVariants.{Oil}
use Rattle.sloth_base.specs.Limits.{task_limit, counter_limit, alarm_limit, resource_limit, event_limit}
use Rattle.oil_parse.specs.declared.tree.OilObject.{OilObject}
use Rattle.oil_parse.specs.declared.tree.OilTree.{OilTree}
use Rattle.oil_table.specs.Table.{place_of, is_nowhere}
use Rattle.oil_table.specs.Objects.{is_of_kind, has_scheduler, names_of}
use Rattle.oil_table.specs.Events.{events_of}
use Rattle.oil_rules.specs.ObjectFaults.{is_known, is_above, is_clock_above, comes_behind}
use Rattle.oil_rules.specs.Configs.{resource_names}
use Rattle.oil_rules.specs.TreeFaults.{KnownObjectFault, ObjectFault}
use Rattle.oil_rules.specs.AlarmFaults.{PartFault, AlarmFault}
use Rattle.oil_rules.specs.ModelFaults.{ModelFault}

lt_of_ne : (a b m : ℕ) → a ≤ b → (a ≡ b → ⊥) → m ≡ a + 1 → m ≤ b
lt_of_ne a b m h ne e = ⊎_elim (λ l. omega (arith, l, e)) (λ l. absurd (ne (omega (arith, h, l)))) (cases_lt a b)

module _ {X : Type 0} (p : X → Bool) (limit : ℕ) (xs : List X) (never : (i : ℕ) (d : X) → i < length xs → (p (get_or xs i d) && (count_by p (take i xs) == limit)) ≡ false) where
  few_before : (i : ℕ) (d : X) → i ≤ length xs → count_by p (take i xs) ≤ limit
  few_before zero d h = omega arith
  few_before (suc i) d h = rw add-one at (by (p (get_or xs i d)) refl (few_before i d (omega arith)))
    where
      within : i < length xs
      within = omega arith

      by : (b : Bool) → p (get_or xs i d) ≡ b → count_by p (take i xs) ≤ limit → count_by p (take (i + 1) xs) ≤ limit
      by false e ih = let m = count_by_more_no p xs i d within e in omega (arith, m, ih)
      by true e ih =
          let m = count_by_more_yes p xs i d within e in
          let n : (count_by p (take i xs) == limit) ≡ false = ap (λ b. b && (count_by p (take i xs) == limit)) (sym e) ∙ never i d within in
          let ne = eqb-false (count_by p (take i xs)) limit n in
          lt_of_ne (count_by p (take i xs)) limit (count_by p (take (i + 1) xs)) ih ne m

-- At most so many elements pass, where none passes behind so many others that do.
pub count_by-limited : {X : Type 0} (p : X → Bool) (limit : ℕ) (xs : List X)
    → ((i : ℕ) (d : X) → i < length xs → (p (get_or xs i d) && (count_by p (take i xs) == limit)) ≡ false) → count_by p xs ≤ limit
count_by-limited p limit [] never = omega arith
count_by-limited p limit (x ∷ xs) never = subst (λ ys. count_by p ys ≤ limit) (take-length (x ∷ xs)) (few_before p limit (x ∷ xs) never (length (x ∷ xs)) x (omega arith))

module _ (tree : OilTree) (none : NoFault (ModelFault tree)) where
  abbrev pub KnownHere : ℕ → OilObject → Refusal → Type 0
  KnownHere i d = KnownObjectFault tree.objects (has_scheduler tree.objects) (events_of tree.objects) (take i tree.objects) (get_or tree.objects i d)

  object_at : (i : ℕ) (d : OilObject) → i < length tree.objects
      → NoFault (ObjectFault tree.objects (has_scheduler tree.objects) (events_of tree.objects) (take i tree.objects) (get_or tree.objects i d))
  object_at i d h =
      nowhere (ObjectFault tree.objects (has_scheduler tree.objects) (events_of tree.objects)) tree.objects (λ r f. none r (inl (inl f))) i d h

  pub known : (i : ℕ) (d : OilObject) → i < length tree.objects → is_known (get_or tree.objects i d) ≡ true
  known i d h =
      let o = get_or tree.objects i d in
      let f : is_nowhere (place_of o.kind) ≡ false = case_false Oil (is_nowhere (place_of o.kind)) o.line O7 (λ r x. object_at i d h r (inl x)) in
      ap not f

  pub inner_at : (i : ℕ) (d : OilObject) → i < length tree.objects → NoFault (KnownHere i d)
  inner_at i d h = λ r x. object_at i d h r (inr (known i d h, x))

  pub not_above : (i : ℕ) (d : OilObject) → i < length tree.objects → is_above (take i tree.objects) (get_or tree.objects i d) ≡ false
  not_above i d h =
      let o = get_or tree.objects i d in
      case_false Oil (is_above (take i tree.objects) o) o.line O14 (λ r x. inner_at i d h r (inl (inr (inr (inr x)))))

  pub few_tasks : count_by (is_of_kind (codes "TASK")) tree.objects ≤ task_limit
  few_tasks = count_by-limited (is_of_kind (codes "TASK")) task_limit tree.objects (λ i d h. (or_parts (comes_behind (codes "TASK") task_limit (take i tree.objects) (get_or tree.objects i d)) _ (not_above i d h)).0)

  pub few_resources : count_by (is_of_kind (codes "RESOURCE")) tree.objects ≤ resource_limit
  few_resources = count_by-limited (is_of_kind (codes "RESOURCE")) resource_limit tree.objects
      (λ i d h. (or_parts (comes_behind (codes "RESOURCE") resource_limit (take i tree.objects) (get_or tree.objects i d)) _ (or_parts (comes_behind (codes "TASK") task_limit (take i tree.objects) (get_or tree.objects i d)) _ (not_above i d h)).1).0)

  pub few_events : count_by (is_of_kind (codes "EVENT")) tree.objects ≤ event_limit
  few_events = count_by-limited (is_of_kind (codes "EVENT")) event_limit tree.objects
      (λ i d h. (or_parts (comes_behind (codes "EVENT") event_limit (take i tree.objects) (get_or tree.objects i d)) _ (or_parts (comes_behind (codes "RESOURCE") resource_limit (take i tree.objects) (get_or tree.objects i d)) _ (or_parts (comes_behind (codes "TASK") task_limit (take i tree.objects) (get_or tree.objects i d)) _ (not_above i d h)).1).1).0)

  clock_not_above : (i : ℕ) (d : OilObject) → i < length tree.objects → is_clock_above (take i tree.objects) (get_or tree.objects i d) ≡ false
  clock_not_above i d h =
      let front = take i tree.objects in
      let o = get_or tree.objects i d in
      (or_parts (is_clock_above front o) _ (or_parts (comes_behind (codes "EVENT") event_limit front o) _ (or_parts (comes_behind (codes "RESOURCE") resource_limit front o) _
      (or_parts (comes_behind (codes "TASK") task_limit front o) _ (not_above i d h)).1).1).1).0

  pub few_counters : count_by (is_of_kind (codes "COUNTER")) tree.objects ≤ counter_limit
  few_counters = count_by-limited (is_of_kind (codes "COUNTER")) counter_limit tree.objects
      (λ i d h. (or_parts (comes_behind (codes "COUNTER") counter_limit (take i tree.objects) (get_or tree.objects i d)) _ (clock_not_above i d h)).0)

  pub few_alarms : count_by (is_of_kind (codes "ALARM")) tree.objects ≤ alarm_limit
  few_alarms = count_by-limited (is_of_kind (codes "ALARM")) alarm_limit tree.objects
      (λ i d h. (or_parts (comes_behind (codes "COUNTER") counter_limit (take i tree.objects) (get_or tree.objects i d)) _ (clock_not_above i d h)).1)

  -- so many objects of a kind have so many names
  pub number_of_names : (kind : List ℕ) → length (names_of kind tree.objects) ≡ count_by (is_of_kind kind) tree.objects
  number_of_names kind = length-map (filter (is_of_kind kind) tree.objects) (λ (o : OilObject). o.name) ∙ length-filter (is_of_kind kind) tree.objects

  -- the blocks of an alarm have no fault
  pub part_at : (i : ℕ) (d : OilObject) → i < length tree.objects → is_of_kind (codes "ALARM") (get_or tree.objects i d) ≡ true → NoFault (PartFault tree.objects (get_or tree.objects i d))
  part_at i d h t = λ r f. nowhere (AlarmFault tree.objects) tree.objects (λ s g. none s (inr g)) i d h r (t, f)

  pub few_names : length (resource_names tree.objects) ≤ resource_limit
  few_names =
      let m = length-map (filter (is_of_kind (codes "RESOURCE")) tree.objects) (λ (o : OilObject). o.name) in
      let f = length-filter (is_of_kind (codes "RESOURCE")) tree.objects in
      let n = few_resources in
      omega (arith, m, f, n)
