-- The tasks of a tree without a fault.
use Rattle.std.proofs.Common.{◌≡◌, ◌∙◌, inl, inr, ℕ, ◌<◌, ◌≤◌, Bool, true, false, cond, Option, Some, None, List, [], ◌∷◌, length, take, get_or, refl, ap, sym, arith}
use Rattle.std.specs.Prelude.{◌&&◌, ◌==◌, ◌≢◌, not, codes, All, fold, unwrap_or}
use Rattle.std.specs.List.{list_any}
use Rattle.std.specs.Str.{bytes_eq}
use Rattle.std.proofs.lemmas.Bool.{leb-true, eq-eqb, or_parts}
use Rattle.std.proofs.lemmas.List.{get_or-take, length-take-le}
use Rattle.std.proofs.lemmas.List.Elements.{All-nil, All-push}
use Rattle.std.proofs.lemmas.List.Quantifiers.{position-Some}
use Rattle.sloth_base.specs.declared.refusal.Code.TheVariants.{O11, O13, O15}
use Rattle.sloth_base.specs.Order.{NoFault}
use Rattle.oil_parse.specs.declared.tree.OilValue.{OilValue}
use Rattle.oil_parse.specs.declared.tree.OilValue.TheVariants.{Word, Number, Text}
use Rattle.oil_parse.specs.declared.tree.OilAttr.{OilAttr}
use Rattle.oil_parse.specs.declared.tree.OilObject.{OilObject}
use Rattle.oil_parse.specs.declared.tree.OilTree.{OilTree}
use Rattle.oil_table.specs.declared.table.Attribute.TheVariants.{Priority}
use Rattle.oil_table.specs.Table.{is_allowed}
use Rattle.oil_table.specs.Objects.{is_of_kind, is_use, is_used, first_number, number_of, number_given}
use Rattle.oil_table.specs.Events.{events_of}
use Rattle.oil_rules.specs.ObjectFaults.{lacks_task_attribute, lacks_attribute}
use Rattle.oil_rules.specs.TaskFaults.{has_priority, is_taken, repeats_priority, shares_bit, TaskFault}
use Rattle.sloth_base.specs.Options.{is_number}
use Rattle.oil_rules.specs.ModelFaults.{ModelFault}
use Rattle.oil_rules.specs.Configs.{resource_number, listed_resource, with_number, with_resource, resources_of}
use Rattle.sloth_base.proofs.Nowhere.{nowhere, case_false}
use Rattle.oil_rules.proofs.NoFaults.{inner_at}
use Rattle.sloth_base.specs.declared.refusal.Part.TheVariants.{Oil}
use Rattle.sloth_base.specs.Limits.{priority_limit}
use Rattle.text_pieces.proofs.Tests.{none_pass}
use Rattle.oil_rules.proofs.Lists.{IsFirst, first_of}
use Rattle.oil_rules.proofs.Attributes.{allowed}
use Rattle.oil_rules.proofs.RangeNames.{true_not_false}

-- what a value of the table for PRIORITY is
pub record IsPriority (value : OilValue) : Type 0 where
  pub number : ℕ
  pub is : number_of value ≡ Some number
  pub small : number ≤ priority_limit

priority_number : (value : OilValue) → is_allowed Priority value ≡ true → IsPriority value
priority_number (Word word) a = cc
priority_number (Number number) a = record { number = number; is = refl; small = leb-true number priority_limit a }
priority_number (Text bytes) a = cc

-- each resource that a task lists has a name
module _ (names : List (List ℕ)) where
  resource_within : (v : OilValue) (n : ℕ) → resource_number names v ≡ Some n → n < length names
  resource_within (Word w) n e = (position-Some (bytes_eq w) names n [] e).0
  resource_within (Number m) n e = cc
  resource_within (Text t) n e = cc

  listed_within : (a : OilAttr) (n : ℕ) → listed_resource names a ≡ Some n → n < length names
  listed_within a n e = by (is_use (codes "RESOURCE") a) refl
    where
      by : (b : Bool) → is_use (codes "RESOURCE") a ≡ b → n < length names
      by true t = resource_within a.value n (ap (λ b. cond b (resource_number names a.value) None) (sym t) ∙ e)
      by false f = let q : None ≡ Some n = ap (λ b. cond b (resource_number names a.value) None) (sym f) ∙ e in cc

  with_within : (listed : List ℕ) (o : Option ℕ) → ((n : ℕ) → o ≡ Some n → n < length names) → All (λ n. n < length names) listed → All (λ n. n < length names) (with_resource listed o)
  with_within listed None h all = all
  with_within listed (Some n) h all = by (list_any (λ earlier. earlier == n) listed) refl
    where
      by : (b : Bool) → list_any (λ earlier. earlier == n) listed ≡ b → All (λ m. m < length names) (with_number listed n)
      by true t = rw t all
      by false t = rw t (All-push (λ m. m < length names) listed n all (h n refl))

  all_within : (attrs : List OilAttr) (listed : List ℕ) → All (λ n. n < length names) listed
      → All (λ n. n < length names) (fold (λ l a. with_resource l (listed_resource names a)) listed attrs)
  all_within [] listed h = h
  all_within (a ∷ attrs) listed h = all_within attrs (with_resource listed (listed_resource names a)) (with_within listed (listed_resource names a) (listed_within a) h)

  pub resources_within : (attrs : List OilAttr) → All (λ n. n < length names) (resources_of names attrs)
  resources_within attrs = all_within attrs [] (All-nil (λ n. n < length names))

module _ (tree : OilTree) (none : NoFault (ModelFault tree)) (i : ℕ) (d : OilObject) (within : i < length tree.objects) (task : is_of_kind (codes "TASK") (get_or tree.objects i d) ≡ true) where
  has_priority_use : is_used (get_or tree.objects i d).attrs (codes "PRIORITY") ≡ true
  has_priority_use =
      let o = get_or tree.objects i d in
      let f = (or_parts (lacks_task_attribute o) _ (case_false Oil (lacks_attribute o) o.line O11 (λ r x. inner_at tree none i d within r (inl (inr (inl x)))))).0 in
      used (is_of_kind (codes "TASK") o) (is_used o.attrs (codes "PRIORITY")) _ task f
    where
      used : (a b c : Bool) → a ≡ true → (a && not (b && c)) ≡ false → b ≡ true
      used true true c t e = refl
      used true false c t e = cc
      used false b c t e = cc

  pub first_priority : IsFirst (is_use (codes "PRIORITY")) (get_or tree.objects i d).attrs
  first_priority = first_of (is_use (codes "PRIORITY")) (get_or tree.objects i d).attrs has_priority_use

  pub priority_value : IsPriority first_priority.item.value
  priority_value =
      let o = get_or tree.objects i d in
      let f = first_priority in
      priority_number f.item.value (ap (λ (x : OilAttr). is_allowed Priority x.value) (sym f.stands)
      ∙ allowed tree none i d within (codes "TASK") (codes "PRIORITY") Priority refl f.place f.item f.within task (ap (is_use (codes "PRIORITY")) f.stands ∙ f.passes))

  pub priority_is : first_number (get_or tree.objects i d).attrs (codes "PRIORITY") ≡ Some priority_value.number
  priority_is = ap number_given first_priority.found ∙ priority_value.is

  task_fault_free : (k : ℕ) (e : OilAttr) → k < length (get_or tree.objects i d).attrs
      → NoFault (TaskFault (events_of tree.objects) (take i tree.objects) (take k (get_or tree.objects i d).attrs) (get_or (get_or tree.objects i d).attrs k e))
  task_fault_free k e h =
      nowhere (TaskFault (events_of tree.objects) (take i tree.objects)) (get_or tree.objects i d).attrs (λ r f. inner_at tree none i d within r (inr (inr (task, f)))) k e h

  pub no_shared : (k : ℕ) (e : OilAttr) → k < length (get_or tree.objects i d).attrs
      → shares_bit (events_of tree.objects) (take k (get_or tree.objects i d).attrs) (get_or (get_or tree.objects i d).attrs k e) ≡ false
  no_shared k e h =
      let a = get_or (get_or tree.objects i d).attrs k e in
      case_false Oil (shares_bit (events_of tree.objects) (take k (get_or tree.objects i d).attrs) a) a.line O15 (λ r x. task_fault_free k e h r (inr x))

  not_taken : list_any (has_priority priority_value.number) (take i tree.objects) ≡ false
  not_taken =
      let o = get_or tree.objects i d in
      let f = first_priority in
      let a = get_or o.attrs f.place f.item in
      let g = case_false Oil (repeats_priority (take i tree.objects) (take f.place o.attrs) a) a.line O13 (λ r x. task_fault_free f.place f.item f.within r (inl x)) in
      let h : repeats_priority (take i tree.objects) (take f.place o.attrs) f.item ≡ false = ap (repeats_priority (take i tree.objects) (take f.place o.attrs)) (sym f.stands) ∙ g in
      ap (is_taken (take i tree.objects)) (sym priority_value.is)
      ∙ third (is_use (codes "PRIORITY") f.item) (is_used (take f.place o.attrs) (codes "PRIORITY")) (is_taken (take i tree.objects) (number_of f.item.value)) f.passes f.none_before h
    where
      third : (a b c : Bool) → a ≡ true → b ≡ false → ((a && not b) && c) ≡ false → c ≡ false
      third true false c p q e = e
      third true true c p q e = cc
      third false b c p q e = cc

module _ (tree : OilTree) (none : NoFault (ModelFault tree)) where
  -- earlier tasks have other priorities
  pub priorities_apart : (i : ℕ) (d : OilObject) → i < length tree.objects → is_of_kind (codes "TASK") (get_or tree.objects i d) ≡ true
      → All (λ (o : OilObject). is_of_kind (codes "TASK") o ≡ true
      → unwrap_or (first_number o.attrs (codes "PRIORITY")) 0 ≢ unwrap_or (first_number (get_or tree.objects i d).attrs (codes "PRIORITY")) 0) (take i tree.objects)
  priorities_apart i d h t k e l s q =
      let o = get_or (take i tree.objects) k e in
      let m = length-take-le i tree.objects (omega (arith, h)) in
      let same : o ≡ get_or tree.objects k e = get_or-take i tree.objects k e (omega (arith, l, m)) in
      let theirs : first_number o.attrs (codes "PRIORITY") ≡ Some (priority_value tree none k e (omega (arith, l, m, h)) (sym (ap (is_of_kind (codes "TASK")) same) ∙ s)).number =
      ap (λ (x : OilObject). first_number x.attrs (codes "PRIORITY")) same ∙ priority_is tree none k e (omega (arith, l, m, h)) (sym (ap (is_of_kind (codes "TASK")) same) ∙ s) in
      let mine = priority_is tree none i d h t in
      let n = (priority_value tree none k e (omega (arith, l, m, h)) (sym (ap (is_of_kind (codes "TASK")) same) ∙ s)).number in
      let p = (priority_value tree none i d h t).number in
      let equal : n ≡ p = sym (ap (λ x. unwrap_or x 0) theirs) ∙ q ∙ ap (λ x. unwrap_or x 0) mine in
      let free = none_pass (has_priority p) (take i tree.objects) (not_taken tree none i d h t) k e l in
      true_not_false (has_priority p o) (both (is_of_kind (codes "TASK") o) (is_number p (first_number o.attrs (codes "PRIORITY"))) s (ap (is_number p) theirs ∙ eq-eqb n p equal)) free
    where
      both : (a b : Bool) → a ≡ true → b ≡ true → (a && b) ≡ true
      both a b x y = rw (x, y) refl
