-- The names of a tree without a fault.
use Rattle.std.proofs.Common.{◌≡◌, ◌∙◌, inl, ℕ, ◌<◌, Bool, true, false, List, [], ◌∷◌, length, take, get_or, refl, sym, subst, IsTrue, arith}
use Rattle.std.specs.Prelude.{◌&&◌, ◌||◌, ◌≢◌, nat_lt, codes, All, AllPairs, map, filter}
use Rattle.std.specs.List.{list_any}
use Rattle.std.specs.Str.{bytes_eq}
use Rattle.std.proofs.lemmas.Bool.{ltb-false, or_parts}
use Rattle.std.proofs.lemmas.Slice.Eq.{bytes_eq-Decides}
use Rattle.std.proofs.lemmas.List.Elements.{All-weaker}
use Rattle.sloth_base.specs.ImageRange.{IsWord, IsName, AreNames}
use Rattle.sloth_base.specs.ConfigRange.{res_scheduler_name}
use Rattle.sloth_base.specs.declared.refusal.Code.TheVariants.{O9}
use Rattle.sloth_base.specs.Order.{NoFault}
use Rattle.oil_parse.specs.declared.tree.OilObject.{OilObject}
use Rattle.oil_parse.specs.declared.tree.OilTree.{OilTree}
use Rattle.oil_table.specs.Objects.{is_of_kind, has_scheduler}
use Rattle.oil_rules.specs.ObjectFaults.{is_double_of, shares_name, is_doubled, is_clock_above, comes_behind}
use Rattle.oil_rules.specs.ModelFaults.{ModelFault}
use Rattle.text_pieces.proofs.Tests.{none_pass, All-kept}
use Rattle.sloth_base.proofs.Nowhere.{case_false}
use Rattle.oil_rules.proofs.NoFaults.{inner_at, not_above}
use Rattle.sloth_base.specs.declared.refusal.Part.TheVariants.{Oil}
use Rattle.sloth_base.specs.Limits.{task_limit, resource_limit, event_limit, name_limit}
use Rattle.oil_rules.proofs.Lists.{pairs_kept}

pub true_not_false : (b : Bool) → b ≡ true → b ≡ false → {A : Type 0} → A
true_not_false b t f = absurd (let q : true ≡ false = sym t ∙ f in no q)
  where
    no : true ≡ false → ⊥
    no e = cc

kinds_eq : (K : List ℕ) (a b : OilObject) → is_of_kind K a ≡ true → is_of_kind K b ≡ true → bytes_eq a.kind b.kind ≡ true
kinds_eq K a b s t = (bytes_eq-Decides a.kind b.kind).1 ((bytes_eq-Decides a.kind K).0 s ∙ sym ((bytes_eq-Decides b.kind K).0 t))

module _ (tree : OilTree) (none : NoFault (ModelFault tree)) where
  not_doubled : (i : ℕ) (d : OilObject) → i < length tree.objects → is_doubled (has_scheduler tree.objects) (take i tree.objects) (get_or tree.objects i d) ≡ false
  not_doubled i d h =
      let o = get_or tree.objects i d in
      case_false Oil (is_doubled (has_scheduler tree.objects) (take i tree.objects) o) o.line O9 (λ r x. inner_at tree none i d h r (inl (inl x)))

  -- a task and a counter before it differ in their names, and a counter and a task before it
  pub names_shared : (i : ℕ) (d : OilObject) → i < length tree.objects → shares_name (take i tree.objects) (get_or tree.objects i d) ≡ false
  names_shared i d h =
      let o = get_or tree.objects i d in
      (or_parts (shares_name (take i tree.objects) o) _ (or_parts (list_any (is_double_of o) (take i tree.objects)) _ (not_doubled i d h)).1).0

  -- two objects of one kind differ in their names
  pub named_apart : (K : List ℕ) (i : ℕ) (d : OilObject) → i < length tree.objects → is_of_kind K (get_or tree.objects i d) ≡ true
      → All (λ o. is_of_kind K o ≡ true → o.name ≢ (get_or tree.objects i d).name) (take i tree.objects)
  named_apart K i d h t =
      let x = get_or tree.objects i d in
      All-weaker (λ o. is_double_of x o ≡ false) (λ o. is_of_kind K o ≡ true → o.name ≢ x.name)
      (λ o f s e. true_not_false (is_double_of x o)
      (both (bytes_eq o.kind x.kind) (bytes_eq o.name x.name) (bytes_eq x.kind (codes "OS")) (kinds_eq K o x s t) ((bytes_eq-Decides o.name x.name).1 e)) f)
      (take i tree.objects)
      (none_pass (is_double_of x) (take i tree.objects) (or_parts (list_any (is_double_of x) (take i tree.objects)) _ (not_doubled i d h)).0)
    where
      both : (a b c : Bool) → a ≡ true → b ≡ true → (a && (b || c)) ≡ true
      both a b c p q = rw (p, q) refl

  names_differ : (K : List ℕ) → AllPairs (λ a b. a ≢ b) (map (λ (o : OilObject). o.name) (filter (is_of_kind K) tree.objects))
  names_differ K = by tree.objects refl
    where
      by : (os : List OilObject) → tree.objects ≡ os → AllPairs (λ a b. a ≢ b) (map (λ (o : OilObject). o.name) (filter (is_of_kind K) tree.objects))
      by [] e = subst (λ (ys : List OilObject). AllPairs (λ a b. a ≢ b) (map (λ (o : OilObject). o.name) (filter (is_of_kind K) ys))) (sym e) (λ i j c h k. absurd (omega arith))
      by (x ∷ os) e = pairs_kept (is_of_kind K) (λ (o : OilObject). o.name) (λ a b. a ≢ b) tree.objects (named_apart K) x

  module _ (words : All (λ (o : OilObject). IsWord o.name) tree.objects) where
    is_name : (i : ℕ) (d : OilObject) → i < length tree.objects → IsName (get_or tree.objects i d).name
    is_name i d h =
        let o = get_or tree.objects i d in
        let front = take i tree.objects in
        let long : nat_lt name_limit (length o.name) ≡ false = (or_parts (is_clock_above front o) _ (or_parts (comes_behind (codes "EVENT") event_limit front o) _
        (or_parts (comes_behind (codes "RESOURCE") resource_limit front o) _ (or_parts (comes_behind (codes "TASK") task_limit front o) _ (not_above tree none i d h)).1).1).1).1 in
        record { word = words i d h; short = ltb-false name_limit (length o.name) long }

    pub are_names : (K : List ℕ) → AreNames (map (λ (o : OilObject). o.name) (filter (is_of_kind K) tree.objects))
    are_names K = record { each = All-kept (is_of_kind K) (λ (o : OilObject). o.name) IsName tree.objects (λ i d h t. is_name i d h); distinct = names_differ K }

  -- no resource has the name RES_SCHEDULER where that resource exists
  pub scheduler_alone : IsTrue (has_scheduler tree.objects) → All (λ (name : List ℕ). name ≢ res_scheduler_name) (map (λ (o : OilObject). o.name) (filter (is_of_kind (codes "RESOURCE")) tree.objects))
  scheduler_alone s = All-kept (is_of_kind (codes "RESOURCE")) (λ (o : OilObject). o.name) (λ (name : List ℕ). name ≢ res_scheduler_name) tree.objects
      (λ i d h t e.
      let o = get_or tree.objects i d in
      let f = (or_parts (shares_name (take i tree.objects) o) _ (or_parts (list_any (is_double_of o) (take i tree.objects)) _ (not_doubled i d h)).1).1 in
      true_not_false (has_scheduler tree.objects && (is_of_kind (codes "RESOURCE") o && bytes_eq o.name (codes "RES_SCHEDULER")))
      (all_three (has_scheduler tree.objects) (is_of_kind (codes "RESOURCE") o) (bytes_eq o.name (codes "RES_SCHEDULER")) s t ((bytes_eq-Decides o.name (codes "RES_SCHEDULER")).1 e)) f)
    where
      all_three : (a b c : Bool) → a ≡ true → b ≡ true → c ≡ true → (a && (b && c)) ≡ true
      all_three a b c p q r = rw (p, q, r) refl
