-- No counter of a tree without a fault has a task's name.
use Rattle.std.proofs.Common.{◌≡◌, ◌∙◌, ⊎_elim, ℕ, ◌<◌, ◌≤◌, Bool, true, false, List, length, take, get_or, refl, ap, sym, arith}
use Rattle.std.specs.Prelude.{◌&&◌, ◌≢◌, codes, All}
use Rattle.std.specs.Str.{bytes_eq}
use Rattle.std.proofs.lemmas.Bool.{cases_lt, or_parts}
use Rattle.std.proofs.lemmas.List.{get_or-take, length-take-le, get_or_default}
use Rattle.std.proofs.lemmas.Slice.Eq.{bytes_eq-Decides}
use Rattle.sloth_base.specs.ImageRange.{AreNamesApart}
use Rattle.sloth_base.specs.Order.{NoFault}
use Rattle.oil_parse.specs.declared.tree.OilObject.{OilObject}
use Rattle.oil_parse.specs.declared.tree.OilTree.{OilTree}
use Rattle.oil_table.specs.Objects.{is_of_kind, is_declaration, is_declared, names_of}
use Rattle.oil_rules.specs.ModelFaults.{ModelFault}
use Rattle.text_pieces.proofs.Tests.{none_pass, All-kept}
use Rattle.oil_rules.proofs.RangeNames.{true_not_false, names_shared}

behind_true : (a b : Bool) → a ≡ true → (a && b) ≡ false → b ≡ false
behind_true true b t e = e
behind_true false b t e = cc

both : (a b : Bool) → a ≡ true → b ≡ true → (a && b) ≡ true
both a b p q = rw (p, q) refl

module _ (tree : OilTree) (none : NoFault (ModelFault tree)) where
  -- an earlier object of a kind of which none has this name has another
  earlier_apart : (kind : List ℕ) (i : ℕ) (d : OilObject) (j : ℕ) (e : OilObject) → j < i → i < length tree.objects → is_declared (take i tree.objects) kind (get_or tree.objects i d).name ≡ false
      → is_of_kind kind (get_or tree.objects j e) ≡ true → (get_or tree.objects j e).name ≢ (get_or tree.objects i d).name
  earlier_apart kind i d j e l h f s q =
      let x = get_or tree.objects i d in
      let o = get_or (take i tree.objects) j e in
      let m = length-take-le i tree.objects (omega (arith, h)) in
      let same : o ≡ get_or tree.objects j e = get_or-take i tree.objects j e l in
      let free = none_pass (is_declaration kind x.name) (take i tree.objects) f j e (omega (arith, l, m)) in
      true_not_false (is_declaration kind x.name o)
      (ap (is_declaration kind x.name) same
      ∙ both (is_of_kind kind (get_or tree.objects j e)) (bytes_eq (get_or tree.objects j e).name x.name) s ((bytes_eq-Decides (get_or tree.objects j e).name x.name).1 q)) free

  apart : (i : ℕ) (d : OilObject) → i < length tree.objects → is_of_kind (codes "COUNTER") (get_or tree.objects i d) ≡ true → (j : ℕ) (e : OilObject) → j < length tree.objects
      → is_of_kind (codes "TASK") (get_or tree.objects j e) ≡ true → (get_or tree.objects j e).name ≢ (get_or tree.objects i d).name
  apart i d h t j e l s q = ⊎_elim before (λ n. ⊎_elim behind (same n) (cases_lt i j)) (cases_lt j i)
    where
      before : j < i → ⊥
      before n =
          let o = get_or tree.objects i d in
          let f = (or_parts (is_of_kind (codes "TASK") o && is_declared (take i tree.objects) (codes "COUNTER") o.name) _ (names_shared tree none i d h)).1 in
          earlier_apart (codes "TASK") i d j e n h (behind_true (is_of_kind (codes "COUNTER") o) _ t f) s q

      behind : i < j → ⊥
      behind n =
          let o = get_or tree.objects j e in
          let f = (or_parts (is_of_kind (codes "TASK") o && is_declared (take j tree.objects) (codes "COUNTER") o.name) _ (names_shared tree none j e l)).0 in
          earlier_apart (codes "COUNTER") j e i d n l (behind_true (is_of_kind (codes "TASK") o) _ s f) t (sym q)

      same : i ≤ j → j ≤ i → ⊥
      same n m =
          let equal : i ≡ j = omega (arith, n, m) in
          let o = get_or tree.objects i d in
          let here : get_or tree.objects j e ≡ o = ap (λ k. get_or tree.objects k e) (sym equal) ∙ get_or_default tree.objects i e d h in
          let counter : o.kind ≡ codes "COUNTER" = (bytes_eq-Decides o.kind (codes "COUNTER")).0 t in
          let z : true ≡ false = sym s ∙ ap (is_of_kind (codes "TASK")) here ∙ ap (λ (k : List ℕ). bytes_eq k (codes "TASK")) counter in
          cc

  pub counters_apart : AreNamesApart (names_of (codes "COUNTER") tree.objects) (names_of (codes "TASK") tree.objects)
  counters_apart = All-kept (is_of_kind (codes "COUNTER")) (λ (o : OilObject). o.name) (λ (name : List ℕ). All (λ (other : List ℕ). other ≢ name) (names_of (codes "TASK") tree.objects)) tree.objects
      (λ i d h t. All-kept (is_of_kind (codes "TASK")) (λ (o : OilObject). o.name) (λ (other : List ℕ). other ≢ (get_or tree.objects i d).name) tree.objects (apart i d h t))
