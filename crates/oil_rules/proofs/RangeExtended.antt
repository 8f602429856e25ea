-- A task that refers to an event has an event.
use Rattle.std.proofs.Common.{◌≡◌, ◌∙◌, ℕ, ◌<◌, Bool, true, false, cond, List, [], ◌∷◌, length, get_or, refl, ap, sym, subst, arith}
use Rattle.std.specs.Prelude.{◌||◌, ◌==◌, not, bit_or, codes}
use Rattle.std.specs.List.{list_any}
use Rattle.std.specs.Str.{bytes_eq}
use Rattle.std.proofs.lemmas.Bool.{ne_eqb, eq-eqb, not-false}
use Rattle.sloth_base.specs.declared.config.EventDecl.{EventDecl}
use Rattle.sloth_base.specs.Order.{NoFault}
use Rattle.oil_parse.specs.declared.tree.OilValue.{OilValue}
use Rattle.oil_parse.specs.declared.tree.OilValue.TheVariants.{Word, Number, Text}
use Rattle.oil_parse.specs.declared.tree.OilObject.{OilObject}
use Rattle.oil_parse.specs.declared.tree.OilTree.{OilTree}
use Rattle.oil_table.specs.declared.table.Attribute.TheVariants.{Event}
use Rattle.oil_table.specs.Table.{is_allowed}
use Rattle.oil_table.specs.Objects.{is_of_kind, is_use, is_used, is_declared, has_scheduler}
use Rattle.oil_table.specs.Events.{is_event, number_masks, mask_by, event_decls, events_of, mask_named, mask_given}
use Rattle.oil_rules.specs.AttributeFaults.{misses_value}
use Rattle.oil_rules.specs.ModelFaults.{ModelFault}
use Rattle.oil_table.specs.Masks.{mask_of_value, listed_mask, event_mask}
use Rattle.text_pieces.proofs.Tests.{none_pass}
use Rattle.oil_rules.proofs.Lists.{found_has, IsFirst, first_of}
use Rattle.oil_rules.proofs.Attributes.{allowed, refers}
use Rattle.oil_rules.proofs.RangeEvents.{masks_positive}
use Rattle.oil_rules.proofs.Unions.{Within, within_both, within_zero}
use Rattle.oil_rules.proofs.RangeUnions.{listed_within, fold_within}

-- an event of a name is declared where an object of that name is
pub declared : (taken : ℕ) (objects : List OilObject) (name : List ℕ) → is_declared objects (codes "EVENT") name ≡ list_any (λ (e : EventDecl). bytes_eq e.name name) (event_decls taken objects)
declared taken [] name = refl
declared taken (o ∷ objects) name = by (declared (bit_or taken (mask_by taken o)) objects name) (declared taken objects name) (is_event o) refl
  where
    by : is_declared objects (codes "EVENT") name ≡ list_any (λ (e : EventDecl). bytes_eq e.name name) (event_decls (bit_or taken (mask_by taken o)) objects)
        → is_declared objects (codes "EVENT") name ≡ list_any (λ (e : EventDecl). bytes_eq e.name name) (event_decls taken objects)
        → (b : Bool) → is_event o ≡ b → is_declared (o ∷ objects) (codes "EVENT") name ≡ list_any (λ (e : EventDecl). bytes_eq e.name name) (event_decls taken (o ∷ objects))
    by first rest true t = rw t (ap (λ b. bytes_eq o.name name || b) first)
    by first rest false t = rw t rest

module _ (tree : OilTree) (none : NoFault (ModelFault tree)) where
  named_positive : (name : List ℕ) → is_declared tree.objects (codes "EVENT") name ≡ true → 0 < mask_named (events_of tree.objects) name
  named_positive name h =
      let f = first_of (λ (e : EventDecl). bytes_eq e.name name) (events_of tree.objects) (sym (declared (number_masks tree.objects) tree.objects name) ∙ h) in
      let m = found_has (λ (e : EventDecl). bytes_eq e.name name) (λ (e : EventDecl). 0 < e.mask) (events_of tree.objects) f.item f.found (masks_positive tree none) in
      subst (λ n. 0 < n) (ap mask_given (sym f.found)) m

  value_positive : (v : OilValue) → is_allowed Event v ≡ true → misses_value tree.objects (has_scheduler tree.objects) Event v ≡ false → 0 < mask_of_value (events_of tree.objects) v
  value_positive (Word w) a m = named_positive w (not-false (is_declared tree.objects (codes "EVENT") w) m)
  value_positive (Number n) a m = cc
  value_positive (Text t) a m = cc

  module _ (i : ℕ) (d : OilObject) (within : i < length tree.objects) (task : is_of_kind (codes "TASK") (get_or tree.objects i d) ≡ true) where
    listed_positive : (f : IsFirst (is_use (codes "EVENT")) (get_or tree.objects i d).attrs) → 0 < listed_mask (events_of tree.objects) (get_or (get_or tree.objects i d).attrs f.place f.item)
    listed_positive f =
        let o = get_or tree.objects i d in
        let a = get_or o.attrs f.place f.item in
        let used : is_use (codes "EVENT") a ≡ true = ap (is_use (codes "EVENT")) f.stands ∙ f.passes in
        let p = value_positive a.value (allowed tree none i d within (codes "TASK") (codes "EVENT") Event refl f.place f.item f.within task used)
        (refers tree none i d within (codes "TASK") (codes "EVENT") Event refl f.place f.item f.within task used) in
        subst (λ b. 0 < cond b (mask_of_value (events_of tree.objects) a.value) 0) (sym used) p

    pub extended : is_used (get_or tree.objects i d).attrs (codes "EVENT") ≡ not (event_mask (events_of tree.objects) (get_or tree.objects i d).attrs == 0)
    extended = by (is_used (get_or tree.objects i d).attrs (codes "EVENT")) refl
      where
        by : (b : Bool) → is_used (get_or tree.objects i d).attrs (codes "EVENT") ≡ b
            → is_used (get_or tree.objects i d).attrs (codes "EVENT") ≡ not (event_mask (events_of tree.objects) (get_or tree.objects i d).attrs == 0)
        by true t =
            let o = get_or tree.objects i d in
            let f = first_of (is_use (codes "EVENT")) o.attrs t in
            let m = listed_mask (events_of tree.objects) (get_or o.attrs f.place f.item) in
            let p = listed_positive f in
            let inside : Within m (event_mask (events_of tree.objects) o.attrs) = listed_within (events_of tree.objects) o.attrs 0 f.place f.item f.within in
            t ∙ sym (ap not (ne_eqb (event_mask (events_of tree.objects) o.attrs) 0 (λ z. let q = within_both m 0 (subst (Within m) z inside) (within_zero m) in omega (arith, p, q))))
        by false t =
            let o = get_or tree.objects i d in
            let unused = none_pass (is_use (codes "EVENT")) o.attrs t in
            let inside : Within (event_mask (events_of tree.objects) o.attrs) 0 = fold_within (events_of tree.objects) o.attrs 0 0 (within_zero 0)
            (λ k e h. subst (λ b. Within (cond b (mask_of_value (events_of tree.objects) (get_or o.attrs k e).value) 0) 0) (sym (unused k e h)) (within_zero 0)) in
            t ∙ sym (ap not (eq-eqb (event_mask (events_of tree.objects) o.attrs) 0 (within_both (event_mask (events_of tree.objects) o.attrs) 0 inside (within_zero (event_mask (events_of tree.objects) o.attrs)))))
