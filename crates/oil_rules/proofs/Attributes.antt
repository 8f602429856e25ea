-- What holds of the attributes of an object of a tree without a fault.
use Rattle.std.proofs.Common.{◌≡◌, ◌∙◌, inl, inr, ℕ, ◌<◌, true, false, cond, Some, List, length, take, get_or, ap, subst}
use Rattle.std.specs.Prelude.{◌==◌}
use Rattle.std.specs.Str.{bytes_eq}
use Rattle.std.proofs.lemmas.Slice.Eq.{bytes_eq-Decides}
use Rattle.std.proofs.lemmas.Bool.{not-false, and_parts}
use Rattle.sloth_base.specs.declared.refusal.Code.TheVariants.{O10, O12}
use Rattle.sloth_base.specs.Order.{NoFault}
use Rattle.oil_parse.specs.declared.tree.OilAttr.{OilAttr}
use Rattle.oil_parse.specs.declared.tree.OilObject.{OilObject}
use Rattle.oil_parse.specs.declared.tree.OilTree.{OilTree}
use Rattle.oil_table.specs.declared.table.Attribute.{Attribute}
use Rattle.oil_table.specs.declared.table.Place.TheVariants.{Nowhere}
use Rattle.oil_table.specs.Table.{place_of, attribute_of, is_allowed}
use Rattle.oil_table.specs.Objects.{is_of_kind, is_use, has_scheduler}
use Rattle.oil_rules.specs.AttributeFaults.{inner_place, place_at, misses_value, refers_to_none, is_refused, AttributeFault, RowFault}
use Rattle.oil_rules.specs.ModelFaults.{ModelFault}
use Rattle.sloth_base.proofs.Nowhere.{nowhere, case_false}
use Rattle.oil_rules.proofs.NoFaults.{inner_at}
use Rattle.sloth_base.specs.declared.refusal.Part.TheVariants.{Oil}

pub row_of_use : (kind K name : List ℕ) (before : List OilAttr) (a : OilAttr) → bytes_eq kind K ≡ true → is_use name a ≡ true
    → attribute_of (place_at (place_of kind) before a) a.name ≡ attribute_of (place_of K) name
row_of_use kind K name before a k u =
    let own = (and_parts (a.depth == 0) (bytes_eq a.name name) u).0 in
    let named : a.name ≡ name = (bytes_eq-Decides a.name name).0 (and_parts (a.depth == 0) (bytes_eq a.name name) u).1 in
    let kinds : kind ≡ K = (bytes_eq-Decides kind K).0 k in
    ap (λ b. attribute_of (cond b (place_of kind) (cond (a.depth == 1) (inner_place (place_of kind) before) Nowhere)) a.name) own
    ∙ ap (attribute_of (place_of kind)) named ∙ ap (λ q. attribute_of (place_of q) name) kinds

module _ (tree : OilTree) (none : NoFault (ModelFault tree)) (i : ℕ) (d : OilObject) (within : i < length tree.objects) where
  abbrev pub Here : ℕ → OilAttr → Type 0
  Here k e = NoFault (AttributeFault tree.objects (has_scheduler tree.objects) (place_of (get_or tree.objects i d).kind) (take k (get_or tree.objects i d).attrs) (get_or (get_or tree.objects i d).attrs k e))

  pub attribute_at : (k : ℕ) (e : OilAttr) → k < length (get_or tree.objects i d).attrs → Here k e
  attribute_at k e h =
      nowhere (AttributeFault tree.objects (has_scheduler tree.objects) (place_of (get_or tree.objects i d).kind)) (get_or tree.objects i d).attrs
      (λ r f. inner_at tree none i d within r (inr (inl f))) k e h

  module _ (K name : List ℕ) (row : Attribute) (listed : attribute_of (place_of K) name ≡ Some row) (k : ℕ) (e : OilAttr) (h : k < length (get_or tree.objects i d).attrs)
      (kind : is_of_kind K (get_or tree.objects i d) ≡ true) (used : is_use name (get_or (get_or tree.objects i d).attrs k e) ≡ true) where
    row_here : NoFault (RowFault tree.objects (has_scheduler tree.objects) (Some row) (take k (get_or tree.objects i d).attrs) (get_or (get_or tree.objects i d).attrs k e))
    row_here =
        let o = get_or tree.objects i d in
        let a = get_or o.attrs k e in
        subst (λ q. NoFault (RowFault tree.objects (has_scheduler tree.objects) q (take k o.attrs) a)) (row_of_use o.kind K name (take k o.attrs) a kind used ∙ listed) (attribute_at k e h)

    pub allowed : is_allowed row (get_or (get_or tree.objects i d).attrs k e).value ≡ true
    allowed =
        let a = get_or (get_or tree.objects i d).attrs k e in
        not-false (is_allowed row a.value) (case_false Oil (is_refused (Some row) a.value) a.line O12 (λ r x. row_here r (inr (inr (inr x)))))

    pub refers : misses_value tree.objects (has_scheduler tree.objects) row (get_or (get_or tree.objects i d).attrs k e).value ≡ false
    refers =
        let a = get_or (get_or tree.objects i d).attrs k e in
        case_false Oil (refers_to_none tree.objects (has_scheduler tree.objects) (Some row) a.value) a.line O10 (λ r x. row_here r (inr (inr (inl x))))
