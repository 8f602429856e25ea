-- What holds of the first use of an attribute in a block of an alarm of a tree without a fault.
use Rattle.std.proofs.Common.{◌≡◌, ◌∙◌, inl, inr, ℕ, ◌<◌, true, false, cond, Option, Some, List, [], length, take, get_or, ap, sym, subst}
use Rattle.std.specs.Prelude.{◌==◌, codes, find}
use Rattle.std.specs.Str.{bytes_eq}
use Rattle.std.proofs.lemmas.Slice.Eq.{bytes_eq-Decides}
use Rattle.std.proofs.lemmas.Bool.{not-false, and_parts, eqb-true}
use Rattle.sloth_base.specs.declared.refusal.Code.TheVariants.{O10, O11, O12}
use Rattle.sloth_base.specs.declared.refusal.Part.TheVariants.{Oil}
use Rattle.sloth_base.specs.Order.{NoFault}
use Rattle.sloth_base.specs.Search.{Somewhere}
use Rattle.sloth_base.proofs.Nowhere.{nowhere, case_false}
use Rattle.oil_parse.specs.declared.tree.OilAttr.{OilAttr}
use Rattle.oil_parse.specs.declared.tree.OilObject.{OilObject}
use Rattle.oil_parse.specs.declared.tree.OilTree.{OilTree}
use Rattle.oil_table.specs.declared.table.Attribute.{Attribute}
use Rattle.oil_table.specs.declared.table.Place.{Place}
use Rattle.oil_table.specs.declared.table.Place.TheVariants as place
use Rattle.oil_table.specs.Table.{place_of, attribute_of, is_allowed, block_place}
use Rattle.oil_table.specs.Objects.{is_of_kind, is_use, has_scheduler}
use Rattle.oil_rules.specs.AttributeFaults.{inner_place, misses_value, refers_to_none, is_refused, RowFault}
use Rattle.oil_table.specs.declared.counter_limits.Limits.{Limits}
use Rattle.oil_table.specs.AlarmCounters.{limits_of}
use Rattle.oil_rules.specs.Blocks.{BlockText, blocks_of, first_block, is_inner_use, is_used_in}
use Rattle.oil_table.specs.Beyond.{is_beyond}
use Rattle.oil_rules.specs.AlarmFaults.{lacks_part, is_unlisted, InsideFault, BlockFault}
use Rattle.oil_rules.specs.ModelFaults.{ModelFault}
use Rattle.oil_rules.proofs.NoFaults.{part_at}
use Rattle.oil_rules.proofs.Lists.{IsFirst, first_of}
use Rattle.oil_rules.proofs.Attributes.{attribute_at}
use Rattle.oil_rules.proofs.InBlocks.{InFirst, in_first, is_block}

some_is : (a b : OilAttr) → Some a ≡ Some b → a ≡ b
some_is a b e = cc

inner_depth : (n : ℕ) → (n == 1) ≡ true → (n == 0) ≡ false
inner_depth n e = ap (λ m. m == 0) (eqb-true n 1 e)

module _ (tree : OilTree) (none : NoFault (ModelFault tree)) (i : ℕ) (d : OilObject) (within : i < length tree.objects)
    (alarm : is_of_kind (codes "ALARM") (get_or tree.objects i d) ≡ true) where
  abbrev pub attrs : List OilAttr
  attrs = (get_or tree.objects i d).attrs

  abbrev pub limits : Limits
  limits = limits_of tree.objects attrs

  pub lacks_none : lacks_part attrs ≡ false
  lacks_none = let o = get_or tree.objects i d in case_false Oil (lacks_part o.attrs) o.line O11 (λ r x. part_at tree none i d within alarm r (inl x))

  module _ (name : List ℕ) (head : OilAttr) (found : find (is_use name) attrs ≡ Some head) where
    abbrev pub inner : List OilAttr
    inner = first_block name attrs

    abbrev pub behind : Place
    behind = block_place place.Alarm head

    no_head : BlockText
    no_head = record { head = head; inner = [] }

    block_free : NoFault (Somewhere (InsideFault tree.objects limits behind inner) inner)
    block_free =
        let b = is_block name attrs head no_head found in
        subst (λ (x : BlockText). NoFault (BlockFault tree.objects limits (take b.at (blocks_of attrs)) x)) b.is
        (nowhere (BlockFault tree.objects limits) (blocks_of attrs) (λ r f. part_at tree none i d within alarm r (inr f)) b.at no_head b.within)

    module _ (word : List ℕ) (row : Attribute) (listed : attribute_of behind word ≡ Some row) (used : is_used_in inner word ≡ true) where
      pub first_inner : IsFirst (is_inner_use word) inner
      first_inner = first_of (is_inner_use word) inner used

      depth_is : (first_inner.item.depth == 1) ≡ true
      depth_is = (and_parts (first_inner.item.depth == 1) (bytes_eq first_inner.item.name word) first_inner.passes).0

      named : first_inner.item.name ≡ word
      named = (bytes_eq-Decides first_inner.item.name word).0 (and_parts (first_inner.item.depth == 1) (bytes_eq first_inner.item.name word) first_inner.passes).1

      among : InFirst (place_of (get_or tree.objects i d).kind) place.Nowhere name attrs first_inner.place first_inner.item
      among = in_first (place_of (get_or tree.objects i d).kind) place.Nowhere name attrs first_inner.place first_inner.item first_inner.within

      opens : inner_place (place_of (get_or tree.objects i d).kind) (take among.at attrs) ≡ behind
      opens =
          let o = get_or tree.objects i d in
          among.opened ∙ ap (block_place (place_of o.kind)) (some_is among.head head (sym among.found ∙ found))
          ∙ ap (λ (k : List ℕ). block_place (place_of k) head) ((bytes_eq-Decides o.kind (codes "ALARM")).0 alarm)

      row_inside : NoFault (RowFault tree.objects (has_scheduler tree.objects) (Some row) (take among.at attrs) first_inner.item)
      row_inside =
          let o = get_or tree.objects i d in
          let x = first_inner.item in
          let before = take among.at attrs in
          let is_row : attribute_of (cond (x.depth == 0) (place_of o.kind) (cond (x.depth == 1) (inner_place (place_of o.kind) before) place.Nowhere)) x.name ≡ Some row =
          ap (λ b. attribute_of (cond b (place_of o.kind) (cond (x.depth == 1) (inner_place (place_of o.kind) before) place.Nowhere)) x.name) (inner_depth x.depth depth_is)
          ∙ ap (λ b. attribute_of (cond b (inner_place (place_of o.kind) before) place.Nowhere) x.name) depth_is
          ∙ ap (λ (p : Place). attribute_of p x.name) opens ∙ ap (attribute_of behind) named ∙ listed in
          subst (λ (q : Option Attribute). NoFault (RowFault tree.objects (has_scheduler tree.objects) q before x)) is_row
          (subst (λ (y : OilAttr). NoFault (RowFault tree.objects (has_scheduler tree.objects)
          (attribute_of (cond (y.depth == 0) (place_of o.kind) (cond (y.depth == 1) (inner_place (place_of o.kind) before) place.Nowhere)) y.name) before y))
          (among.same ∙ first_inner.stands) (attribute_at tree none i d within among.at x among.within))

      pub allowed_inside : is_allowed row first_inner.item.value ≡ true
      allowed_inside =
          let x = first_inner.item in
          not-false (is_allowed row x.value) (case_false Oil (is_refused (Some row) x.value) x.line O12 (λ r f. row_inside r (inr (inr (inr f)))))

      pub refers_inside : misses_value tree.objects (has_scheduler tree.objects) row first_inner.item.value ≡ false
      refers_inside =
          let x = first_inner.item in
          case_false Oil (refers_to_none tree.objects (has_scheduler tree.objects) (Some row) x.value) x.line O10 (λ r f. row_inside r (inr (inr (inl f))))

      inside : NoFault (InsideFault tree.objects limits behind inner (take first_inner.place inner) first_inner.item)
      inside =
          let f = first_inner in
          subst (λ (x : OilAttr). NoFault (InsideFault tree.objects limits behind inner (take f.place inner) x)) f.stands
          (nowhere (InsideFault tree.objects limits behind inner) inner block_free f.place f.item f.within)

      pub is_listed : is_unlisted tree.objects behind inner first_inner.item ≡ false
      is_listed = let x = first_inner.item in case_false Oil (is_unlisted tree.objects behind inner x) x.line O10 (λ r f. inside r (inr (inl f)))

      pub is_inside : is_beyond limits (Some row) first_inner.item ≡ false
      is_inside =
          let x = first_inner.item in
          ap (λ (q : Option Attribute). is_beyond limits q x) (sym (ap (attribute_of behind) named ∙ listed))
          ∙ case_false Oil (is_beyond limits (attribute_of behind x.name) x) x.line O12 (λ r f. inside r (inr (inr f)))
