-- The events of a tree without a fault.
use Rattle.std.proofs.Common.{◌≡◌, ◌∙◌, inl, inr, ℕ, ◌<◌, Bool, true, false, cond, Option, Some, None, List, [], ◌∷◌, length, take, drop, get_or, suc, ◌+◌, ⊎_elim, add-one, refl, ap, sym, subst}
use Rattle.std.specs.Prelude.{◌&&◌, ◌||◌, not, nat_lt, ◌==◌, bit_and, bit_or, codes, All, map, filter, find, is_none, unwrap_or}
use Rattle.std.specs.Str.{bytes_eq}
use Rattle.std.proofs.lemmas.Bool.{ltb-true, leb-true, cases_lt, not-false}
use Rattle.std.proofs.lemmas.List.Elements.{All-nil, All-cons}
use Rattle.std.proofs.lemmas.List.Sums.{AllPass-from_list_all, fold_more}
use Rattle.std.proofs.Math.Seq.{drop-cons}
use Rattle.std.proofs.Math.ListN.{drop_of_length-le}
use Rattle.sloth_base.specs.declared.config.EventDecl.{EventDecl}
use Rattle.sloth_base.specs.declared.refusal.Code.TheVariants.{O15}
use Rattle.sloth_base.specs.Order.{NoFault}
use Rattle.oil_parse.specs.declared.tree.OilValue.{OilValue}
use Rattle.oil_parse.specs.declared.tree.OilValue.TheVariants.{Word, Number, Text}
use Rattle.oil_parse.specs.declared.tree.OilAttr.{OilAttr}
use Rattle.oil_parse.specs.declared.tree.OilObject.{OilObject}
use Rattle.oil_parse.specs.declared.tree.OilTree.{OilTree}
use Rattle.oil_table.specs.declared.table.Attribute.TheVariants.{Mask}
use Rattle.oil_table.specs.Table.{is_allowed, is_word}
use Rattle.oil_table.specs.Objects.{is_of_kind, is_use, is_used, is_given, number_of, number_given}
use Rattle.oil_table.specs.Events.{bits, is_event, is_auto, number_mask, number_masks, free_bit, mask_by, taken_more, taken_bits_before, lacks_bit, event_decls, events_of, BitFault}
use Rattle.oil_rules.specs.ModelFaults.{ModelFault}
use Rattle.sloth_base.proofs.Nowhere.{nowhere, case_false}
use Rattle.sloth_base.specs.declared.refusal.Part.TheVariants.{Oil}
use Rattle.oil_rules.proofs.Lists.{found_has, first_of}
use Rattle.oil_rules.proofs.Attributes.{allowed}
use Rattle.oil_rules.proofs.RangeNames.{true_not_false}

-- events have the names of their objects
pub event_names : (taken : ℕ) (objects : List OilObject)
    → map (λ (e : EventDecl). e.name) (event_decls taken objects) ≡ map (λ (o : OilObject). o.name) (filter (is_of_kind (codes "EVENT")) objects)
event_names taken [] = refl
event_names taken (o ∷ objects) = by (event_names (bit_or taken (mask_by taken o)) objects) (event_names taken objects) (is_event o) refl
  where
    by : map (λ (e : EventDecl). e.name) (event_decls (bit_or taken (mask_by taken o)) objects) ≡ map (λ (x : OilObject). x.name) (filter (is_of_kind (codes "EVENT")) objects)
        → map (λ (e : EventDecl). e.name) (event_decls taken objects) ≡ map (λ (x : OilObject). x.name) (filter (is_of_kind (codes "EVENT")) objects)
        → (b : Bool) → is_event o ≡ b
        → map (λ (e : EventDecl). e.name) (event_decls taken (o ∷ objects)) ≡ map (λ (x : OilObject). x.name) (filter (is_of_kind (codes "EVENT")) (o ∷ objects))
    by declared passed true t = rw t (ap (λ names. o.name ∷ names) declared)
    by declared passed false t = rw t passed

heads_same : {X : Type 0} (a b : X) (xs ys : List X) → a ∷ xs ≡ b ∷ ys → a ≡ b
heads_same a b xs ys e = cc

tails_same : {X : Type 0} (a b : X) (xs ys : List X) → a ∷ xs ≡ b ∷ ys → xs ≡ ys
tails_same a b xs ys e = cc

drop_within : {X : Type 0} (xs : List X) (i : ℕ) (x : X) (rest : List X) → drop i xs ≡ x ∷ rest → i < length xs
drop_within {X = X} xs i x rest e = ⊎_elim (λ h. h) (λ h. absurd (empty rest (sym (drop_of_length-le xs {i = i} h) ∙ e))) (cases_lt i (length xs))
  where
    empty : (ys : List X) → [] ≡ x ∷ ys → ⊥
    empty ys q = cc

bits_positive : All (λ bit. nat_lt 0 bit ≡ true) bits
bits_positive = AllPass-from_list_all (nat_lt 0) bits refl

free_positive : (taken : ℕ) → is_none (free_bit taken) ≡ false → 0 < unwrap_or (free_bit taken) 0
unfolding free_bit
free_positive taken e = by (find (λ bit. bit_and taken bit == 0) bits) refl e
  where
    by : (o : Option ℕ) → find (λ bit. bit_and taken bit == 0) bits ≡ o → is_none o ≡ false → 0 < unwrap_or o 0
    by None q f = cc
    by (Some bit) q f = ltb-true 0 bit (found_has (λ b. bit_and taken b == 0) (λ b. nat_lt 0 b ≡ true) bits bit q bits_positive)

-- a mask that the table allows, and that isn't AUTO, is a number and not 0
number_positive : (value : OilValue) → is_allowed Mask value ≡ true → is_word value (codes "AUTO") ≡ false → 0 < unwrap_or (number_of value) 0
number_positive (Word word) a w = true_not_false (bytes_eq word (codes "AUTO")) a w
number_positive (Number number) a w = leb-true 1 number a
number_positive (Text bytes) a w = cc

module _ (tree : OilTree) (none : NoFault (ModelFault tree)) where
  finds_bit : (i : ℕ) (d : OilObject) → i < length tree.objects → lacks_bit (taken_bits_before tree.objects (take i tree.objects)) (get_or tree.objects i d) ≡ false
  finds_bit i d h =
      let o = get_or tree.objects i d in
      case_false Oil (lacks_bit (taken_bits_before tree.objects (take i tree.objects)) o) o.line O15 (nowhere (BitFault tree.objects) tree.objects (λ r f. none r (inl (inr (inl f)))) i d h)

  number_mask_positive : (i : ℕ) (d : OilObject) → i < length tree.objects → is_event (get_or tree.objects i d) ≡ true → is_auto (get_or tree.objects i d) ≡ false
      → 0 < number_mask (get_or tree.objects i d)
  number_mask_positive i d h ev auto =
      let o = get_or tree.objects i d in
      let f = first_of (is_use (codes "MASK")) o.attrs (not-false (is_used o.attrs (codes "MASK")) (first (not (is_used o.attrs (codes "MASK"))) _ auto)) in
      let at : is_use (codes "MASK") (get_or o.attrs f.place f.item) ≡ true = ap (is_use (codes "MASK")) f.stands ∙ f.passes in
      let a = ap (λ (x : OilAttr). is_allowed Mask x.value) (sym f.stands) ∙ allowed tree none i d h (codes "EVENT") (codes "MASK") Mask refl f.place f.item f.within ev at in
      let w : is_word f.item.value (codes "AUTO") ≡ false = ap (λ x. is_given x (codes "AUTO")) (sym f.found) ∙ second (not (is_used o.attrs (codes "MASK"))) _ auto in
      subst (λ (x : Option ℕ). 0 < unwrap_or x 0) (ap number_given (sym f.found)) (number_positive f.item.value a w)
    where
      first : (a b : Bool) → (a || b) ≡ false → a ≡ false
      first true b e = cc
      first false b e = refl

      second : (a b : Bool) → (a || b) ≡ false → b ≡ false
      second true b e = cc
      second false b e = e

  pub mask_positive : (i : ℕ) (d : OilObject) → i < length tree.objects → is_event (get_or tree.objects i d) ≡ true
      → 0 < mask_by (taken_bits_before tree.objects (take i tree.objects)) (get_or tree.objects i d)
  mask_positive i d h ev = by (is_auto (get_or tree.objects i d)) refl
    where
      lacking : (a b c : Bool) → a ≡ true → b ≡ true → (a && (b && c)) ≡ false → c ≡ false
      lacking true true c p q e = e
      lacking false b c p q e = cc
      lacking true false c p q e = cc

      by : (b : Bool) → is_auto (get_or tree.objects i d) ≡ b → 0 < mask_by (taken_bits_before tree.objects (take i tree.objects)) (get_or tree.objects i d)
      by true t = rw t (free_positive (taken_bits_before tree.objects (take i tree.objects))
          (lacking (is_event (get_or tree.objects i d)) (is_auto (get_or tree.objects i d)) _ ev t (finds_bit i d h)))
      by false t = rw t (number_mask_positive i d h ev t)

  positive_from : (rest : List OilObject) (i : ℕ) → drop i tree.objects ≡ rest
      → All (λ (e : EventDecl). 0 < e.mask) (event_decls (taken_bits_before tree.objects (take i tree.objects)) rest)
  positive_from [] i e = All-nil (λ (e : EventDecl). 0 < e.mask)
  positive_from (o ∷ rest) i e = by (positive_from rest (i + 1) behind) (is_event o) refl
    where
      within : i < length tree.objects
      within = drop_within tree.objects i o rest e

      stands : get_or tree.objects i o ≡ o
      stands = heads_same (get_or tree.objects i o) o (drop (suc i) tree.objects) rest (sym (drop-cons tree.objects i o within) ∙ e)

      behind : drop (i + 1) tree.objects ≡ rest
      behind = rw add-one (tails_same (get_or tree.objects i o) o (drop (suc i) tree.objects) rest (sym (drop-cons tree.objects i o within) ∙ e))

      more : taken_bits_before tree.objects (take (i + 1) tree.objects) ≡ taken_more (taken_bits_before tree.objects (take i tree.objects)) o
      more = fold_more taken_more (number_masks tree.objects) tree.objects i o within ∙ ap (taken_more (taken_bits_before tree.objects (take i tree.objects))) stands

      by : All (λ (e : EventDecl). 0 < e.mask) (event_decls (taken_bits_before tree.objects (take (i + 1) tree.objects)) rest) → (b : Bool) → is_event o ≡ b
          → All (λ (e : EventDecl). 0 < e.mask) (event_decls (taken_bits_before tree.objects (take i tree.objects)) (o ∷ rest))
      by ih true t =
          let T = taken_bits_before tree.objects (take i tree.objects) in
          let m : 0 < mask_by T o = subst (λ (x : OilObject). 0 < mask_by T x) stands (mask_positive i o within (ap is_event stands ∙ t)) in
          let next : taken_bits_before tree.objects (take (i + 1) tree.objects) ≡ bit_or T (mask_by T o) = more ∙ ap (λ b. cond b (bit_or T (mask_by T o)) T) t in
          let D : EventDecl = record { name = o.name; mask = mask_by T o } in
          subst (λ b. All (λ (e : EventDecl). 0 < e.mask) (cond b (D ∷ event_decls (bit_or T (mask_by T o)) rest) (event_decls T rest))) (sym t)
          (All-cons (λ (e : EventDecl). 0 < e.mask) D (event_decls (bit_or T (mask_by T o)) rest) m
          (subst (λ n. All (λ (e : EventDecl). 0 < e.mask) (event_decls n rest)) next ih))
      by ih false t =
          let T = taken_bits_before tree.objects (take i tree.objects) in
          let D : EventDecl = record { name = o.name; mask = mask_by T o } in
          let next : taken_bits_before tree.objects (take (i + 1) tree.objects) ≡ T = more ∙ ap (λ b. cond b (bit_or T (mask_by T o)) T) t in
          subst (λ b. All (λ (e : EventDecl). 0 < e.mask) (cond b (D ∷ event_decls (bit_or T (mask_by T o)) rest) (event_decls T rest))) (sym t)
          (subst (λ n. All (λ (e : EventDecl). 0 < e.mask) (event_decls n rest)) next ih)

  -- each event has a bit
  pub masks_positive : All (λ (e : EventDecl). 0 < e.mask) (events_of tree.objects)
  masks_positive = positive_from tree.objects 0 refl
