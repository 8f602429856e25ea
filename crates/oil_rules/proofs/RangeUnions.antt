-- The events of a task of a tree without a fault: their masks share no bit, and their union is the task's mask.
use Rattle.std.proofs.Common.{◌≡◌, ◌∙◌, ⊎_elim, ℕ, ◌<◌, Bool, true, false, cond, Some, None, List, [], ◌∷◌, length, take, get_or, suc, zero, refl, ap, sym, subst, arith}
use Rattle.std.specs.Prelude.{◌&&◌, ◌==◌, ◌≢◌, not, bit_and, bit_or, fold, find, map, codes, All, AllPairs}
use Rattle.std.specs.List.{list_any}
use Rattle.std.specs.Str.{bytes_eq}
use Rattle.std.proofs.lemmas.Bool.{eqb-true, cases_lt, not-false, and_parts}
use Rattle.std.proofs.lemmas.List.{length-map, length-take-le, get_or-take, get_or_default}
use Rattle.std.proofs.lemmas.List.Folds.{list_any_at}
use Rattle.std.proofs.lemmas.Slice.Eq.{bytes_eq-Decides}
use Rattle.std.proofs.lemmas.List.Elements.{All-head, All-tail}
use Rattle.sloth_base.specs.declared.config.EventDecl.{EventDecl}
use Rattle.sloth_base.specs.ConfigRange.{IsUnionOf}
use Rattle.oil_parse.specs.declared.tree.OilValue.{OilValue}
use Rattle.oil_parse.specs.declared.tree.OilValue.TheVariants.{Word, Number, Text}
use Rattle.oil_parse.specs.declared.tree.OilAttr.{OilAttr}
use Rattle.oil_table.specs.Table.{is_word}
use Rattle.oil_table.specs.Objects.{is_use}
use Rattle.oil_table.specs.Events.{mask_named, mask_given}
use Rattle.oil_rules.specs.TaskFaults.{have_common_bit, is_event_clash, shares_with, shares_bit}
use Rattle.oil_table.specs.Masks.{mask_of_value, listed_mask, event_mask}
use Rattle.oil_rules.proofs.Lists.{IsFirst, first_of}
use Rattle.text_pieces.proofs.Tests.{none_pass}
use Rattle.oil_rules.proofs.Unions.{Within, within_both, within_zero, within_or, within_left, within_right, and_swapped, union_of, AreApart, union_is, within_union, union_within}

abbrev pub Apart : List EventDecl → Type 0
Apart events = AllPairs (λ (a b : List ℕ). a ≢ b) (map (λ (e : EventDecl). e.name) events)

name_at : (events : List EventDecl) (i : ℕ) (d : EventDecl) (n : List ℕ) → i < length events → get_or (map (λ (e : EventDecl). e.name) events) i n ≡ (get_or events i d).name
name_at [] i d n h = absurd (omega arith)
name_at (e ∷ es) zero d n h = refl
name_at (e ∷ es) (suc i) d n h = name_at es i d n (omega arith)

names_apart : (events : List EventDecl) → Apart events → (i j : ℕ) (d : EventDecl) → i < j → j < length events → (get_or events i d).name ≢ (get_or events j d).name
names_apart events h i j d l k e =
    let m = length-map events (λ (e : EventDecl). e.name) in
    h i j [] l (omega (arith, m, k)) (name_at events i d [] (omega (arith, l, k)) ∙ e ∙ sym (name_at events j d [] k))

rest_apart : (e : EventDecl) (es : List EventDecl) → Apart (e ∷ es) → Apart es
rest_apart e es h = λ i j d l k. h (suc i) (suc j) d (omega arith) (omega arith)

-- the event of a name is the one that has it
pub mask_at : (events : List EventDecl) → Apart events → (i : ℕ) (d : EventDecl) → i < length events → mask_named events (get_or events i d).name ≡ (get_or events i d).mask
mask_at [] h i d l = absurd (omega arith)
mask_at (e ∷ es) h zero d l = ap (λ b. mask_given (cond b (Some e) (find (λ (x : EventDecl). bytes_eq x.name e.name) es))) ((bytes_eq-Decides e.name e.name).1 refl)
mask_at (e ∷ es) h (suc i) d l =
    let x = get_or es i d in
    let differs : bytes_eq e.name x.name ≡ false = not_equal e.name x.name (names_apart (e ∷ es) h 0 (suc i) d (omega arith) l) in
    ap (λ b. mask_given (cond b (Some e) (find (λ (y : EventDecl). bytes_eq y.name x.name) es))) differs ∙ mask_at es (rest_apart e es h) i d (omega arith)
  where
    not_equal : (a b : List ℕ) → a ≢ b → bytes_eq a b ≡ false
    not_equal a b ne = by (bytes_eq a b) refl
      where
        by : (v : Bool) → bytes_eq a b ≡ v → bytes_eq a b ≡ false
        by true t = absurd (ne ((bytes_eq-Decides a b).0 t))
        by false t = t

-- an attribute names an event
abbrev pub names_event : List ℕ → OilAttr → Bool
names_event name a = is_use (codes "EVENT") a && is_word a.value name

abbrev pub chosen : List OilAttr → List ℕ → Bool
chosen attrs name = list_any (names_event name) attrs

value_is : (v : OilValue) (name : List ℕ) → is_word v name ≡ true → v ≡ Word name
value_is (Word w) name t = ap Word ((bytes_eq-Decides w name).0 t)
value_is (Number n) name t = cc
value_is (Text t) name e = cc

-- what an attribute adds is in the whole mask
pub listed_within : (events : List EventDecl) (attrs : List OilAttr) (acc k : ℕ) (d : OilAttr) → k < length attrs
    → Within (listed_mask events (get_or attrs k d)) (fold (λ mask attr. bit_or mask (listed_mask events attr)) acc attrs)
listed_within events [] acc k d h = absurd (omega arith)
listed_within events (a ∷ attrs) acc zero d h = acc_within events attrs (bit_or acc (listed_mask events a)) (listed_mask events a) (within_right (listed_mask events a) acc (listed_mask events a) (λ i. omega arith))
  where
    acc_within : (events : List EventDecl) (attrs : List OilAttr) (acc m : ℕ) → Within m acc → Within m (fold (λ mask attr. bit_or mask (listed_mask events attr)) acc attrs)
    acc_within events [] acc m h = h
    acc_within events (a ∷ attrs) acc m h = acc_within events attrs (bit_or acc (listed_mask events a)) m (within_left m acc (listed_mask events a) h)
listed_within events (a ∷ attrs) acc (suc k) d h = listed_within events attrs (bit_or acc (listed_mask events a)) k d (omega arith)

pub fold_within : (events : List EventDecl) (attrs : List OilAttr) (acc m : ℕ) → Within acc m → All (λ a. Within (listed_mask events a) m) attrs
    → Within (fold (λ mask attr. bit_or mask (listed_mask events attr)) acc attrs) m
fold_within events [] acc m h k = h
fold_within events (a ∷ attrs) acc m h k =
    fold_within events attrs (bit_or acc (listed_mask events a)) m (within_or acc (listed_mask events a) m h (All-head (λ a. Within (listed_mask events a) m) a attrs k))
    (All-tail (λ a. Within (listed_mask events a) m) a attrs k)

module _ (events : List EventDecl) (apart : Apart events) (attrs : List OilAttr)
    (no_shared : (k : ℕ) (d : OilAttr) → k < length attrs → shares_bit events (take k attrs) (get_or attrs k d) ≡ false) where
  listed_named : (a : OilAttr) (name : List ℕ) → names_event name a ≡ true → listed_mask events a ≡ mask_named events name
  listed_named a name t =
      ap (λ b. cond b (mask_of_value events a.value) 0) (and_parts (is_use (codes "EVENT") a) (is_word a.value name) t).0
      ∙ ap (mask_of_value events) (value_is a.value name (and_parts (is_use (codes "EVENT") a) (is_word a.value name) t).1)

  union_in_mask : Within (union_of (chosen attrs) events) (event_mask events attrs)
  union_in_mask = union_within (chosen attrs) events (event_mask events attrs) (λ i d h t.
      let e = get_or events i d in
      let f = first_of (names_event e.name) attrs t in
      let m : listed_mask events (get_or attrs f.place f.item) ≡ e.mask = ap (listed_mask events) f.stands ∙ listed_named f.item e.name f.passes ∙ mask_at events apart i d h in
      subst (λ n. Within n (event_mask events attrs)) m (listed_within events attrs 0 f.place f.item f.within))

  value_within : (k : ℕ) (d : OilAttr) → k < length attrs → is_use (codes "EVENT") (get_or attrs k d) ≡ true → (v : OilValue) → (get_or attrs k d).value ≡ v
      → Within (mask_of_value events v) (union_of (chosen attrs) events)
  value_within k d h u (Number n) e = within_zero (union_of (chosen attrs) events)
  value_within k d h u (Text t) e = within_zero (union_of (chosen attrs) events)
  value_within k d h u (Word w) e = by (list_any (λ (x : EventDecl). bytes_eq x.name w) events) refl
    where
      by : (b : Bool) → list_any (λ (x : EventDecl). bytes_eq x.name w) events ≡ b → Within (mask_named events w) (union_of (chosen attrs) events)
      by false f = subst (λ n. Within n (union_of (chosen attrs) events)) (sym (ap mask_given (nothing_found events (none_pass (λ (x : EventDecl). bytes_eq x.name w) events f)))) (within_zero (union_of (chosen attrs) events))
        where
          nothing_found : (xs : List EventDecl) → All (λ (x : EventDecl). bytes_eq x.name w ≡ false) xs → find (λ (x : EventDecl). bytes_eq x.name w) xs ≡ None
          nothing_found [] q = refl
          nothing_found (x ∷ xs) q = ap (λ b. cond b (Some x) (find (λ (y : EventDecl). bytes_eq y.name w) xs)) (All-head (λ (y : EventDecl). bytes_eq y.name w ≡ false) x xs q)
              ∙ nothing_found xs (All-tail (λ (y : EventDecl). bytes_eq y.name w ≡ false) x xs q)
      by true t =
          let f = first_of (λ (x : EventDecl). bytes_eq x.name w) events t in
          let named : f.item.name ≡ w = (bytes_eq-Decides f.item.name w).0 f.passes in
          let a = get_or attrs k d in
          let names : names_event w a ≡ true = both (is_use (codes "EVENT") a) (is_word a.value w) u (ap (λ v. is_word v w) e ∙ (bytes_eq-Decides w w).1 refl) in
          let is_chosen : chosen attrs (get_or events f.place f.item).name ≡ true = ap (λ (x : EventDecl). chosen attrs x.name) f.stands ∙ ap (chosen attrs) named ∙ list_any_at (names_event w) attrs k d h names in
          let within : Within (get_or events f.place f.item).mask (union_of (chosen attrs) events) = within_union (chosen attrs) events f.place f.item f.within is_chosen in
          subst (λ n. Within n (union_of (chosen attrs) events)) (ap (λ (x : EventDecl). x.mask) f.stands ∙ sym (ap mask_given f.found)) within
        where
          both : (a b : Bool) → a ≡ true → b ≡ true → (a && b) ≡ true
          both a b p q = rw (p, q) refl

  mask_in_union : Within (event_mask events attrs) (union_of (chosen attrs) events)
  mask_in_union = fold_within events attrs 0 (union_of (chosen attrs) events) (within_zero (union_of (chosen attrs) events)) (λ k d h. by k d h (is_use (codes "EVENT") (get_or attrs k d)) refl)
    where
      by : (k : ℕ) (d : OilAttr) → k < length attrs → (b : Bool) → is_use (codes "EVENT") (get_or attrs k d) ≡ b → Within (listed_mask events (get_or attrs k d)) (union_of (chosen attrs) events)
      by k d h true t = subst (λ b. Within (cond b (mask_of_value events (get_or attrs k d).value) 0) (union_of (chosen attrs) events)) (sym t) (value_within k d h t (get_or attrs k d).value refl)
      by k d h false f = subst (λ b. Within (cond b (mask_of_value events (get_or attrs k d).value) 0) (union_of (chosen attrs) events)) (sym f) (within_zero (union_of (chosen attrs) events))

  -- two events that the task lists, at these places
  clash_free : (p q : ℕ) (a b : OilAttr) (m n : List ℕ) → p < q → q < length attrs → get_or attrs p a ≡ a → get_or attrs q b ≡ b → names_event m a ≡ true → names_event n b ≡ true
      → (m ≡ n → ⊥) → bit_and (mask_named events m) (mask_named events n) ≡ 0
  clash_free p q a b m n l h sa sb ta tb ne =
      let used = (and_parts (is_use (codes "EVENT") b) (is_word b.value n) tb).0 in
      let shares : shares_bit events (take q attrs) b ≡ false = ap (shares_bit events (take q attrs)) (sym sb) ∙ no_shared q b h in
      let none : list_any (shares_with events b) (take q attrs) ≡ false = second_false (is_use (codes "EVENT") b) (list_any (shares_with events b) (take q attrs)) used shares in
      let at = none_pass (shares_with events b) (take q attrs) none p a (let e = length-take-le q attrs (omega arith) in omega (arith, l, e)) in
      let with_a : shares_with events b a ≡ false = ap (shares_with events b) (sym sa ∙ sym (get_or-take q attrs p a l)) ∙ at in
      let clash : is_event_clash events a.value b.value ≡ false = second_false (is_use (codes "EVENT") a) (is_event_clash events a.value b.value) (and_parts (is_use (codes "EVENT") a) (is_word a.value m) ta).0 with_a in
      let va : a.value ≡ Word m = value_is a.value m (and_parts (is_use (codes "EVENT") a) (is_word a.value m) ta).1 in
      let vb : b.value ≡ Word n = value_is b.value n (and_parts (is_use (codes "EVENT") b) (is_word b.value n) tb).1 in
      let common : have_common_bit events m n ≡ false = ap (λ v. is_event_clash events v (Word n)) (sym va) ∙ ap (is_event_clash events a.value) (sym vb) ∙ clash in
      let apart_names : not (bytes_eq m n) ≡ true = differ m n ne in
      let test = second_false (not (bytes_eq m n)) (not (bit_and (mask_named events m) (mask_named events n) == 0)) apart_names common in
      eqb-true (bit_and (mask_named events m) (mask_named events n)) 0 (not-false (bit_and (mask_named events m) (mask_named events n) == 0) test)
    where
      second_false : (x y : Bool) → x ≡ true → (x && y) ≡ false → y ≡ false
      second_false true y s t = t
      second_false false y s t = cc

      differ : (x y : List ℕ) → (x ≡ y → ⊥) → not (bytes_eq x y) ≡ true
      differ x y d = by (bytes_eq x y) refl
        where
          by : (v : Bool) → bytes_eq x y ≡ v → not (bytes_eq x y) ≡ true
          by true t = absurd (d ((bytes_eq-Decides x y).0 t))
          by false t = ap not t

  chosen_apart : AllPairs (AreApart (chosen attrs)) events
  chosen_apart i j d l h s t =
      let e = get_or events i d in
      let o = get_or events j d in
      let f = first_of (names_event e.name) attrs s in
      let g = first_of (names_event o.name) attrs t in
      let ne : e.name ≡ o.name → ⊥ = names_apart events apart i j d l h in
      let masks : bit_and (mask_named events e.name) (mask_named events o.name) ≡ 0 → bit_and e.mask o.mask ≡ 0 =
      λ z. ap (λ n. bit_and n o.mask) (sym (mask_at events apart i d (omega (arith, l, h)))) ∙ ap (bit_and (mask_named events e.name)) (sym (mask_at events apart j d h)) ∙ z in
      masks (⊎_elim
      (λ below. clash_free f.place g.place f.item g.item e.name o.name below g.within f.stands g.stands f.passes g.passes ne)
      (λ above. ⊎_elim
      (λ below. and_swapped (mask_named events o.name) (mask_named events e.name)
      (clash_free g.place f.place g.item f.item o.name e.name below f.within g.stands f.stands g.passes f.passes (λ q. ne (sym q))))
      (λ over. absurd (same_place f g ne (omega (arith, above, over))))
      (cases_lt g.place f.place))
      (cases_lt f.place g.place))
    where
      word_same : (x y : List ℕ) → Word x ≡ Word y → x ≡ y
      word_same x y e = cc

      same_place : (f : IsFirst (names_event (get_or events i d).name) attrs) (g : IsFirst (names_event (get_or events j d).name) attrs)
          → ((get_or events i d).name ≡ (get_or events j d).name → ⊥) → f.place ≡ g.place → ⊥
      same_place f g ne q =
          let m = (get_or events i d).name in
          let n = (get_or events j d).name in
          let items : f.item ≡ g.item = sym f.stands ∙ get_or_default attrs f.place f.item g.item f.within ∙ ap (λ k. get_or attrs k g.item) q ∙ g.stands in
          let vf : f.item.value ≡ Word m = value_is f.item.value m (and_parts (is_use (codes "EVENT") f.item) (is_word f.item.value m) f.passes).1 in
          let vg : g.item.value ≡ Word n = value_is g.item.value n (and_parts (is_use (codes "EVENT") g.item) (is_word g.item.value n) g.passes).1 in
          ne (word_same m n (sym vf ∙ ap (λ (a : OilAttr). a.value) items ∙ vg))

  pub is_union : IsUnionOf events (event_mask events attrs)
  is_union = subst (IsUnionOf events) (within_both (union_of (chosen attrs) events) (event_mask events attrs) union_in_mask mask_in_union) (union_is (chosen attrs) events chosen_apart)
