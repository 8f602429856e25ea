-- What is kept of the references of a task tells the same as all of them.
use Rattle.std.proofs.Common.{◌≡◌, ◌∙◌, ⊎_elim, inl, inr, ◌⊎◌, ℕ, suc, zero, ◌<◌, Bool, true, false, Some, None, List, [], ◌∷◌, ◌++◌, refl, ap, sym, subst, max, arith, true≢false}
use Rattle.std.specs.Prelude.{if◌then◌else◌, ◌||◌, ◌&&◌, ◌==◌, not, bit_and, bit_or, codes}
use Rattle.std.specs.Int.{bit_at}
use Rattle.std.specs.List.{list_any}
use Rattle.std.specs.Str.{bytes_eq}
use Rattle.std.proofs.lemmas.Bool.Decides.{eqb_tells}
use Rattle.std.proofs.lemmas.List.Folds.{list_any-append}
use Rattle.std.proofs.lemmas.Nat.Bits.{bit_at_and, bit_at_or, bit_at-zero, bit_at-lt, same_from_bits}
use Rattle.std.proofs.lemmas.Slice.Eq.{bytes_eq-Decides}
use Rattle.std.proofs.lemmas.Bool.{and_right, and_from, or_right, or_left, or_cases, and_parts}
use mathlib.Core.Bool.{or-false}
use Rattle.sloth_base.specs.declared.config.EventDecl.{EventDecl}
use Rattle.oil_parse.specs.declared.tree.OilValue.{OilValue}
use Rattle.oil_parse.specs.declared.tree.OilValue.TheVariants.{Word, Number, Text}
use Rattle.oil_parse.specs.declared.tree.OilAttr.{OilAttr}
use Rattle.oil_table.specs.Objects.{is_use}
use Rattle.oil_table.specs.Events.{mask_named}
use Rattle.oil_rules.specs.TaskFaults.{have_common_bit, is_event_clash, shares_bit}
use Rattle.oil_table.specs.ListedEvents.{event_word, referred_word}
use Rattle.oil_rules.specs.References.{refers_to_clash}
use Rattle.oil_rules.specs.KeptReferences.{is_to, has_bit, is_clash, AreKept}
use Rattle.text_pieces.proofs.Tests.{and_swap, or_absorbs, any_implies, any_but, any_none}
use Rattle.oil_rules.specs.declared.references.Reference.{Reference}

-- masks with a bit in common
pub common : (a b i : ℕ) → bit_at a i ≡ 1 → bit_at b i ≡ 1 → not (bit_and a b == 0) ≡ true
common a b i p q = ⊎_elim
    (λ e. absurd (let z = bit_at-zero i in let m = bit_at_and a b i ∙ refl in let w = ap (λ n. bit_at n i) e.1 in omega (arith, z, m, w, p, q)))
    (λ e. ap not e.0)
    (eqb_tells (bit_and a b) 0)

-- masks of which no bit is in common
apart : (a b : ℕ) → ((i : ℕ) → bit_at a i ≡ 1 → bit_at b i ≡ 1 → ⊥) → not (bit_and a b == 0) ≡ false
apart a b f =
    let z : bit_and a b ≡ 0 = same_from_bits (bit_and a b) 0 (λ i. let z = bit_at-zero i in let m = bit_at_and a b i in none i (bit_at a i) (bit_at b i) refl refl (bit_at-lt a i) (bit_at-lt b i)) in
    ap (λ n. not (n == 0)) z
  where
    none : (i x y : ℕ) → bit_at a i ≡ x → bit_at b i ≡ y → bit_at a i < 2 → bit_at b i < 2 → bit_at (bit_and a b) i ≡ bit_at 0 i
    none i zero y p q l m = let z = bit_at-zero i in let w = bit_at_and a b i in omega (arith, z, w, p)
    none i (suc x) zero p q l m = let z = bit_at-zero i in let w = bit_at_and a b i in omega (arith, z, w, q)
    none i (suc x) (suc y) p q l m = absurd (f i (omega arith) (omega arith))

-- a bit of a union is one of either
bit_or_split : (a b i : ℕ) → bit_at (bit_or a b) i ≡ 1 → (bit_at a i ≡ 1) ⊎ (bit_at b i ≡ 1)
bit_or_split a b i h = let o = bit_at_or a b i in let l = bit_at-lt a i in let m = bit_at-lt b i in by (bit_at a i) (bit_at b i) refl refl o l m
  where
    by : (x y : ℕ) → bit_at a i ≡ x → bit_at b i ≡ y → bit_at (bit_or a b) i ≡ max (bit_at a i) (bit_at b i) → bit_at a i < 2 → bit_at b i < 2 → (bit_at a i ≡ 1) ⊎ (bit_at b i ≡ 1)
    by zero y p q o l m = inr (omega (arith, p, o, h, m))
    by (suc x) y p q o l m = inl (omega (arith, p, l))

bit_and_left : (a b i : ℕ) → bit_at (bit_and a b) i ≡ 1 → bit_at a i ≡ 1
bit_and_left a b i h = let m = bit_at_and a b i in let l = bit_at-lt a i in omega (arith, m, l, h)

bit_and_right : (a b i : ℕ) → bit_at (bit_and a b) i ≡ 1 → bit_at b i ≡ 1
bit_and_right a b i h = let m = bit_at_and a b i in let l = bit_at-lt b i in omega (arith, m, l, h)

one_true : (n : ℕ) → n ≡ 1 → (n == 1) ≡ true
one_true n e = ap (λ m. m == 1) e

true_one : (n : ℕ) → (n == 1) ≡ true → n ≡ 1
true_one n e = ⊎_elim (λ t. t.1) (λ f. absurd (true≢false (sym e ∙ f.0))) (eqb_tells n 1)

pub same_true : (m n : ℕ) → (m == n) ≡ true → m ≡ n
same_true m n e = ⊎_elim (λ t. t.1) (λ f. absurd (true≢false (sym e ∙ f.0))) (eqb_tells m n)

-- What an attribute says of another event, by the event that it refers to.
module _ (events : List EventDecl) where
  refers_at : (word v : List ℕ) (b : Bool) (x : OilValue) → (if b then referred_word x else None) ≡ Some v → (b && is_event_clash events x (Word word)) ≡ have_common_bit events v word
  refers_at word v true (Word w) e = let g : w ≡ v = cc in ap (λ (y : List ℕ). have_common_bit events y word) g
  refers_at word v true (Number n) e = cc
  refers_at word v true (Text t) e = cc
  refers_at word v false x e = cc

  pub refers : (word v : List ℕ) (attr : OilAttr) → event_word attr ≡ Some v → refers_to_clash events word attr ≡ have_common_bit events v word
  refers word v attr e = refers_at word v (is_use (codes "EVENT") attr) attr.value e

  refers_none_at : (word : List ℕ) (b : Bool) (x : OilValue) → (if b then referred_word x else None) ≡ None → (b && is_event_clash events x (Word word)) ≡ false
  refers_none_at word true (Word w) e = cc
  refers_none_at word true (Number n) e = refl
  refers_none_at word true (Text t) e = refl
  refers_none_at word false x e = refl

  pub refers_none : (word : List ℕ) (attr : OilAttr) → event_word attr ≡ None → refers_to_clash events word attr ≡ false
  refers_none word attr e = refers_none_at word (is_use (codes "EVENT") attr) attr.value e

  module _ (before : List OilAttr) where
    abbrev any_shares : OilValue → Bool
    any_shares x = list_any (λ earlier. is_use (codes "EVENT") earlier && is_event_clash events earlier.value x) before

    shares_at : (v : List ℕ) (b : Bool) (x : OilValue) → (if b then referred_word x else None) ≡ Some v → (b && any_shares x) ≡ list_any (refers_to_clash events v) before
    shares_at v true (Word w) e = let g : w ≡ v = cc in ap (λ (y : List ℕ). list_any (refers_to_clash events y) before) g
    shares_at v true (Number n) e = cc
    shares_at v true (Text t) e = cc
    shares_at v false x e = cc

    pub shares : (v : List ℕ) (attr : OilAttr) → event_word attr ≡ Some v → shares_bit events before attr ≡ list_any (refers_to_clash events v) before
    shares v attr e = shares_at v (is_use (codes "EVENT") attr) attr.value e

    no_clash : (y : OilValue) (b : Bool) (x : OilValue) → (if b then referred_word x else None) ≡ None → b ≡ true → is_event_clash events y x ≡ false
    no_clash y true (Word w) e t = cc
    no_clash (Word v) true (Number n) e t = refl
    no_clash (Number m) true (Number n) e t = refl
    no_clash (Text u) true (Number n) e t = refl
    no_clash (Word v) true (Text s) e t = refl
    no_clash (Number m) true (Text s) e t = refl
    no_clash (Text u) true (Text s) e t = refl
    no_clash y false x e t = cc

    shares_none_at : (b : Bool) (x : OilValue) → (if b then referred_word x else None) ≡ None → (b && any_shares x) ≡ false
    shares_none_at true x e = any_none (λ (earlier : OilAttr). is_use (codes "EVENT") earlier && is_event_clash events earlier.value x) (λ earlier. and_right (is_use (codes "EVENT") earlier) _ (no_clash earlier.value true x e refl)) before
    shares_none_at false x e = refl

    pub shares_none : (attr : OilAttr) → event_word attr ≡ None → shares_bit events before attr ≡ false
    shares_none attr e = shares_none_at (is_use (codes "EVENT") attr) attr.value e

-- One attribute more.
module _ (events : List EventDecl) (attrs : List OilAttr) (attr : OilAttr) (kept : List Reference) (once twice : ℕ) (k : AreKept events attrs kept once twice) where
  any_refers : (word : List ℕ) → list_any (refers_to_clash events word) (attrs ++ attr ∷ []) ≡ (list_any (refers_to_clash events word) attrs || (refers_to_clash events word attr || false))
  any_refers word = list_any-append (refers_to_clash events word) attrs (attr ∷ [])

  -- an attribute whose event clashes with no more than those that are kept do
  told : ((word : List ℕ) → refers_to_clash events word attr ≡ true → list_any (is_clash word (mask_named events word)) kept ≡ true) → AreKept events (attrs ++ attr ∷ []) kept once twice
  told f = record {
    marked = k.marked;
    same = λ word.
        let r = refers_to_clash events word attr in
        let a = list_any (is_clash word (mask_named events word)) kept in
        sym (any_refers word ∙ ap (λ b. b || (r || false)) (sym (k.same word)) ∙ ap (λ b. a || b) (or-false r) ∙ or_absorbs a r (f word));
    held = k.held;
    doubled = k.doubled;
  }

  pub kept_none : event_word attr ≡ None → AreKept events (attrs ++ attr ∷ []) kept once twice
  kept_none e = told (λ word t. absurd (true≢false (sym t ∙ refers_none events word attr e)))

  module _ (v : List ℕ) (mask : ℕ) (word_is : event_word attr ≡ Some v) (mask_is : mask ≡ mask_named events v) where
    -- each bit of the event is one of two others that are kept
    pub kept_bits : bit_and mask twice ≡ mask → AreKept events (attrs ++ attr ∷ []) kept once twice
    kept_bits e = told (λ word t. by word (sym (refers events word v attr word_is) ∙ t) (list_any (is_clash word (mask_named events word)) kept) refl)
      where
        by : (word : List ℕ) → have_common_bit events v word ≡ true → (b : Bool) → list_any (is_clash word (mask_named events word)) kept ≡ b → list_any (is_clash word (mask_named events word)) kept ≡ true
        by word t true q = q
        by word t false q =
            let other = mask_named events word in
            let z = apart mask other (λ i m o.
            let d = bit_and_right mask twice i (ap (λ n. bit_at n i) e ∙ m) in
            let found = any_implies (λ (r : Reference). not (is_to word r) && has_bit i r) (is_clash word other)
            (λ (r : Reference) h.
            and_from (not (bit_and r.mask other == 0)) (not (is_to word r))
            (common r.mask other i (true_one (bit_at r.mask i) (and_parts (not (is_to word r)) (has_bit i r) h).1) o)
            (and_parts (not (is_to word r)) (has_bit i r) h).0)
            kept (k.doubled word i d) in
            true≢false (sym found ∙ q)) in
            absurd (true≢false (sym (and_parts (not (bytes_eq v word)) (not (bit_and (mask_named events v) other == 0)) t).1 ∙ ap (λ n. not (bit_and n other == 0)) (sym mask_is) ∙ z))

    -- the event is kept already
    pub kept_again : list_any (is_to v) kept ≡ true → AreKept events (attrs ++ attr ∷ []) kept once twice
    kept_again e = told (λ word t.
        let other = mask_named events word in
        let h = sym (refers events word v attr word_is) ∙ t in
        any_implies (λ (r : Reference). is_to v r && (r.mask == mask_named events v)) (is_clash word other)
        (λ (r : Reference) p.
        let w : r.word.now ≡ v = (bytes_eq-Decides r.word.now v).0 (and_parts (is_to v r) (r.mask == mask_named events v) p).0 in
        let m : r.mask ≡ mask_named events v = same_true r.mask (mask_named events v) (and_parts (is_to v r) (r.mask == mask_named events v) p).1 in
        and_from (not (bit_and r.mask other == 0)) (not (is_to word r))
        (ap (λ n. not (bit_and n other == 0)) m ∙ (and_parts (not (bytes_eq v word)) (not (bit_and (mask_named events v) other == 0)) h).1)
        (ap (λ (x : List ℕ). not (bytes_eq x word)) w ∙ (and_parts (not (bytes_eq v word)) (not (bit_and (mask_named events v) other == 0)) h).0))
        kept (k.marked v e))

    -- the event is kept from here on
    module _ (reference : Reference) (to : reference.word.now ≡ v) (with_mask : reference.mask ≡ mask) (new : list_any (is_to v) kept ≡ false) where
      any_more : (p : Reference → Bool) → list_any p (kept ++ reference ∷ []) ≡ (list_any p kept || (p reference || false))
      any_more p = list_any-append p kept (reference ∷ [])

      kept_is : (p : Reference → Bool) → list_any p kept ≡ true → list_any p (kept ++ reference ∷ []) ≡ true
      kept_is p e = any_more p ∙ or_left (list_any p kept) (p reference || false) e

      this_is : (p : Reference → Bool) → p reference ≡ true → list_any p (kept ++ reference ∷ []) ≡ true
      this_is p e = any_more p ∙ or_right (list_any p kept) (p reference || false) (or_left (p reference) false e)

      marked_more : (word : List ℕ) → list_any (is_to word) (kept ++ reference ∷ []) ≡ true
          → list_any (λ (r : Reference). is_to word r && (r.mask == mask_named events word)) (kept ++ reference ∷ []) ≡ true
      marked_more word e = ⊎_elim
          (λ t. kept_is (λ (r : Reference). is_to word r && (r.mask == mask_named events word)) (k.marked word t))
          (λ t.
          let u = sym (or-false (is_to word reference)) ∙ t in
          let w : reference.word.now ≡ word = (bytes_eq-Decides reference.word.now word).0 u in
          let m : reference.mask ≡ mask_named events word = with_mask ∙ mask_is ∙ ap (mask_named events) (sym to ∙ w) in
          this_is (λ (r : Reference). is_to word r && (r.mask == mask_named events word))
          (and_from (is_to word reference) (reference.mask == mask_named events word) u (self_true reference.mask (mask_named events word) m)))
          (or_cases (list_any (is_to word) kept) (is_to word reference || false) (sym (any_more (is_to word)) ∙ e))
        where
          self_true : (m n : ℕ) → m ≡ n → (m == n) ≡ true
          self_true m n e = ⊎_elim (λ t. t.0) (λ f. absurd (f.1 e)) (eqb_tells m n)

      doubled_more : (word : List ℕ) (bit : ℕ) → bit_at (bit_or twice (bit_and once mask)) bit ≡ 1
          → list_any (λ (r : Reference). not (is_to word r) && has_bit bit r) (kept ++ reference ∷ []) ≡ true
      doubled_more word bit e = ⊎_elim
          (λ t. kept_is (λ (r : Reference). not (is_to word r) && has_bit bit r) (k.doubled word bit t))
          (λ t. by (bytes_eq v word) refl (bit_and_left once mask bit t) (bit_and_right once mask bit t))
          (bit_or_split twice (bit_and once mask) bit e)
        where
          by : (b : Bool) → bytes_eq v word ≡ b → bit_at once bit ≡ 1 → bit_at mask bit ≡ 1 → list_any (λ (r : Reference). not (is_to word r) && has_bit bit r) (kept ++ reference ∷ []) ≡ true
          by true q o m =
              let w : v ≡ word = (bytes_eq-Decides v word).0 q in
              subst (λ (x : List ℕ). list_any (λ (r : Reference). not (is_to x r) && has_bit bit r) (kept ++ reference ∷ []) ≡ true) w
              (kept_is (λ (r : Reference). not (is_to v r) && has_bit bit r) (any_but (is_to v) (has_bit bit) kept new (k.held bit o)))
          by false q o m =
              this_is (λ (r : Reference). not (is_to word r) && has_bit bit r)
              (and_from (not (is_to word reference)) (has_bit bit reference) (ap (λ (x : List ℕ). not (bytes_eq x word)) to ∙ ap not q) (one_true (bit_at reference.mask bit) (ap (λ n. bit_at n bit) with_mask ∙ m)))

      pub kept_more : AreKept events (attrs ++ attr ∷ []) (kept ++ reference ∷ []) (bit_or once mask) (bit_or twice (bit_and once mask))
      kept_more = record {
        marked = marked_more;
        same = λ word.
            let other = mask_named events word in
            let this : is_clash word other reference ≡ refers_to_clash events word attr =
            ap (λ (x : List ℕ). not (bit_and reference.mask other == 0) && not (bytes_eq x word)) to ∙ ap (λ n. not (bit_and n other == 0) && not (bytes_eq v word)) (with_mask ∙ mask_is)
            ∙ and_swap (not (bit_and (mask_named events v) other == 0)) (not (bytes_eq v word)) ∙ sym (refers events word v attr word_is) in
            any_more (is_clash word other) ∙ ap (λ b. b || (is_clash word other reference || false)) (k.same word)
            ∙ ap (λ b. list_any (refers_to_clash events word) attrs || (b || false)) this ∙ sym (any_refers word);
        held = λ bit e. ⊎_elim
            (λ t. kept_is (has_bit bit) (k.held bit t))
            (λ t. this_is (has_bit bit) (one_true (bit_at reference.mask bit) (ap (λ n. bit_at n bit) with_mask ∙ t)))
            (bit_or_split once mask bit e);
        doubled = doubled_more;
      }
