-- The labels at a place, by their numbers.
use Rattle.std.proofs.Common.{◌≡◌, ℕ, zero, suc, ◌<◌, ◌≤◌, Bool, true, false, ◌||◌, List, [], ◌∷◌, ◌++◌, length, take, get_or, cond, Option, Some, None, refl, sym, ap, ◌∙◌, subst, arith, ⊎_elim}
use Rattle.std.specs.Prelude.{◌==◌, is_some}
use Rattle.std.proofs.Math.Seq.{take-suc}
use Rattle.std.proofs.lemmas.List.{take_all}
use Rattle.std.proofs.lemmas.Bool.{eqb-true, eq-eqb, cases_eq}
use Rattle.sloth_base.specs.declared.app.Func.{Func}
use Rattle.sloth_base.specs.declared.app.Label.{Label}
use Rattle.sloth_base.specs.Named.{no_label, label_of}
use Rattle.code_rules.specs.Code.{held_list_at_labels, mark_at_labels, held_list_at, held_list_fallen_into, is_fallen_into, is_entered, held_list_entering}
use Rattle.task_verify.specs.Labels.{last_label_below, list_of, or_else, first_label_below}

pub labelled_snoc : (i : ℕ) (xs : List Label) (l : Label) (held : List ℕ) → held_list_at_labels i (xs ++ l ∷ []) held ≡ cond (l.item == i) l.holds (held_list_at_labels i xs held)
labelled_snoc i [] l held = refl
labelled_snoc i (x ∷ xs) l held = labelled_snoc i xs l (cond (x.item == i) x.holds held)

pub marked_snoc : (i : ℕ) (xs : List Label) (l : Label) (into : Bool) → mark_at_labels i (xs ++ l ∷ []) into ≡ ((l.item == i) || mark_at_labels i xs into)
marked_snoc i [] l into = refl
marked_snoc i (x ∷ xs) l into = marked_snoc i xs l ((x.item == i) || into)

module _ (labels : List Label) (place : ℕ) where
  abbrev at : ℕ → Bool
  at k = (get_or labels k no_label).item == place

  last_at : (k : ℕ) (b : Bool) → at k ≡ b → last_label_below labels place (suc k) ≡ cond b (Some k) (last_label_below labels place k)
  last_at k b e = ap (λ c. cond c (Some k) (last_label_below labels place k)) e

  pub labelled_take : (k : ℕ) (held : List ℕ) → k ≤ length labels → held_list_at_labels place (take k labels) held ≡ list_of labels (last_label_below labels place k) held
  labelled_take zero held l = refl
  labelled_take (suc k) held l =
      ap (λ x. held_list_at_labels place x held) (take-suc labels k no_label (omega (arith, l)))
      ∙ labelled_snoc place (take k labels) (get_or labels k no_label) held
      ∙ by (at k) refl (labelled_take k held (omega (arith, l)))
    where
      by : (b : Bool) → at k ≡ b → held_list_at_labels place (take k labels) held ≡ list_of labels (last_label_below labels place k) held
          → cond (at k) (get_or labels k no_label).holds (held_list_at_labels place (take k labels) held) ≡ list_of labels (last_label_below labels place (suc k)) held
      by true e ih =
          ap (λ c. cond c (get_or labels k no_label).holds (held_list_at_labels place (take k labels) held)) e
          ∙ sym (ap (λ o. list_of labels o held) (last_at k true e))
      by false e ih =
          ap (λ c. cond c (get_or labels k no_label).holds (held_list_at_labels place (take k labels) held)) e
          ∙ ih ∙ sym (ap (λ o. list_of labels o held) (last_at k false e))

  pub marked_take : (k : ℕ) (into : Bool) → k ≤ length labels → mark_at_labels place (take k labels) into ≡ (is_some (last_label_below labels place k) || into)
  marked_take zero into l = refl
  marked_take (suc k) into l =
      ap (λ x. mark_at_labels place x into) (take-suc labels k no_label (omega (arith, l)))
      ∙ marked_snoc place (take k labels) (get_or labels k no_label) into
      ∙ by (at k) refl (marked_take k into (omega (arith, l)))
    where
      by : (b : Bool) → at k ≡ b → mark_at_labels place (take k labels) into ≡ (is_some (last_label_below labels place k) || into)
          → (at k || mark_at_labels place (take k labels) into) ≡ (is_some (last_label_below labels place (suc k)) || into)
      by true e ih = ap (λ c. c || mark_at_labels place (take k labels) into) e ∙ sym (ap (λ o. is_some o || into) (last_at k true e))
      by false e ih = ap (λ c. c || mark_at_labels place (take k labels) into) e ∙ ih ∙ sym (ap (λ o. is_some o || into) (last_at k false e))

  pub last_inside : (k j : ℕ) → last_label_below labels place k ≡ Some j → j < k
  last_inside zero j e = absurd cc
  last_inside (suc k) j e = by (at k) refl (last_inside k j)
    where
      by : (b : Bool) → at k ≡ b → (last_label_below labels place k ≡ Some j → j < k) → j < suc k
      by true g ih = let s : Some k ≡ Some j = sym (last_at k true g) ∙ e in let same : k ≡ j = cc in omega (arith, same)
      by false g ih = let l = ih (sym (last_at k false g) ∙ e) in omega (arith, l)

  -- ---- the first label

  first_none : (k : ℕ) → last_label_below labels place k ≡ None → first_label_below labels place k ≡ None
  first_none zero e = refl
  first_none (suc k) e = by (at k) refl (first_none k)
    where
      by : (b : Bool) → at k ≡ b → (last_label_below labels place k ≡ None → first_label_below labels place k ≡ None) → first_label_below labels place (suc k) ≡ None
      by true g ih = let s : Some k ≡ None = sym (last_at k true g) ∙ e in absurd cc
      by false g ih =
          ap (λ o. or_else o (cond (at k) (Some k) None)) (ih (sym (last_at k false g) ∙ e)) ∙ ap (λ c. cond c (Some k) None) g

  none_first : (k : ℕ) → first_label_below labels place k ≡ None → last_label_below labels place k ≡ None
  none_first zero e = refl
  none_first (suc k) e = by (first_label_below labels place k) refl (at k) refl (none_first k)
    where
      by : (o : Option ℕ) → first_label_below labels place k ≡ o → (b : Bool) → at k ≡ b → (first_label_below labels place k ≡ None → last_label_below labels place k ≡ None)
          → last_label_below labels place (suc k) ≡ None
      by (Some j) g b h ih = let s : Some j ≡ None = sym (ap (λ o. or_else o (cond (at k) (Some k) None)) g) ∙ e in absurd cc
      by None g true h ih =
          let s : Some k ≡ None = sym (ap (λ o. or_else o (cond (at k) (Some k) None)) g ∙ ap (λ c. cond c (Some k) None) h) ∙ e in absurd cc
      by None g false h ih = last_at k false h ∙ ih g

  pub is_first : (n k : ℕ) → k < n → (get_or labels k no_label).item ≡ place → last_label_below labels place k ≡ None → first_label_below labels place n ≡ Some k
  is_first zero k l is none = absurd (omega (arith, l))
  is_first (suc n) k l is none = ⊎_elim
      (λ e.
      let here : at n ≡ true = eq-eqb _ _ (ap (λ x. (get_or labels x no_label).item) (sym e) ∙ is) in
      ap (λ o. or_else o (cond (at n) (Some n) None)) (first_none n (subst (λ (x : ℕ). last_label_below labels place x ≡ None) e none))
      ∙ ap (λ c. cond c (Some n) None) here ∙ ap (λ x. Some x) (sym e))
      (λ ne. ap (λ o. or_else o (cond (at n) (Some n) None)) (is_first n k (omega (arith, l, ne)) is none))
      (cases_eq k n)

  pub first_is : (n k : ℕ) → first_label_below labels place n ≡ Some k → (k < n) × ((get_or labels k no_label).item ≡ place) × (last_label_below labels place k ≡ None)
  first_is zero k e = absurd cc
  first_is (suc n) k e = by (first_label_below labels place n) refl (at n) refl (first_is n k)
    where
      by : (o : Option ℕ) → first_label_below labels place n ≡ o → (b : Bool) → at n ≡ b
          → (first_label_below labels place n ≡ Some k → (k < n) × ((get_or labels k no_label).item ≡ place) × (last_label_below labels place k ≡ None))
          → (k < suc n) × ((get_or labels k no_label).item ≡ place) × (last_label_below labels place k ≡ None)
      by (Some j) g b h ih =
          let s : Some j ≡ Some k = sym (ap (λ o. or_else o (cond (at n) (Some n) None)) g) ∙ e in
          let r = ih (g ∙ s) in (omega (arith, r.0), r.1, r.2)
      by None g true h ih =
          let s : Some n ≡ Some k = sym (ap (λ o. or_else o (cond (at n) (Some n) None)) g ∙ ap (λ c. cond c (Some n) None) h) ∙ e in
          let same : n ≡ k = cc in (
            omega (arith, same),
            ap (λ x. (get_or labels x no_label).item) (sym same) ∙ eqb-true _ _ h,
            subst (λ (x : ℕ). last_label_below labels place x ≡ None) same (none_first n g),
          )
      by None g false h ih =
          let s : None ≡ Some k = sym (ap (λ o. or_else o (cond (at n) (Some n) None)) g ∙ ap (λ c. cond c (Some n) None) h) ∙ e in absurd cc

-- ---- held lists

pub held_is : (f : Func) (i : ℕ) → held_list_at f i ≡ list_of f.labels (last_label_below f.labels i (length f.labels)) (held_list_fallen_into f i)
held_is f i = at i ∙ ap (λ x. held_list_at_labels i x (held_list_fallen_into f i)) (sym (take_all (length f.labels) f.labels (omega arith))) ∙ labelled_take f.labels i (length f.labels) (held_list_fallen_into f i) (omega arith)
  where
    at : (i : ℕ) → held_list_at f i ≡ held_list_at_labels i f.labels (held_list_fallen_into f i)
    at zero = refl
    at (suc i) = refl

pub entering_is : (f : Func) (k : ℕ) → k < length f.labels
    → held_list_entering f k ≡ list_of f.labels (last_label_below f.labels (label_of f k).item k) (held_list_fallen_into f (label_of f k).item)
entering_is f k l = labelled_take f.labels (label_of f k).item k (held_list_fallen_into f (label_of f k).item) (omega (arith, l))

pub entered_is : (f : Func) (k : ℕ) → k < length f.labels
    → is_entered f k ≡ (is_some (last_label_below f.labels (label_of f k).item k) || is_fallen_into f (label_of f k).item)
entered_is f k l = marked_take f.labels (label_of f k).item k (is_fallen_into f (label_of f k).item) (omega (arith, l))
