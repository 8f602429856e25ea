-- What is held at the items of a body whose labels have the right lists.
use Rattle.std.proofs.Common.{◌≡◌, ℕ, zero, suc, ◌<◌, ◌≤◌, Bool, true, false, ◌||◌, List, [], ◌∷◌, length, take, cond, Some, refl, sym, ap, ◌∙◌, arith, ⊎_elim}
use Rattle.std.specs.Prelude.{◌==◌}
use Rattle.std.proofs.Math.Seq.{take-suc}
use Rattle.std.proofs.lemmas.List.{take_all}
use Rattle.std.proofs.lemmas.Bool.{eqb-true, eq-eqb, cases_eq}
use mathlib.Core.Bool.{or-true}
use Rattle.sloth_base.specs.declared.app.Func.{Func}
use Rattle.sloth_base.specs.declared.app.Label.{Label}
use Rattle.sloth_base.specs.Named.{no_label, label_of, item_of}
use Rattle.code_rules.specs.Code.{held_list_at_labels, mark_at_labels, held_list_at, held_after, held_list_fallen_into, is_followed, way, is_fallen_into, is_entered, held_list_entering}
use Rattle.task_verify.proofs.Labelled.{labelled_snoc, marked_snoc}
use Rattle.holds_infer.specs.RightLists.{HasRightLists}

marked_true : (i : ℕ) (xs : List Label) → mark_at_labels i xs true ≡ true
marked_true i [] = refl
marked_true i (x ∷ xs) = ap (mark_at_labels i xs) (or-true (x.item == i)) ∙ marked_true i xs

at_place : (f : Func) (i : ℕ) → held_list_at f i ≡ held_list_at_labels i (take (length f.labels) f.labels) (held_list_fallen_into f i)
at_place f i = here i ∙ ap (λ x. held_list_at_labels i x (held_list_fallen_into f i)) (sym (take_all (length f.labels) f.labels (omega arith)))
  where
    here : (i : ℕ) → held_list_at f i ≡ held_list_at_labels i f.labels (held_list_fallen_into f i)
    here zero = refl
    here (suc i) = refl

module _ (f : Func) (right : HasRightLists f) where
  -- label m, where it stands at place p
  abbrev at : ℕ → ℕ → Bool
  at p m = (label_of f m).item == p

  entering : (p m : ℕ) → at p m ≡ true → held_list_entering f m ≡ held_list_at_labels p (take m f.labels) (held_list_fallen_into f p)
  entering p m e = ap (λ a. held_list_at_labels a (take m f.labels) (held_list_fallen_into f a)) (eqb-true (label_of f m).item p e)

  entered : (p m : ℕ) → at p m ≡ true → is_entered f m ≡ mark_at_labels p (take m f.labels) (is_fallen_into f p)
  entered p m e = ap (λ a. mark_at_labels a (take m f.labels) (is_fallen_into f a)) (eqb-true (label_of f m).item p e)

  -- the labels at a place that is fallen into keep the list
  fallen_stays : (p m : ℕ) → m ≤ length f.labels → is_fallen_into f p ≡ true → held_list_at_labels p (take m f.labels) (held_list_fallen_into f p) ≡ held_list_fallen_into f p
  fallen_stays p zero l into = refl
  fallen_stays p (suc m) l into =
      ap (λ x. held_list_at_labels p x (held_list_fallen_into f p)) (take-suc f.labels m no_label (omega (arith, l)))
      ∙ labelled_snoc p (take m f.labels) (label_of f m) (held_list_fallen_into f p)
      ∙ by (at p m) refl (fallen_stays p m (omega (arith, l)) into)
    where
      by : (b : Bool) → at p m ≡ b → held_list_at_labels p (take m f.labels) (held_list_fallen_into f p) ≡ held_list_fallen_into f p
          → cond (at p m) (label_of f m).holds (held_list_at_labels p (take m f.labels) (held_list_fallen_into f p)) ≡ held_list_fallen_into f p
      by false e ih = ap (λ c. cond c (label_of f m).holds (held_list_at_labels p (take m f.labels) (held_list_fallen_into f p))) e ∙ ih
      by true e ih =
          ap (λ c. cond c (label_of f m).holds (held_list_at_labels p (take m f.labels) (held_list_fallen_into f p))) e
          ∙ right.falling m (omega (arith, l)) (entered p m e ∙ ap (mark_at_labels p (take m f.labels)) into ∙ marked_true p (take m f.labels))
          ∙ entering p m e ∙ ih

  -- a label before it at the same place marks the place
  marks : (k m : ℕ) (into : Bool) → k < m → m ≤ length f.labels → mark_at_labels (label_of f k).item (take m f.labels) into ≡ true
  marks k zero into l n = absurd (omega (arith, l))
  marks k (suc m) into l n =
      ap (λ x. mark_at_labels (label_of f k).item x into) (take-suc f.labels m no_label (omega (arith, n)))
      ∙ marked_snoc (label_of f k).item (take m f.labels) (label_of f m) into
      ∙ ⊎_elim
      (λ same. ap (λ b. b || mark_at_labels (label_of f k).item (take m f.labels) into) (eq-eqb _ _ (ap (λ x. (label_of f x).item) (sym same))))
      (λ other. ap (λ b. at (label_of f k).item m || b) (marks k m into (omega (arith, l, other)) (omega (arith, n))) ∙ or-true (at (label_of f k).item m))
      (cases_eq k m)

  -- the labels behind a label at its place have its list
  label_own : (k m : ℕ) (held : List ℕ) → k ≡ m → cond (at (label_of f k).item m) (label_of f m).holds (held_list_at_labels (label_of f k).item (take m f.labels) held) ≡ (label_of f k).holds
  label_own k m held same =
      ap (λ c. cond c (label_of f m).holds (held_list_at_labels (label_of f k).item (take m f.labels) held)) (eq-eqb _ _ (ap (λ x. (label_of f x).item) (sym same)))
      ∙ ap (λ x. (label_of f x).holds) (sym same)

  label_later : (k m : ℕ) (held : List ℕ) → k < m → suc m ≤ length f.labels
      → ((x : List ℕ) → held_list_at_labels (label_of f k).item (take m f.labels) x ≡ (label_of f k).holds)
      → (b : Bool) → at (label_of f k).item m ≡ b
      → cond (at (label_of f k).item m) (label_of f m).holds (held_list_at_labels (label_of f k).item (take m f.labels) held) ≡ (label_of f k).holds
  label_later k m held less n ih false e =
      ap (λ c. cond c (label_of f m).holds (held_list_at_labels (label_of f k).item (take m f.labels) held)) e ∙ ih held
  label_later k m held less n ih true e =
      let p = (label_of f k).item in
      ap (λ c. cond c (label_of f m).holds (held_list_at_labels p (take m f.labels) held)) e
      ∙ right.falling m (omega (arith, n)) (entered p m e ∙ marks k m (is_fallen_into f p) less (omega (arith, n)))
      ∙ entering p m e ∙ ih (held_list_fallen_into f p)

  label_stays : (k m : ℕ) → k < m → m ≤ length f.labels → (held : List ℕ) → held_list_at_labels (label_of f k).item (take m f.labels) held ≡ (label_of f k).holds
  label_stays k zero l n held = absurd (omega (arith, l))
  label_stays k (suc m) l n held =
      ap (λ x. held_list_at_labels (label_of f k).item x held) (take-suc f.labels m no_label (omega (arith, n)))
      ∙ labelled_snoc (label_of f k).item (take m f.labels) (label_of f m) held
      ∙ ⊎_elim (label_own k m held)
      (λ other. let less : k < m = omega (arith, l, other) in label_later k m held less n (λ x. label_stays k m less (omega (arith, n)) x) (at (label_of f k).item m) refl)
      (cases_eq k m)

  -- ---- what is held

  pub held_first : held_list_at f 0 ≡ []
  held_first = at_place f 0 ∙ fallen_stays 0 (length f.labels) (omega arith) refl

  pub held_falls : (i : ℕ) → is_followed (item_of f i).op ≡ true → held_list_at f (suc i) ≡ held_after (item_of f i).op (held_list_at f i)
  held_falls i into = at_place f (suc i) ∙ fallen_stays (suc i) (length f.labels) (omega arith) into

  pub held_of_label : (k : ℕ) → k < length f.labels → held_list_at f (label_of f k).item ≡ (label_of f k).holds
  held_of_label k l = at_place f (label_of f k).item ∙ label_stays k (length f.labels) l (omega arith) (held_list_fallen_into f (label_of f k).item)

  pub held_turns : (i k : ℕ) → i < length f.items → way (item_of f i).op ≡ Some k → held_list_at f (label_of f k).item ≡ held_list_at f i
  held_turns i k l e = held_of_label k (right.labels i l k e) ∙ right.turning i k l e
