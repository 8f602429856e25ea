-- What is held where an item goes.
use Rattle.std.proofs.Common.{◌≡◌, ℕ, zero, suc, ◌+◌, ◌<◌, ◌==◌, List, [], ◌∷◌, Bool, true, false, ◌||◌, cond, length, get_or, refl, sym, ap, ◌∙◌, subst, arith, inl, inr}
use Rattle.std.proofs.lemmas.Bool.{eqb-true, eq-eqb}
use Rattle.sloth_base.specs.declared.config.Config.{Config}
use Rattle.sloth_base.specs.declared.app.App.{App}
use Rattle.sloth_base.specs.declared.app.Func.{Func}
use Rattle.sloth_base.specs.declared.app.Label.{Label}
use Rattle.sloth_base.specs.declared.app.Op.{Op}
use Rattle.sloth_base.specs.Named.{function, no_label, label_of}
use Rattle.sloth_base.specs.declared.app.Op.TheVariants as op
use Rattle.code_rules.specs.Code.{IsItem, is_followed, held_after, held_list_at_labels, held_list_at, held_list_fallen_into, is_fallen_into}
use Rattle.osek_scheduler.proofs.Facts.{Facts, GoesTo, LabelsAgree, way_of}
use Rattle.code_rules.specs.WellFormed.{held_list_before}

plus_one : (i : ℕ) → i + 1 ≡ suc i
plus_one i = omega arith

-- where a place is fallen into, its labels say what is held there
labelled_is : (i : ℕ) (held : List ℕ) (labels : List Label) → LabelsAgree i true held labels → held_list_at_labels i labels held ≡ held
labelled_is i held [] a = refl
labelled_is i held (l ∷ labels) a = by (λ h. labelled_is i h labels) (l.item == i) refl
  where
    by : ((h : List ℕ) → LabelsAgree i true h labels → held_list_at_labels i labels h ≡ h) → (b : Bool) → (l.item == i) ≡ b → held_list_at_labels i (l ∷ labels) held ≡ held
    by rest true e =
        let same = a.0 (eqb-true _ _ e) refl in
        let P : Bool → Type 0 = λ c. LabelsAgree i (c || true) (cond c l.holds held) labels in
        let Q : Bool → Type 0 = λ c. held_list_at_labels i labels (cond c l.holds held) ≡ held in
        subst Q (sym e) (rest l.holds (subst P e a.1) ∙ same)
    by rest false e =
        let P : Bool → Type 0 = λ c. LabelsAgree i (c || true) (cond c l.holds held) labels in
        let Q : Bool → Type 0 = λ c. held_list_at_labels i labels (cond c l.holds held) ≡ held in
        subst Q (sym e) (rest held (subst P e a.1))

-- at the place of a label its list is held
labelled_at : (i : ℕ) (into : Bool) (held : List ℕ) (labels : List Label) (k : ℕ) → LabelsAgree i into held labels → k < length labels
    → (get_or labels k no_label).item ≡ i → held_list_at_labels i labels held ≡ (get_or labels k no_label).holds
labelled_at i into held [] k a lt e = absurd (omega (arith, lt))
labelled_at i into held (l ∷ labels) zero a lt e =
    let t = eq-eqb l.item i e in
    let P : Bool → Type 0 = λ c. LabelsAgree i (c || into) (cond c l.holds held) labels in
    let Q : Bool → Type 0 = λ c. held_list_at_labels i labels (cond c l.holds held) ≡ l.holds in
    subst Q (sym t) (labelled_is i l.holds labels (subst P t a.1))
labelled_at i into held (l ∷ labels) (suc k) a lt e = labelled_at i ((l.item == i) || into) (cond (l.item == i) l.holds held) labels k a.1 (omega (arith, lt)) e

held_at_is : (f : Func) (i : ℕ) → held_list_at f i ≡ held_list_at_labels i f.labels (held_list_fallen_into f i)
held_at_is f zero = refl
held_at_is f (suc i) = refl

module _ (config : Config) (app : App) (w : Facts config app) where
  pub held_at_begin : (f : ℕ) → f < length app.funcs → held_list_before app f 0 ≡ []
  held_at_begin f known = labelled_is 0 [] (function app f).labels (w.labels_agree f 0 known)

  -- an item behind which a path goes on
  pub falls_inside : (f i : ℕ) (o : Op) → IsItem app f i o → is_followed o ≡ true → i + 1 < length (function app f).items
  falls_inside f i o is goes = w.stays_inside f i (i + 1) is.known is.inside (inl (ap is_followed is.is ∙ goes, refl))

  pub falls_holds : (f i : ℕ) (o : Op) → IsItem app f i o → is_followed o ≡ true → held_list_before app f (i + 1) ≡ held_after o (held_list_before app f i)
  falls_holds f i o is goes =
      let g = function app f in
      let P : Op → Type 0 = λ x. held_list_at g (suc i) ≡ held_after x (held_list_at g i) in
      let A : Bool → Type 0 = λ b. LabelsAgree (suc i) b (held_list_fallen_into g (suc i)) g.labels in
      let at = i + 1 in
      let agree = w.labels_agree f (suc i) is.known in
      ap (held_list_at g) (plus_one i)
      ∙ subst P is.is (labelled_is (suc i) (held_list_fallen_into g (suc i)) g.labels (subst A (ap is_followed is.is ∙ goes) agree))

  -- an item that goes to a label
  label_named : (f i k : ℕ) → GoesTo app f i k → k < length (function app f).labels
  label_named f i k (inl is) = w.items f i (op.Jump k) is
  label_named f i k (inr is) = (w.items f i (op.Branch is.0 is.1 is.2 k) is.3).2

  pub jumps_inside : (f i k : ℕ) → f < length app.funcs → i < length (function app f).items → GoesTo app f i k
      → (label_of (function app f) k).item < length (function app f).items
  jumps_inside f i k known inside goes = w.stays_inside f i (label_of (function app f) k).item known inside (inr (k, way_of app f i k goes, refl))

  pub jumps_holds : (f i k : ℕ) → f < length app.funcs → GoesTo app f i k → held_list_before app f (label_of (function app f) k).item ≡ held_list_before app f i
  jumps_holds f i k known goes =
      let g = function app f in
      let inside = label_named f i k goes in
      let at = (label_of (function app f) k).item in
      held_at_is g at
      ∙ labelled_at at (is_fallen_into g at) (held_list_fallen_into g at) g.labels k (w.labels_agree f at known) inside refl
      ∙ w.jumps_agree f i k goes
