-- The faults of a body are those of its parts.
use Rattle.std.proofs.Common.{◌≡◌, ℕ, ◌<◌, ◌≤◌, true, ◌||◌, ◌⊎◌, inl, inr, ⊎_elim, length, Option, Some, None, refl, sym, ap, ◌∙◌, subst, arith}
use Rattle.std.specs.Prelude.{◌≢◌, is_some}
use Rattle.std.proofs.lemmas.Bool.{cases_lt}
use Rattle.sloth_base.specs.declared.config.Config.{Config}
use Rattle.sloth_base.specs.declared.app.App.{App}
use Rattle.sloth_base.specs.declared.app.Func.{Func}
use Rattle.sloth_base.specs.declared.refusal.Code.{Code}
use Rattle.sloth_base.specs.declared.refusal.Code.TheVariants as code
use Rattle.sloth_base.specs.declared.refusal.Refusal.{Refusal}
use Rattle.sloth_base.specs.Named.{function, item_of, label_of}
use Rattle.code_rules.specs.Code.{held_list_fallen_into, is_fallen_into, held_list_entering, is_entered}
use Rattle.code_rules.specs.WellFormed.{IsBreach, is_access_past, is_uneven, is_mask_past, is_run_out, is_unreached, is_other_list_jump, is_wrong_release, is_second_take, is_leave_with_resource, is_wrong_leave, is_undeclared_use, HasOtherList, falling_in, at_begin, BodyFault, at_header, at_label, at_item, fault_at_line}
use Rattle.task_verify.specs.Cases.{LabelFaults, ItemFaults, PlacesFault, FallFault}
use Rattle.task_verify.proofs.EmptyBodies.{EmptyFault}
use Rattle.task_verify.specs.Labels.{last_label_below, list_of, ArePlaced}
use Rattle.task_verify.proofs.Labelled.{is_first, first_is, entering_is, entered_is}

-- ---- labels that are fallen into

fall_of : (f : Func) (k : ℕ) → k < length f.labels → is_entered f k ≡ true → (label_of f k).holds ≢ held_list_entering f k → last_label_below f.labels (label_of f k).item k ≡ None
    → FallFault f (label_of f k).item (fault_at_line (label_of f k).line code.V7)
fall_of f k l entered differs none =
    let place = (label_of f k).item in
    let into : is_fallen_into f place ≡ true = sym (entered_is f k l ∙ ap (λ o. is_some o || is_fallen_into f place) none) ∙ entered in
    let held : held_list_entering f k ≡ held_list_fallen_into f place = entering_is f k l ∙ ap (λ o. list_of f.labels o (held_list_fallen_into f place)) none in
    (k, is_first f.labels place (length f.labels) k l refl none, ((into, λ e. differs (e ∙ sym held)), refl))

differs_of : (f : Func) (place : ℕ) (r : Refusal) → FallFault f place r
    → (k : ℕ) × (k < length f.labels) × HasOtherList f k × (r ≡ fault_at_line (label_of f k).line code.V7)
differs_of f place r x =
    let k = x.0 in
    let first = first_is f.labels place (length f.labels) k x.1 in
    let none : last_label_below f.labels (label_of f k).item k ≡ None = subst (λ (p : ℕ). last_label_below f.labels p k ≡ None) (sym first.1) first.2 in
    let into : is_fallen_into f (label_of f k).item ≡ true = ap (is_fallen_into f) first.1 ∙ x.2.0.0 in
    let held : held_list_entering f k ≡ held_list_fallen_into f place =
    entering_is f k first.0 ∙ ap (λ o. list_of f.labels o (held_list_fallen_into f (label_of f k).item)) none ∙ ap (held_list_fallen_into f) first.1 in (
      k,
      first.0,
      falling_in (entered_is f k first.0 ∙ ap (λ o. is_some o || is_fallen_into f (label_of f k).item) none ∙ into) (λ e. x.2.0.1 (e ∙ held)),
      x.2.1,
    )

module _ (config : Config) (app : App) (b : ℕ) where
  abbrev pub Parts : Refusal → Type 0
  Parts r = EmptyFault (function app b) r ⊎ (LabelFaults (function app b) r ⊎ (ItemFaults config app b (function app b) r ⊎ PlacesFault app (function app b) r))

  fallen_part : (place : ℕ) (r : Refusal) → place ≤ length (function app b).items → FallFault (function app b) place r → PlacesFault app (function app b) r
  fallen_part place r l x = ⊎_elim
      (λ lt. inl (place, lt, inl x))
      (λ ge. let e : place ≡ length (function app b).items = omega (arith, l, ge) in inr (subst (λ (p : ℕ). FallFault (function app b) p r) e x))
      (cases_lt place (length (function app b).items))

  label_part : ArePlaced (function app b) → (k : ℕ) → k < length (function app b).labels → HasOtherList (function app b) k → Parts (fault_at_line (label_of (function app b) k).line code.V7)
  label_part placed k l (at_begin e n) = inr (inl (k, l, (inr (e, n), refl)))
  label_part placed k l (falling_in entered differs) = by (last_label_below (function app b).labels (label_of (function app b) k).item k) refl
    where
      by : (o : Option ℕ) → last_label_below (function app b).labels (label_of (function app b) k).item k ≡ o → Parts (fault_at_line (label_of (function app b) k).line code.V7)
      by (Some j) e =
          let f = function app b in
          let held = entering_is f k l ∙ ap (λ o. list_of f.labels o (held_list_fallen_into f (label_of f k).item)) e in
          inr (inl (k, l, (inl (j, e, λ same. differs (same ∙ sym held)), refl)))
      by None e =
          let f = function app b in inr (inr (inr (fallen_part (label_of f k).item _ (placed k l) (fall_of f k l entered differs e))))

  item_part : (i : ℕ) (c : Code) → i < length (function app b).items → IsBreach config app b i c → Parts (fault_at_line (item_of (function app b) i).line c)
  item_part i c l (is_access_past x) = inr (inr (inl (i, l, inl (inl (x, refl)))))
  item_part i c l (is_uneven x) = inr (inr (inl (i, l, inl (inr (inl (x, refl))))))
  item_part i c l (is_mask_past x) = inr (inr (inl (i, l, inl (inr (inr (x, refl))))))
  item_part i c l (is_run_out x) = inr (inr (inl (i, l, inr (inl (inl (x, refl))))))
  item_part i c l (is_wrong_leave x) = inr (inr (inl (i, l, inr (inl (inr (inl (x, refl)))))))
  item_part i c l (is_undeclared_use x) = inr (inr (inl (i, l, inr (inl (inr (inr (x, refl)))))))
  item_part i c l (is_unreached x) = inr (inr (inl (i, l, inr (inr (x, refl)))))
  item_part i c l (is_other_list_jump x) = inr (inr (inr (inl (i, l, inr (inl (x, refl))))))
  item_part i c l (is_wrong_release x) = inr (inr (inr (inl (i, l, inr (inr (inl (x, refl)))))))
  item_part i c l (is_second_take x) = inr (inr (inr (inl (i, l, inr (inr (inr (inl (x, refl))))))))
  item_part i c l (is_leave_with_resource x) = inr (inr (inr (inl (i, l, inr (inr (inr (inr (x, refl))))))))

  pub to_parts : ArePlaced (function app b) → (r : Refusal) → BodyFault config app b r → Parts r
  to_parts placed r (at_header e) = inl (e, refl)
  to_parts placed r (at_label k l differs) = label_part placed k l differs
  to_parts placed r (at_item i c l breaks) = item_part i c l breaks

  -- ---- the other way

  at : (i : ℕ) (c : Code) (r : Refusal) → i < length (function app b).items → IsBreach config app b i c → r ≡ fault_at_line (item_of (function app b) i).line c → BodyFault config app b r
  at i c r l breaks e = subst (BodyFault config app b) (sym e) (at_item i c l breaks)

  fall_back : (place : ℕ) (r : Refusal) → FallFault (function app b) place r → BodyFault config app b r
  fall_back place r x = let y = differs_of (function app b) place r x in subst (BodyFault config app b) (sym y.3) (at_label y.0 y.1 y.2)

  pub from_parts : (r : Refusal) → Parts r → BodyFault config app b r
  from_parts r (inl x) = subst (BodyFault config app b) (sym x.1) (at_header x.0)
  from_parts r (inr (inl (k, l, (inl (j, e, differs), q)))) =
      let f = function app b in
      let held = entering_is f k l ∙ ap (λ o. list_of f.labels o (held_list_fallen_into f (label_of f k).item)) e in
      subst (BodyFault config app b) (sym q)
      (at_label k l
      (falling_in (entered_is f k l ∙ ap (λ o. is_some o || is_fallen_into f (label_of f k).item) e) (λ same. differs (same ∙ held))))
  from_parts r (inr (inl (k, l, (inr z, q)))) = subst (BodyFault config app b) (sym q) (at_label k l (at_begin z.0 z.1))
  from_parts r (inr (inr (inl (i, l, inl (inl x))))) = at i code.V2 r l (is_access_past x.0) x.1
  from_parts r (inr (inr (inl (i, l, inl (inr (inl x)))))) = at i code.V3 r l (is_uneven x.0) x.1
  from_parts r (inr (inr (inl (i, l, inl (inr (inr x)))))) = at i code.V4 r l (is_mask_past x.0) x.1
  from_parts r (inr (inr (inl (i, l, inr (inl (inl x)))))) = at i code.V5 r l (is_run_out x.0) x.1
  from_parts r (inr (inr (inl (i, l, inr (inl (inr (inl x))))))) = at i code.V11 r l (is_wrong_leave x.0) x.1
  from_parts r (inr (inr (inl (i, l, inr (inl (inr (inr x))))))) = at i code.V12 r l (is_undeclared_use x.0) x.1
  from_parts r (inr (inr (inl (i, l, inr (inr x))))) = at i code.V6 r l (is_unreached x.0) x.1
  from_parts r (inr (inr (inr (inl (i, l, inl x))))) = fall_back i r x
  from_parts r (inr (inr (inr (inl (i, l, inr (inl x)))))) = at i code.V7 r l (is_other_list_jump x.0) x.1
  from_parts r (inr (inr (inr (inl (i, l, inr (inr (inl x))))))) = at i code.V8 r l (is_wrong_release x.0) x.1
  from_parts r (inr (inr (inr (inl (i, l, inr (inr (inr (inl x)))))))) = at i code.V9 r l (is_second_take x.0) x.1
  from_parts r (inr (inr (inr (inl (i, l, inr (inr (inr (inr x)))))))) = at i code.V10 r l (is_leave_with_resource x.0) x.1
  from_parts r (inr (inr (inr (inr x)))) = fall_back (length (function app b).items) r x
