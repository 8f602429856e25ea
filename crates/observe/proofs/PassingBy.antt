-- A step that is passed by is fed.
use Rattle.std.proofs.Common.{◌≡◌, ◌∙◌, ℕ, true, false, cond, List, [], ◌∷◌, ◌++◌, Option, Some, None, IfSome, map, refl, sym, ap, subst}
use Rattle.std.specs.Prelude.{is_some}
use Rattle.sloth_base.specs.declared.service.Arrival.{Arrival}
use Rattle.sloth_base.specs.declared.service.Stamped.{Stamped}
use Rattle.sloth_base.specs.declared.image.Mark.{Mark}
use Rattle.sloth_base.specs.declared.image.MarkKind.{MarkKind}
use Rattle.sloth_base.specs.declared.image.MarkKind.TheVariants as kind
use Rattle.sloth_base.specs.declared.service.Event.{Event}
use Rattle.sloth_base.specs.declared.numbers.Step.{Step}
use Rattle.observe.specs.Pieces.{begins}
use Rattle.observe.specs.Observe.{View, mark_at, events_of_kind, outside_events, stamp}
use Rattle.observe.specs.Touches.{noted_touches, HasPlace}
use Rattle.observe.specs.Progress.{Progress, advanced_progress, advanced_progress_from, arrivals_due, begun_progress, is_shown, is_shown_kind, joined_progress, noted_progress, only_element, outside_progress, passed_count, passed_progress, progress_behind_stretch, IsProgress, left_over_events}
use Rattle.observe.proofs.Feeding.{fed-keeps}

-- a mark that is not shown has no event
not_shown : (view : View) (mark : Option Mark) (step : Step) → is_shown mark ≡ false → outside_events mark view step ≡ []
not_shown view None step h = refl
not_shown view (Some mark) step h = by mark.kind h
  where
    by : (k : MarkKind) → is_shown_kind k ≡ false → events_of_kind k view mark step ≡ []
    by kind.Item e = cc
    by kind.Idle e = cc
    by kind.Jump e = refl
    by kind.Opening e = refl
    by kind.Back e = refl

-- a step inside the open stretch that does not end it
passed_inside : (view : View) (p : Progress) (first step : Step) → p.first ≡ Some first → step.enabled_after ≡ false
    → record (passed_count p step.count) { touched = noted_touches step.touched step.count p.touched } ≡ advanced_progress view p step
passed_inside view p first step is masked =
    let q : Progress = noted_progress (passed_progress p step) step in
    sym (ap (λ (o : Option Step). advanced_progress_from o view p step) is
    ∙ ap (λ b. cond b (progress_behind_stretch view q first step) (record q { first = Some first })) masked
    ∙ ap (λ (o : Option Step). record q { first = o }) (sym is))

-- a step outside the stretches that begins none, at no mark that is shown
passed_outside : (view : View) (p : Progress) (step : Step) → p.first ≡ None → begins step ≡ false → is_shown (mark_at view step.pc) ≡ false
    → record (passed_count p step.count) { found = arrivals_due step.count p.coming } ≡ advanced_progress view p step
passed_outside view p step none goes_on hidden =
    sym (ap (λ (o : Option Step). advanced_progress_from o view p step) none
    ∙ ap (λ b. cond b (joined_progress view (begun_progress p step) step step) (outside_progress view p step)) goes_on
    ∙ ap (λ (es : List Event). record (passed_progress p step) {
      found = arrivals_due step.count p.coming;
      event = only_element (map (stamp step.count step.count) es);
    }) (not_shown view (mark_at view step.pc) step hidden))

some_first : (o : Option Step) → is_some o ≡ true → (first : Step) × (o ≡ Some first)
some_first None e = absurd cc
some_first (Some first) e = (first, refl)

no_first : (o : Option Step) → is_some o ≡ false → o ≡ None
no_first None e = refl
no_first (Some first) e = absurd cc

-- so it is fed
pub fed_inside : (view : View) (arrivals : List Arrival) (p q : Progress) (step : Step) (run : List Step) (events : List Stamped)
    → is_some p.first ≡ true → (step.enabled_after ≡ false) × HasPlace step × (q ≡ record (passed_count p step.count) { touched = noted_touches step.touched step.count p.touched })
    → IsProgress view arrivals p run events → left_over_events view p ≡ [] → step.count ≡ p.expected → IsProgress view arrivals q (run ++ step ∷ []) events
fed_inside view arrivals p q step run events within passed f drained e =
    let some = some_first p.first within in
    let same : q ≡ advanced_progress view p step = passed.2 ∙ passed_inside view p some.0 step some.1 passed.0 in
    let J : Option Step → Type 0 = λ o. IfSome o (λ first. HasPlace step) in
    let F : Progress → Type 0 = λ x. IsProgress view arrivals x (run ++ step ∷ []) events in
    subst F (sym same) (fed-keeps view arrivals p step run events f drained e (subst J (sym some.1) passed.1) (λ b. passed.1))

pub fed_outside : (view : View) (arrivals : List Arrival) (p q : Progress) (step : Step) (run : List Step) (events : List Stamped)
    → is_some p.first ≡ false → (begins step ≡ false) × (is_shown (mark_at view step.pc) ≡ false) × (q ≡ record (passed_count p step.count) { found = arrivals_due step.count p.coming })
    → IsProgress view arrivals p run events → left_over_events view p ≡ [] → step.count ≡ p.expected → IsProgress view arrivals q (run ++ step ∷ []) events
fed_outside view arrivals p q step run events beyond passed f drained e =
    let none = no_first p.first beyond in
    let same : q ≡ advanced_progress view p step = passed.2 ∙ passed_outside view p step none passed.0 passed.1 in
    let J : Option Step → Type 0 = λ o. IfSome o (λ first. HasPlace step) in
    let F : Progress → Type 0 = λ x. IsProgress view arrivals x (run ++ step ∷ []) events in
    let goes_on : begins step ≡ false = passed.0 in
    subst F (sym same) (fed-keeps view arrivals p step run events f drained e (subst J (sym none) tt) (λ (b : begins step ≡ true). absurd cc))
