-- While task h is Ready no event is a lower task's, or the one that may block it is lower.
use Rattle.std.proofs.Common.{◌≡◌, ◌∙◌, ℕ, ◌<◌, ◌⊎◌, List, [], ◌∷◌, ◌++◌, true, false, cond, length, refl, ap, subst, arith, inl, inr, Option, Some, None}
use Rattle.std.proofs.lemmas.Bool.{cases_Bool, cond-true, cond-false, false≢true, ltb-true}
use Rattle.std.proofs.lemmas.Option.{same_Some}
use Rattle.sloth_base.specs.declared.config.Config.{Config}
use Rattle.sloth_base.specs.declared.app.App.{App}
use Rattle.sloth_base.specs.declared.service.Event.{Event}
use Rattle.sloth_base.specs.declared.service.Event.TheVariants as event
use Rattle.sloth_base.specs.declared.service.Stamped.{Stamped}
use Rattle.sloth_base.specs.Events.{working_task}
use Rattle.osek_scheduler.specs.State.{System}
use Rattle.osek_scheduler.specs.Steps.{OsekStep}
use Rattle.osek_scheduler.specs.Runs.{AreStepsTo}
use Rattle.osek_blocking.specs.Blocking.{is_entry_of, events_up_to_entry, IsOfLower}
use Rattle.osek_blocking.specs.Sections.{IsLower}
use Rattle.osek_blocking.specs.Kept.{is_lower, lower_events}

module _ (config : Config) (app : App) (h l : ℕ) where
  works_declared : (what : Event) (s next : System) (u : ℕ) → OsekStep config app what s next → working_task what ≡ Some u → u < length config.tasks
  works_declared (event.Run t func item result) s next u step is = subst (λ v. v < length config.tasks) (same_Some t u is) step.1.top.declared
  works_declared (event.Call t served status) s next u step is = subst (λ v. v < length config.tasks) (same_Some t u is) step.1.1.top.declared
  works_declared what s next u step is = absurd cc

  -- the lower task of each of these events is l
  abbrev pub AreOfOne : List Stamped → Type 0
  AreOfOne events = (front rest : List Stamped) (e : Stamped) (u : ℕ) → events ≡ front ++ e ∷ rest → IsOfLower config h e.event u → u ≡ l

  abbrev pub NoneOrLower : List Stamped → Type 0
  NoneOrLower events = (lower_events config h (events_up_to_entry h events) ≡ 0) ⊎ IsLower config h l

  pub none_or_lower : (events : List Stamped) (s end : System) → AreStepsTo config app events s end → AreOfOne (events_up_to_entry h events) → NoneOrLower events
  none_or_lower [] s end leads one = inl refl
  none_or_lower (e ∷ events) s end leads one = by (cases_Bool (is_entry_of h e.event)) (none_or_lower events leads.0 end leads.2)
    where
      goes_on : is_entry_of h e.event ≡ false → events_up_to_entry h (e ∷ events) ≡ e ∷ events_up_to_entry h events
      goes_on c = cond-false _ [] (e ∷ events_up_to_entry h events) c

      lower_here : is_entry_of h e.event ≡ false → (o : Option ℕ) → working_task e.event ≡ o → is_lower config h o ≡ true → IsLower config h l
      lower_here c None is low = absurd (false≢true low)
      lower_here c (Some u) is low =
          let less = ltb-true _ _ low in
          subst (IsLower config h) (one [] (events_up_to_entry h events) e u (goes_on c) (record { works = is; lower = less }))
          (works_declared e.event s leads.0 u leads.1 is, less)

      with_it : is_entry_of h e.event ≡ false → (is_lower config h (working_task e.event) ≡ true) ⊎ (is_lower config h (working_task e.event) ≡ false) → NoneOrLower events
          → NoneOrLower (e ∷ events)
      with_it c (inl low) further = inr (lower_here c (working_task e.event) refl low)
      with_it c (inr other) (inr lower) = inr lower
      with_it c (inr other) (inl none) =
          inl (ap (lower_events config h) (goes_on c) ∙ (let front = ap {B = ℕ} (λ b. cond b 1 0) other in omega (arith, front, none)))

      by : (is_entry_of h e.event ≡ true) ⊎ (is_entry_of h e.event ≡ false) → (AreOfOne (events_up_to_entry h events) → NoneOrLower events) → NoneOrLower (e ∷ events)
      by (inl c) again = inl (ap (lower_events config h) (cond-true _ [] (e ∷ events_up_to_entry h events) c))
      by (inr c) again =
          with_it c (cases_Bool (is_lower config h (working_task e.event)))
          (again (λ front rest x u is lower. one (e ∷ front) rest x u (goes_on c ∙ ap (λ es. e ∷ es) is) lower))
