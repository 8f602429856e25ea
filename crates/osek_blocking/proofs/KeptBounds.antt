-- Every run keeps the bounds.
use Rattle.std.proofs.Common.{◌≡◌, ℕ, ◌+◌, ◌<◌, ◌≤◌, ◌⊎◌, List, [], ◌∷◌, true, false, cond, ltb, length, refl, ap, ◌∙◌, subst, arith, inl, inr, Option, Some, None}
use Rattle.std.proofs.lemmas.Bool.{cases_lt, cases_Bool, cond-true, cond-false, ltb-true}
use Rattle.std.proofs.lemmas.Option.{same_Some}
use Rattle.sloth_base.specs.declared.config.Config.{Config}
use Rattle.sloth_base.specs.declared.app.App.{App}
use Rattle.sloth_base.specs.declared.service.Event.{Event}
use Rattle.sloth_base.specs.declared.service.Event.TheVariants as event
use Rattle.sloth_base.specs.declared.service.Stamped.{Stamped}
use Rattle.code_rules.specs.WellFormed.{WellFormed}
use Rattle.osek_scheduler.specs.State.{System, opening}
use Rattle.osek_scheduler.specs.Steps.{OsekStep}
use Rattle.osek_scheduler.specs.Runs.{AreStepsTo, OsekRun}
use Rattle.osek_scheduler.proofs.Leading.{follows_leads, leads-parts, one_step, one_end}
use Rattle.osek_scheduler.specs.Valid.{IsValid}
use Rattle.osek_scheduler.specs.Apart.{static_priority}
use Rattle.osek_scheduler.proofs.Apart.{opening_apart}
use Rattle.osek_scheduler.proofs.Facts.{Facts, facts}
use Rattle.osek_scheduler.proofs.Reached.{run_valid}
use Rattle.osek_scheduler.proofs.Steps.{step_valid, opening_valid}
use Rattle.sloth_base.specs.Events.{working_task}
use Rattle.osek_blocking.specs.Blocking.{is_entry_of, events_up_to_entry, IsOfLower, IsBlockedBy}
use Rattle.osek_blocking.proofs.Effects.{IsReady, Ordered}
use Rattle.osek_blocking.proofs.Ordering.{step_ordered, opening_ordered, leads_ordered}
use Rattle.osek_blocking.proofs.Once.{block_once}
use Rattle.osek_blocking.specs.Sections.{IsLower, IsBound, lowest, above}
use Rattle.osek_blocking.specs.Kept.{is_lower, lower_events, KeepsBounds}
use Rattle.osek_blocking.proofs.Placed.{Placed, step_placed, opening_placed}
use Rattle.osek_blocking.proofs.FrameEffects.{frame_effect, leads_placed}
use Rattle.osek_blocking.proofs.Sectioned.{at_most}

-- ---- where the task that might block is not lower

module _ (config : Config) (app : App) (h b : ℕ) (no : ¬ (IsLower config h b)) where
  abbrev NoneIn : List Stamped → Type 0
  NoneIn events = (s end : System) → AreStepsTo config app events s end → IsBlockedBy config app h s (events_up_to_entry h events) b
      → lower_events config h (events_up_to_entry h events) ≡ 0

  acts_declared : (e : Event) (s next : System) (u : ℕ) → OsekStep config app e s next → working_task e ≡ Some u → u < length config.tasks
  acts_declared (event.Run t func item result) s next u step is = subst (λ v. v < length config.tasks) (same_Some t u is) step.1.top.declared
  acts_declared (event.Call t served status) s next u step is = subst (λ v. v < length config.tasks) (same_Some t u is) step.1.1.top.declared
  acts_declared e s next u step is = absurd cc

  not_lower : (e : Event) (s next : System) → OsekStep config app e s next → ((u : ℕ) → IsOfLower config h e u → u ≡ b)
      → is_lower config h (working_task e) ≡ false
  not_lower e s next step one = by (working_task e) refl
    where
      by : (o : Option ℕ) → working_task e ≡ o → is_lower config h o ≡ false
      by None is = refl
      by (Some u) is = at (cases_Bool (ltb (static_priority config u) (static_priority config h)))
        where
          at : (ltb (static_priority config u) (static_priority config h) ≡ true) ⊎ (ltb (static_priority config u) (static_priority config h) ≡ false)
              → ltb (static_priority config u) (static_priority config h) ≡ false
          at (inl e2) =
              let lt = ltb-true _ _ e2 in
              absurd (no (subst (IsLower config h) (one u (record { works = is; lower = lt })) (acts_declared e s next u step is, lt)))
          at (inr e2) = e2

  none_cons : (e : Stamped) (events : List Stamped) → NoneIn events → NoneIn (e ∷ events)
  none_cons e events again s end leads k = by (cases_Bool (is_entry_of h e.event))
    where
      by : (is_entry_of h e.event ≡ true) ⊎ (is_entry_of h e.event ≡ false) → lower_events config h (events_up_to_entry h (e ∷ events)) ≡ 0
      by (inl c) = ap (lower_events config h) (cond-true _ [] (e ∷ events_up_to_entry h events) c)
      by (inr c) =
          let is = cond-false _ [] (e ∷ events_up_to_entry h events) c in
          let now = subst (λ es. IsBlockedBy config app h s es b) is k in
          let free = not_lower e.event s leads.0 leads.1 (λ u lower. now.of_one [] (events_up_to_entry h events) e u refl lower) in
          ap (lower_events config h) is
          ∙ ap (λ d. cond d 1 0 + lower_events config h (events_up_to_entry h events)) free
          ∙ (let z = again leads.0 end leads.2
          (record {
            of_one = λ front rest x u is lower. now.of_one (e ∷ front) rest x u (ap (λ es. e ∷ es) is) lower;
            raised = λ front rest x u found is lower l. now.raised (e ∷ front) rest x u found (ap (λ es. e ∷ es) is) lower (leads.0, leads.1, l);
          }) in omega (arith, z))

  none : (events : List Stamped) → NoneIn events
  none [] s end leads k = refl
  none (e ∷ events) s end leads k = none_cons e events (none events) s end leads k

-- ---- runs

decide_lower : (config : Config) (h b : ℕ) → IsLower config h b ⊎ (IsLower config h b → ⊥)
decide_lower config h b = by (cases_lt b (length config.tasks)) (cases_lt (static_priority config b) (static_priority config h))
  where
    by : (b < length config.tasks) ⊎ (length config.tasks ≤ b)
        → (static_priority config b < static_priority config h) ⊎ (static_priority config h ≤ static_priority config b)
        → IsLower config h b ⊎ (IsLower config h b → ⊥)
    by (inl d) (inl lt) = inl (d, lt)
    by (inr d) y = inr (λ k. let lt = k.0 in omega (arith, d, lt))
    by (inl d) (inr ge) = inr (λ k. let lt = k.1 in omega (arith, ge, lt))

module _ (config : Config) (app : App) (w : Facts config app) (h : ℕ) where
  -- from the state behind the event that makes h Ready
  from_there : (s end : System) (behind : List Stamped) → h < length config.tasks → IsValid config app s → Ordered config s → Placed app s → IsReady s h
      → AreStepsTo config app behind s end → (b : ℕ) → IsBound config app h b → (l : ℕ) → IsBlockedBy config app h s (events_up_to_entry h behind) l
      → IsLower config h l ⊎ (IsLower config h l → ⊥) → lower_events config h (events_up_to_entry h behind) ≤ b
  from_there s end behind declared v o p ready leads b bound l k (inr not_lower) = let e = none config app h l not_lower behind s end leads k in omega (arith, e)
  from_there s end behind declared v o p ready leads b (lowest nobody) l k (inl lower) = absurd (nobody l lower)
  from_there s end behind declared v o p ready leads b (above n most) l k (inl lower) =
      at_most (record { facts = w; declared = declared; lower = lower }) n most.none_larger behind s end
      (record { valid = v; ordered = o; placed = p; ready = ready }) k leads

pub keeps_bounds : (config : Config) (app : App) (events : List Stamped) → WellFormed config app → OsekRun config app events → KeepsBounds config app events
keeps_bounds config app events wf run before behind made h b found s is leads makes bound =
    let w = facts config app wf in
    let blocked = block_once config app events run before behind made h found s is leads makes in
    let whole = follows_leads config app [] (opening config app) events run.0 run.1 in
    let parts = leads-parts config app before (made ∷ behind) (opening config app) run.0
    (subst (λ es. AreStepsTo config app es (opening config app) run.0) is whole) in
    let met = one_end config app before (opening config app) parts.0 found parts.1 leads in
    let step = subst (λ x. OsekStep config app made.event x parts.2.0) met parts.2.1 in
    let next = one_step config app made.event found parts.2.0 s step makes.step in
    let valid = (run_valid config app w before (opening config app) found leads (opening_valid config app) (opening_apart config app)).0 in
    let ordered = leads_ordered config app before (opening config app) found (opening_ordered config app) leads in
    let placed = leads_placed config app w before (opening config app) found leads (opening_valid config app) (opening_placed config app) in
    from_there config app w h s run.0 behind makes.declared
    (step_valid config app made.event found s w makes.step valid)
    (step_ordered config app found s ordered made.event makes.step)
    (step_placed config app found s made.event (frame_effect config app w found s valid made.event makes.step) placed)
    makes.behind (subst (λ x. AreStepsTo config app behind x run.0) next parts.2.2) b bound blocked.0 blocked.1 (decide_lower config h blocked.0)
