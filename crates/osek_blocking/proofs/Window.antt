-- While task h is Ready: what each event is to a lower task l that may block it.
use Rattle.std.proofs.Common.{◌≡◌, ℕ, suc, ◌+◌, ◌<◌, ◌⊎◌, List, [], ◌∷◌, true, false, cond, ltb, length, refl, sym, ap, ◌∙◌, subst, arith, inl, inr, Some}
use Rattle.std.specs.Prelude.{◌≢◌}
use Rattle.std.proofs.lemmas.Bool.{true≢false, cases_eq, cases_Bool, cond-true, cond-false, lt-ltb, ltb-true}
use Rattle.sloth_base.specs.declared.config.Config.{Config}
use Rattle.sloth_base.specs.declared.app.App.{App}
use Rattle.sloth_base.specs.declared.service.Event.{Event}
use Rattle.sloth_base.specs.declared.service.Event.TheVariants as event
use Rattle.sloth_base.specs.declared.service.Stamped.{Stamped}
use Rattle.osek_scheduler.specs.declared.state.TaskState.TheVariants as mode
use Rattle.osek_scheduler.specs.State.{System, task}
use Rattle.osek_scheduler.specs.Priority.{IsTop}
use Rattle.osek_scheduler.specs.Steps.{OsekStep}
use Rattle.osek_scheduler.specs.Runs.{AreStepsTo}
use Rattle.osek_scheduler.specs.Valid.{IsValid}
use Rattle.osek_scheduler.specs.Apart.{static_priority, IsActive}
use Rattle.osek_scheduler.proofs.Apart.{rank_active, rank_ready}
use Rattle.osek_scheduler.proofs.Facts.{Facts}
use Rattle.osek_scheduler.proofs.Steps.{step_valid}
use Rattle.sloth_base.specs.Events.{working_task}
use Rattle.osek_blocking.specs.Blocking.{is_entry_of, events_up_to_entry, IsOfLower, IsBlockedBy}
use Rattle.osek_blocking.proofs.Effects.{IsReady, Ordered, Effect}
use Rattle.osek_blocking.proofs.Ordering.{effect, step_ordered}
use Rattle.osek_blocking.proofs.Once.{stays}
use Rattle.osek_blocking.specs.Sections.{IsLower}
use Rattle.osek_blocking.specs.Kept.{is_lower, lower_events}
use Rattle.osek_blocking.proofs.Frames.{SameFrames}
use Rattle.osek_blocking.proofs.Raised.{owing}
use Rattle.osek_blocking.proofs.Placed.{Placed, Advances, FrameEffect, step_placed}
use Rattle.osek_blocking.proofs.FrameEffects.{frame_effect}

-- task h, and task l of lower priority
pub record LowerPair (config : Config) (app : App) (h l : ℕ) : Type 0 where
  pub facts : Facts config app
  pub declared : h < length config.tasks
  pub lower : IsLower config h l

module _ {config : Config} {app : App} {h l : ℕ} (pair : LowerPair config app h l) where
  pub record Waits (s : System) : Type 0 where
    pub valid : IsValid config app s
    pub ordered : Ordered config s
    pub placed : Placed app s
    pub ready : IsReady s h

  -- task l does nothing before h is entered
  abbrev pub Rests : System → Type 0
  Rests s = IsActive s l → (task s l).owed ≡ true

  module _ (s next : System) (x : Waits s) where
    next_waits : (e : Event) → OsekStep config app e s next → is_entry_of h e ≡ false → Waits next
    next_waits e step away = record {
      valid = step_valid config app e s next pair.facts step x.valid;
      ordered = step_ordered config app s next x.ordered e step;
      placed = step_placed config app s next e (frame_effect config app pair.facts s next x.valid e step) x.placed;
      ready = stays config app h pair.declared s next x.ready e (effect config app s next x.ordered e step) away;
    }

    -- ---- what an event is to task l

    pub data View (e : Event) : Type 0 where
      works : working_task e ≡ Some l → IsActive s l → (task s l).owed ≡ false → Advances app l s next → View e
      departs : is_lower config h (working_task e) ≡ false → (task next l).state ≢ mode.Active → View e
      keeps : is_lower config h (working_task e) ≡ false → SameFrames (task s l) (task next l) → (IsActive next l → IsActive s l) → View e

    abbrev pub OfOne : Event → Type 0
    OfOne e = (u : ℕ) → IsOfLower config h e u → u ≡ l

    -- the event of another task, not lower unless it is l
    other : (t : ℕ) (e : Event) → OfOne e → working_task e ≡ Some t → t ≢ l → is_lower config h (working_task e) ≡ false
    other t e one is n = by (cases_Bool (ltb (static_priority config t) (static_priority config h)))
      where
        by : (ltb (static_priority config t) (static_priority config h) ≡ true) ⊎ (ltb (static_priority config t) (static_priority config h) ≡ false)
            → is_lower config h (working_task e) ≡ false
        by (inl lt) = absurd (n (one t (record { works = is; lower = ltb-true _ _ lt })))
        by (inr ge) = ap (is_lower config h) is ∙ ge

    -- l is not top while h is Ready
    not_entered : IsTop config s [] l → IsReady s l → ⊥
    not_entered top ready =
        let le = top.is_greatest h pair.declared (inl x.ready) refl in
        let e = rank_ready config s h x.ready in
        let f = rank_ready config s l ready in
        let lt = pair.lower.1 in
        omega (arith, le, e, f, lt)

    not_back : IsTop config s [] l → IsActive s l → (task s l).owed ≡ true → ⊥
    not_back top active owed =
        let le = top.is_greatest h pair.declared (inl x.ready) refl in
        let e = rank_ready config s h x.ready in
        let f = rank_active config s l active in
        let g = owing config app s l x.valid pair.lower.0 active owed in
        let lt = pair.lower.1 in
        omega (arith, le, e, f, g, lt)

    pub view : (e : Event) → OsekStep config app e s next → OfOne e → View e
    view e step one = by e step one (effect config app s next x.ordered e step) (frame_effect config app pair.facts s next x.valid e step)
      where
        by : (e : Event) → OsekStep config app e s next → OfOne e → Effect config s next e → FrameEffect app s next e → View e
        by (event.Enter t) step one f p = at (cases_eq t l)
          where
            at : (t ≡ l) ⊎ (t ≡ l → ⊥) → View (event.Enter t)
            at (inl e) = absurd (not_entered (subst (IsTop config s []) e f.moves.top) (subst (IsReady s) e f.was))
            at (inr n) = keeps refl (p.others l (λ e. n (sym e))) (λ a. (f.moves.acts.calm l (λ e. n (sym e)) a).0)
        by (event.Run t func item result) step one f p = at (cases_eq t l)
          where
            at : (t ≡ l) ⊎ (t ≡ l → ⊥) → View (event.Run t func item result)
            at (inl e) =
                works (ap Some e) (subst (IsActive s) e f.was) (subst (λ v. (task s v).owed ≡ false) e step.1.at.free)
                (subst (λ v. Advances app v s next) e p)
            at (inr n) =
                keeps (other t (event.Run t func item result) one refl n) (p.others l (λ e. n (sym e))) (λ a. (f.moves.acts.calm l (λ e. n (sym e)) a).0)
        by (event.Call t served status) step one f p = at (cases_eq t l)
          where
            at : (t ≡ l) ⊎ (t ≡ l → ⊥) → View (event.Call t served status)
            at (inl e) =
                works (ap Some e) (subst (IsActive s) e f.was) (subst (λ v. (task s v).owed ≡ false) e step.1.1.at.free)
                (subst (λ v. Advances app v s next) e p)
            at (inr n) =
                keeps (other t (event.Call t served status) one refl n) (p.others l (λ e. n (sym e))) (λ a. (f.moves.acts.calm l (λ e. n (sym e)) a).0)
        by (event.Left t served) step one f p = at (cases_eq t l)
          where
            at : (t ≡ l) ⊎ (t ≡ l → ⊥) → View (event.Left t served)
            at (inl e) = departs refl (subst (λ v. (task next v).state ≢ mode.Active) e p.gone)
            at (inr n) = keeps refl (p.others l (λ e. n (sym e))) (λ a. (f.moves.acts.calm l (λ e. n (sym e)) a).0)
        by (event.Back t) step one f p = at (cases_eq t l)
          where
            at : (t ≡ l) ⊎ (t ≡ l → ⊥) → View (event.Back t)
            at (inl e) =
                absurd (not_back (subst (IsTop config s []) e f.moves.top) (subst (IsActive s) e f.was) (subst (λ v. (task s v).owed ≡ true) e step.3))
            at (inr n) = keeps refl (p.others l (λ e. n (sym e))) (λ a. (f.moves.acts.calm l (λ e. n (sym e)) a).0)
        by e step one f p = keeps refl (p l) (λ a. (f.same l a).0)

  -- ---- what blocks, behind an event

  pub blocked_next : (s next : System) (e : Stamped) (events : List Stamped) → OsekStep config app e.event s next → IsBlockedBy config app h s (e ∷ events) l
      → IsBlockedBy config app h next events l
  blocked_next s next e events step b = record {
    of_one = λ front rest x u is lower. b.of_one (e ∷ front) rest x u (ap (λ es. e ∷ es) is) lower;
    raised = λ front rest x u found is lower leads. b.raised (e ∷ front) rest x u found (ap (λ es. e ∷ es) is) lower (next, step, leads);
  }

  abbrev pub Blocked : System → List Stamped → Type 0
  Blocked s events = IsBlockedBy config app h s (events_up_to_entry h events) l

  abbrev pub count : List Stamped → ℕ
  count events = lower_events config h (events_up_to_entry h events)

  pub stops : (e : Stamped) (events : List Stamped) → is_entry_of h e.event ≡ true → count (e ∷ events) ≡ 0
  stops e events c = ap (lower_events config h) (cond-true _ [] (e ∷ events_up_to_entry h events) c)

  pub goes : (e : Stamped) (events : List Stamped) → is_entry_of h e.event ≡ false → events_up_to_entry h (e ∷ events) ≡ e ∷ events_up_to_entry h events
  goes e events c = cond-false _ [] (e ∷ events_up_to_entry h events) c

  -- what goes on behind an event that is not the entry
  pub record Onward (s next : System) (e : Stamped) (events : List Stamped) : Type 0 where
    pub now : IsBlockedBy config app h s (e ∷ events_up_to_entry h events) l
    pub waits : Waits next
    pub blocked : Blocked next events
    pub one : (u : ℕ) → IsOfLower config h e.event u → u ≡ l

  pub onward : (s next : System) (e : Stamped) (events : List Stamped) → Waits s → OsekStep config app e.event s next → Blocked s (e ∷ events)
      → is_entry_of h e.event ≡ false → Onward s next e events
  onward s next e events x step b c =
      let now = subst (λ es. IsBlockedBy config app h s es l) (goes e events c) b in
      record {
        now = now;
        waits = next_waits s next x e.event step c;
        blocked = blocked_next s next e (events_up_to_entry h events) step now;
        one = λ u lower. now.of_one [] (events_up_to_entry h events) e u refl lower;
      }

  -- an event that is not lower does not count
  pub uncounted : (e : Stamped) (events : List Stamped) → is_entry_of h e.event ≡ false → is_lower config h (working_task e.event) ≡ false
      → count (e ∷ events) ≡ count events
  uncounted e events c not_lower =
      ap (lower_events config h) (goes e events c) ∙ ap (λ b. cond b 1 0 + count events) not_lower ∙ omega arith

  pub counted : (e : Stamped) (events : List Stamped) → is_entry_of h e.event ≡ false → working_task e.event ≡ Some l → count (e ∷ events) ≡ suc (count events)
  counted e events c is =
      ap (lower_events config h) (goes e events c)
      ∙ ap (λ b. cond b 1 0 + count events) (ap (is_lower config h) is ∙ lt-ltb _ _ pair.lower.1) ∙ omega arith

  -- ---- a task that rests

  abbrev RestsOn : List Stamped → Type 0
  RestsOn events = (s end : System) → Waits s → Rests s → Blocked s events → AreStepsTo config app events s end → count events ≡ 0

  rests_on : (e : Stamped) (events : List Stamped) → RestsOn events → RestsOn (e ∷ events)
  rests_on e events again s end x r b leads = by (cases_Bool (is_entry_of h e.event))
    where
      further : Onward s leads.0 e events → Rests leads.0 → count events ≡ 0
      further o r = again leads.0 end o.waits r o.blocked leads.2

      at : is_entry_of h e.event ≡ false → Onward s leads.0 e events → View s leads.0 x e.event → count (e ∷ events) ≡ 0
      at c o (works is active free step) = absurd (true≢false (sym (r active) ∙ free))
      at c o (departs not_lower gone) = uncounted e events c not_lower ∙ further o (λ a. absurd (gone a))
      at c o (keeps not_lower same active) = uncounted e events c not_lower ∙ further o (λ a. same.owed ∙ r (active a))

      by : (is_entry_of h e.event ≡ true) ⊎ (is_entry_of h e.event ≡ false) → count (e ∷ events) ≡ 0
      by (inl c) = stops e events c
      by (inr c) =
          let o = onward s leads.0 e events x leads.1 b c in
          at c o (view s leads.0 x e.event leads.1 o.one)

  pub rests_all : (events : List Stamped) → RestsOn events
  rests_all [] s end x r b leads = refl
  rests_all (e ∷ events) s end x r b leads = rests_on e events (rests_all events) s end x r b leads
