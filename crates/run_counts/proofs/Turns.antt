-- While the task of highest priority is Ready: whose turn each event is.
use Rattle.std.proofs.Common.{◌≡◌, ℕ, ◌<◌, ◌⊎◌, ◌&&◌, [], true, false, not, cond, length, map, Some, None, refl, sym, ap, ◌∙◌, subst, arith, inl, inr}
use Rattle.std.specs.Prelude.{◌≢◌}
use Rattle.std.proofs.lemmas.Bool.{cases_Bool, eqb-false, false≢true}
use Rattle.sloth_base.specs.declared.config.Config.{Config}
use Rattle.sloth_base.specs.declared.app.App.{App}
use Rattle.sloth_base.specs.declared.service.Event.{Event}
use Rattle.sloth_base.specs.declared.service.Event.TheVariants as event
use Rattle.sloth_base.specs.Named.{declaration}
use Rattle.sloth_base.specs.Events.{is_boot}
use Rattle.osek_scheduler.specs.declared.state.TaskState.TheVariants as mode
use Rattle.osek_scheduler.specs.State.{System, task}
use Rattle.osek_scheduler.specs.Priority.{greatest, ceiling, highest_priority, IsTop}
use Rattle.osek_scheduler.specs.Steps.{OsekStep}
use Rattle.osek_scheduler.specs.Valid.{InState}
use Rattle.osek_scheduler.specs.Apart.{IsActive}
use Rattle.osek_scheduler.proofs.Apart.{rank_active, rank_ready}
use Rattle.osek_scheduler.proofs.Excluding.{among, excludes}
use Rattle.osek_scheduler.proofs.Facts.{Facts}
use Rattle.sloth_base.specs.Events.{working_task, is_call}
use Rattle.osek_blocking.specs.Blocking.{is_entry_of, IsRaisedTo}
use Rattle.osek_blocking.proofs.Effects.{IsReady, Calls, Effect}
use Rattle.osek_blocking.proofs.Ordering.{effect}
use Rattle.osek_blocking.proofs.Once.{Blocks}
use Rattle.osek_blocking.specs.Sections.{IsLower}
use Rattle.osek_blocking.proofs.Raised.{owing}
use Rattle.osek_blocking.proofs.Placed.{Advances, FrameEffect}
use Rattle.osek_blocking.proofs.FrameEffects.{frame_effect}
use Rattle.osek_blocking.specs.Pace.{takes_line}
use Rattle.run_counts.specs.EntryLatency.{IsHighest, is_tick}
use Rattle.run_counts.proofs.Awaiting.{Awaits, is_outside, clash, next_awaits, outside}

-- the event is that task t leaves
abbrev pub IsLeft : (t : ℕ) → Event → Type 0
IsLeft t (event.Left u served) = u ≡ t
IsLeft t _ = ⊥

module _ (config : Config) (app : App) (w : Facts config app) (h : ℕ) (declared : h < length config.tasks) (highest : IsHighest config h) where
  module _ (s next : System) (x : Awaits config app w h declared highest s) where
    -- an Active task is another one, and lower
    lower_of : (t : ℕ) → t < length config.tasks → IsActive s t → IsLower config h t
    lower_of t there active =
        (there, highest t there (λ e. clash (task s h).state x.ready (inl (subst (λ v. (task s v).state ≡ mode.Active) e active))))

    no_other_entry : (t : ℕ) → IsTop config s [] t → IsReady s t → is_entry_of h (event.Enter t) ≡ false → ⊥
    no_other_entry t top ready away =
        let le = top.is_greatest h declared (inl x.ready) refl in
        let e = rank_ready config s h x.ready in
        let f = rank_ready config s t ready in
        let lt = highest t top.declared (eqb-false t h away) in
        omega (arith, le, e, f, lt)

    no_back : (t : ℕ) → IsTop config s [] t → IsActive s t → (task s t).owed ≡ true → ⊥
    no_back t top active owed =
        let le = top.is_greatest h declared (inl x.ready) refl in
        let e = rank_ready config s h x.ready in
        let f = rank_active config s t active in
        let g = owing config app s t x.valid top.declared active owed in
        let lt = (lower_of t top.declared active).1 in
        omega (arith, le, e, f, g, lt)

    -- ---- whose turn it is

    -- a lower task goes one step on
    pub record Working (e : Event) (t : ℕ) : Type 0 where
      pub works : working_task e ≡ Some t
      pub lower : IsLower config h t
      pub active : IsActive s t
      pub free : (task s t).owed ≡ false
      pub step : Advances app t s next
      pub settles : next.fresh ≡ []
      pub calls : is_call e ≡ true → Calls config t s next

    -- a lower task leaves
    pub record Leaving (e : Event) (t : ℕ) : Type 0 where
      pub works_not : working_task e ≡ None
      pub leaves : IsLeft t e
      pub lower : IsLower config h t
      pub free : (task s t).owed ≡ false
      pub calls : Calls config t s next
      pub gone : (task next t).state ≢ mode.Active
      pub held : (task next t).held ≡ (task s t).held

    pub data Turn (e : Event) : Type 0 where
      turn_outside : working_task e ≡ None → is_outside e ≡ true → Turn e
      turn_work : (t : ℕ) → is_outside e ≡ false → Working e t → Turn e
      turn_leave : (t : ℕ) → is_outside e ≡ false → Leaving e t → Turn e

    -- no other event comes
    pub turn : (e : Event) → OsekStep config app e s next → is_entry_of h e ≡ false → (is_boot e ≡ false) × (takes_line e ≡ is_tick e) × Turn e
    turn e step away = by e step away (effect config app s next x.ordered e step) (frame_effect config app w s next x.valid e step)
      where
        by : (e : Event) → OsekStep config app e s next → is_entry_of h e ≡ false → Effect config s next e → FrameEffect app s next e
            → (is_boot e ≡ false) × (takes_line e ≡ is_tick e) × Turn e
        by (event.Admit t) step away f p = (refl, refl, turn_outside refl refl)
        by (event.Enter t) step away f p = absurd (no_other_entry t f.moves.top f.was away)
        by (event.Run t func item result) step away f p = (
          refl,
          refl,
          turn_work t refl
              (record {
                works = refl;
                lower = lower_of t f.moves.top.declared f.was;
                active = f.was;
                free = step.1.at.free;
                step = p;
                settles = f.moves.acts.settles;
                calls = λ is. absurd (false≢true is);
              }),
        )
        by (event.Call t served status) step away f p = (
          refl,
          refl,
          turn_work t refl
              (record {
                works = refl;
                lower = lower_of t f.moves.top.declared f.was;
                active = f.was;
                free = step.1.1.at.free;
                step = p;
                settles = f.moves.acts.settles;
                calls = λ _. f;
              }),
        )
        by (event.Left t served) step away f p = (
          refl,
          refl,
          turn_leave t refl
              (record { works_not = refl; leaves = refl; lower = lower_of t f.moves.top.declared f.was; free = step.1.1.at.free; calls = f; gone = p.gone; held = p.held }),
        )
        by (event.Back t) step away f p = absurd (no_back t f.moves.top f.was step.3)
        by e step away f p = let o = outside config app w h declared highest s next x e step refl in (o.0, o.1, turn_outside refl o.2)

    -- ---- tasks that are not preemptable

    in_state : (t : ℕ) → t < length config.tasks → IsActive s t → InState config t (task s t) mode.Active
    in_state t there active = subst (InState config t (task s t)) active (x.valid.each t there).in_state

    -- one that goes on is raised to h
    pub raised_non : (t : ℕ) → t < length config.tasks → IsActive s t → (task s t).owed ≡ false → (declaration config t).non ≡ true → IsRaisedTo config s t h
    raised_non t there active free non =
        let raised = (in_state t there active).1 ∙ ap (λ b. b && not (task s t).owed) non ∙ ap not free in
        let le = among config.tasks h declared in
        let top = ap (λ b. cond b (highest_priority config) 0) raised in
        omega (arith, le, top)

    -- one that leaves, raised to h, is not preemptable
    pub leaves_non : (e : Event) (t : ℕ) → OsekStep config app e s next → is_entry_of h e ≡ false → Leaving e t → Blocks config h s t
        → (declaration config t).non ≡ true
    leaves_non e t step away l b = by (cases_Bool (declaration config t).non)
      where
        after : Awaits config app w h declared highest next
        after = next_awaits config app w h declared highest s next x e step away

        none : (task s t).held ≡ []
        none = sym l.held ∙ (excludes config app next after.valid after.ordered.apart).idle_holds_none t l.lower.0 l.gone

        by : ((declaration config t).non ≡ true) ⊎ ((declaration config t).non ≡ false) → (declaration config t).non ≡ true
        by (inl is) = is
        by (inr preempts) =
            let raised = (in_state t l.lower.0 b.active).1 ∙ ap (λ v. v && not (task s t).owed) preempts in
            let holds = ap (λ r. greatest (map (ceiling config) r)) none in
            let lifts = ap (λ v. cond v (highest_priority config) 0) raised in
            let le = b.raised in
            let lt = l.lower.1 in
            absurd (omega (arith, le, lt, holds, lifts))
