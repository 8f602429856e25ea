-- While the task of highest priority is Ready, no more events come than its bound.
use Rattle.std.proofs.Common.{◌≡◌, ℕ, suc, ◌+◌, ◌<◌, ◌≤◌, ◌⊎◌, List, [], ◌∷◌, Bool, true, false, cond, length, refl, sym, ap, ◌∙◌, subst, arith, inl, inr}
use Rattle.std.specs.List.{AllByRecursion}
use Rattle.std.proofs.lemmas.Bool.{cond_both, cond-true, cases_lt, cases_Bool, lt-ltb}
use Rattle.sloth_base.specs.declared.config.Config.{Config}
use Rattle.sloth_base.specs.declared.app.App.{App}
use Rattle.sloth_base.specs.declared.service.Event.{Event}
use Rattle.sloth_base.specs.declared.service.Stamped.{Stamped}
use Rattle.sloth_base.specs.Named.{declaration}
use Rattle.sloth_base.specs.Events.{is_boot}
use Rattle.osek_scheduler.specs.State.{System, task}
use Rattle.code_rules.specs.Code.{is_in}
use Rattle.osek_scheduler.specs.Steps.{OsekStep}
use Rattle.osek_scheduler.specs.Runs.{AreStepsTo}
use Rattle.osek_scheduler.specs.Apart.{static_priority, priority_of, IsActive}
use Rattle.osek_scheduler.proofs.Facts.{Facts}
use Rattle.sloth_base.specs.Events.{working_task}
use Rattle.osek_blocking.specs.Blocking.{is_entry_of, events_up_to_entry, IsRaisedTo, FindsFresh, IsBlockedBy}
use Rattle.osek_blocking.proofs.Ordering.{effect}
use Rattle.osek_blocking.proofs.Once.{Blocks, BlocksAlone, blocker, at_top, old, at_work, called, stays_out}
use Rattle.osek_blocking.specs.Sections.{IsLower, IsBound, lowest, above, NoneIsLarger}
use Rattle.osek_blocking.specs.Kept.{is_lower, lower_events}
use Rattle.osek_blocking.proofs.Window.{LowerPair, Waits, blocked_next}
use Rattle.osek_blocking.proofs.Sectioned.{Found, in_front, found_all, within}
use Rattle.osek_blocking.specs.Pace.{takes_line}
use Rattle.run_counts.specs.EntryLatency.{IsHighest, is_tick}
use Rattle.run_counts.proofs.Turns.{Working, Leaving, Turn, turn_outside, turn_work, turn_leave, turn, raised_non, leaves_non}
use Rattle.run_counts.proofs.Awaiting.{Awaits, is_outside, next_awaits}

-- how many of these events are a task's turn
abbrev pub waiting : List Stamped → ℕ
waiting [] = 0
waiting (e ∷ events) = cond (is_outside e.event) 0 1 + waiting events

-- an event on the way to the entry of a task: neither boot nor the entry of another one
abbrev pub IsOnTheWay : Stamped → Type 0
IsOnTheWay e = (is_boot e.event ≡ false) × (takes_line e.event ≡ is_tick e.event)

module _ (config : Config) (app : App) (w : Facts config app) (h : ℕ) (declared : h < length config.tasks) (highest : IsHighest config h) where
  abbrev pub Stands : System → Type 0
  Stands s = Awaits config app w h declared highest s

  abbrev pub up_to : List Stamped → List Stamped
  up_to events = events_up_to_entry h events

  abbrev TurnOf : (s next : System) → Stands s → Event → Type 0
  TurnOf s next x e = Turn config app w h declared highest s next x e

  -- an event of these in front of the events up to the entry
  module _ (s : System) (x : Stands s) (e : Stamped) (events : List Stamped) (next : System) (step : OsekStep config app e.event s next) where
    pub goes_on : (P : List Stamped → Type 0) → P [] → (is_entry_of h e.event ≡ false → P (e ∷ up_to events)) → P (up_to (e ∷ events))
    goes_on P none more = cond_both (is_entry_of h e.event) [] (e ∷ up_to events) P (λ _. none) more

    pub out_next : is_in h s.fresh ≡ false → is_in h next.fresh ≡ false
    out_next out = stays_out config app h declared s next x.ready e.event (effect config app s next x.ordered e.event step) out

    pub no_new : is_in h s.fresh ≡ false → (u : ℕ) → Blocks config h next u → Blocks config h s u
    no_new out = old config app h declared s next x.ready e.event (effect config app s next x.ordered e.event step) out

    pub works_blocks : (t : ℕ) → Working config app w h declared highest s next x e.event t → is_in h s.fresh ≡ false → Blocks config h s t
    works_blocks t k out =
        at_work config app h declared s next x.ready e.event t (effect config app s next x.ordered e.event step)
        (record { works = k.works; lower = k.lower.1 }) out

    pub leaves_blocks : (t : ℕ) → Leaving config app w h declared highest s next x e.event t → is_in h s.fresh ≡ false → Blocks config h s t
    leaves_blocks t k out = at_top config app h declared s next x.ready t s.fresh k.calls.moves.top out k.calls.was k.lower.1

    counts_lower : (t : ℕ) → Working config app w h declared highest s next x e.event t → ◌≡◌ {A = ℕ} (cond (is_lower config h (working_task e.event)) 1 0) 1
    counts_lower t k = ap {B = ℕ} (λ b. cond b 1 0) (ap (is_lower config h) k.works ∙ lt-ltb _ _ k.lower.1)

  -- ---- where nobody blocks

  abbrev pub NobodyWaits : List Stamped → Type 0
  NobodyWaits events = (s end : System) → Stands s → is_in h s.fresh ≡ false → ((u : ℕ) → ¬ (Blocks config h s u)) → AreStepsTo config app events s end
      → waiting (up_to events) ≡ 0

  nobody_cons : (e : Stamped) (events : List Stamped) → NobodyWaits events → NobodyWaits (e ∷ events)
  nobody_cons e events again s end x out nobody leads =
      goes_on s x e events leads.0 leads.1 (λ es. waiting es ≡ 0) refl
      (λ away. by away (turn config app w h declared highest s leads.0 x e.event leads.1 away).2)
    where
      by : is_entry_of h e.event ≡ false → TurnOf s leads.0 x e.event → waiting (e ∷ up_to events) ≡ 0
      by away (turn_outside none is) =
          let rest = again leads.0 end (next_awaits config app w h declared highest s leads.0 x e.event leads.1 away)
          (out_next s x e events leads.0 leads.1 out) (λ u b. nobody u (no_new s x e events leads.0 leads.1 out u b)) leads.2 in
          let front = ap {B = ℕ} (λ b. cond b 0 1) is in
          omega (arith, rest, front)
      by away (turn_work t other k) = absurd (nobody t (works_blocks s x e events leads.0 leads.1 t k out))
      by away (turn_leave t other k) = absurd (nobody t (leaves_blocks s x e events leads.0 leads.1 t k out))

  pub nobody_waits : (events : List Stamped) → NobodyWaits events
  nobody_waits [] s end x out nobody leads = refl
  nobody_waits (e ∷ events) s end x out nobody leads = nobody_cons e events (nobody_waits events) s end x out nobody leads

  -- ---- where task u alone may block

  abbrev FewWait : List Stamped → Type 0
  FewWait events = (s end : System) (u : ℕ) → Stands s → is_in h s.fresh ≡ false → BlocksAlone config h s u → AreStepsTo config app events s end
      → waiting (up_to events) ≤ lower_events config h (up_to events) + cond (declaration config u).non 1 0

  few_cons : (e : Stamped) (events : List Stamped) → FewWait events → FewWait (e ∷ events)
  few_cons e events again s end u x out alone leads =
      goes_on s x e events leads.0 leads.1 (λ es. waiting es ≤ lower_events config h es + cond (declaration config u).non 1 0) (omega arith)
      (λ away. by away (turn config app w h declared highest s leads.0 x e.event leads.1 away).2)
    where
      next_stands : is_entry_of h e.event ≡ false → Stands leads.0
      next_stands away = next_awaits config app w h declared highest s leads.0 x e.event leads.1 away

      still : is_entry_of h e.event ≡ false → waiting (up_to events) ≤ lower_events config h (up_to events) + cond (declaration config u).non 1 0
      still away =
          again leads.0 end u (next_stands away) (out_next s x e events leads.0 leads.1 out)
          (λ v b. alone v (no_new s x e events leads.0 leads.1 out v b)) leads.2

      by : is_entry_of h e.event ≡ false → TurnOf s leads.0 x e.event
          → waiting (e ∷ up_to events) ≤ lower_events config h (e ∷ up_to events) + cond (declaration config u).non 1 0
      by away (turn_outside none is) =
          let rest = still away in
          let front = ap {B = ℕ} (λ b. cond b 0 1) is in
          omega (arith, rest, front)
      by away (turn_work t other k) =
          let rest = still away in
          let front = ap {B = ℕ} (λ b. cond b 0 1) other in
          let lower = counts_lower s x e events leads.0 leads.1 t k in
          omega (arith, rest, front, lower)
      by away (turn_leave t other k) =
          let b = leaves_blocks s x e events leads.0 leads.1 t k out in
          let same = alone t b in
          let non = leaves_non config app w h declared highest s leads.0 x e.event t leads.1 away k b in
          let lifted = ap {B = ℕ} (λ v. cond v 1 0) (subst (λ v. (declaration config v).non ≡ true) same non) in
          let rest = nobody_waits events leads.0 end (next_stands away) (out_next s x e events leads.0 leads.1 out)
          (λ v c. gone v c (alone v (no_new s x e events leads.0 leads.1 out v c) ∙ sym same)) leads.2 in
          let front = ap {B = ℕ} (λ v. cond v 0 1) other in
          omega (arith, rest, front, lifted)
        where
          gone : (v : ℕ) → Blocks config h leads.0 v → v ≡ t → ⊥
          gone v c e = k.gone (subst (IsActive leads.0) e c.active)

  few_wait : (events : List Stamped) → FewWait events
  few_wait [] s end u x out alone leads = omega arith
  few_wait (e ∷ events) s end u x out alone leads = few_cons e events (few_wait events) s end u x out alone leads

  -- ---- from an arrival on

  module _ (m : ℕ) (most : NoneIsLarger config app h m) where
    abbrev MostWait : List Stamped → Type 0
    MostWait events = (s end : System) (l : ℕ) → Stands s → IsBlockedBy config app h s (up_to events) l → AreStepsTo config app events s end
        → waiting (up_to events) ≤ suc m

    one_at_most : (b : Bool) → cond b 1 0 ≤ 1
    one_at_most true = omega arith
    one_at_most false = omega arith

    module _ (e : Stamped) (events : List Stamped) (s end next : System) (l : ℕ) (x : Stands s) (step : OsekStep config app e.event s next)
        (blocked : IsBlockedBy config app h s (e ∷ up_to events) l) (leads : AreStepsTo config app events next end) (away : is_entry_of h e.event ≡ false) where
      next_is : Stands next
      next_is = next_awaits config app w h declared highest s next x e.event step away

      -- a lower task goes on, and nothing is fresh behind it
      module _ (t : ℕ) (k : Working config app w h declared highest s next x e.event t) where
        pair : LowerPair config app h t
        pair = record { facts = w; declared = declared; lower = k.lower }

        waits_of : (y : System) → Stands y → Waits pair y
        waits_of y stands = record { valid = stands.valid; ordered = stands.ordered; placed = stands.placed; ready = stands.ready }

        by_t : IsBlockedBy config app h s (e ∷ up_to events) t
        by_t =
            let is = blocked.of_one [] (up_to events) e t refl (record { works = k.works; lower = k.lower.1 }) in
            subst (IsBlockedBy config app h s (e ∷ up_to events)) (sym is) blocked

        out : is_in h next.fresh ≡ false
        out = ap (is_in h) k.settles

        found : Found pair next (lower_events config h (up_to events))
        found = found_all pair events next end (waits_of next next_is) out (blocked_next pair s next e (up_to events) step by_t) leads

        few : (u : ℕ) → BlocksAlone config h next u → waiting (up_to events) ≤ lower_events config h (up_to events) + cond (declaration config u).non 1 0
        few u alone = few_wait events next end u next_is out alone leads

        raised : IsRaisedTo config s t h → waiting (up_to events) ≤ m
        raised up =
            let section = in_front pair s next (lower_events config h (up_to events)) (waits_of s x) k.active k.free up k.step found in
            let le = within pair m most s (suc (lower_events config h (up_to events))) section in
            let alone = blocker config h next next_is.ordered in
            let some = few alone.0 alone.1 in
            let one = one_at_most (declaration config alone.0).non in
            omega (arith, le, some, one)

        -- a service found h fresh
        fresh : (IsRaisedTo config s t h → ⊥) → waiting (up_to events) ≤ m
        fresh low = by (by_t.raised [] (up_to events) e t s refl (record { works = k.works; lower = k.lower.1 }) refl)
          where
            by : IsRaisedTo config s t h ⊎ FindsFresh e.event s h → waiting (up_to events) ≤ m
            by (inl up) = absurd (low up)
            by (inr is) =
                let before = blocker config h s x.ordered in
                let test = lt-ltb _ _ k.lower.1 in
                let both = called config app h declared s next x.ready t before.0 before.1 (k.calls is.0) (inl test) in
                let alone = subst (BlocksAlone config h next) (cond-true _ t before.0 test) both in
                let some = few t alone in
                let le = within pair m most next (lower_events config h (up_to events)) found in
                non (cases_Bool (declaration config t).non) some le
              where
                non : ((declaration config t).non ≡ true) ⊎ ((declaration config t).non ≡ false)
                    → waiting (up_to events) ≤ lower_events config h (up_to events) + cond (declaration config t).non 1 0
                    → lower_events config h (up_to events) ≤ m → waiting (up_to events) ≤ m
                non (inl is) some le = absurd (low (raised_non config app w h declared highest s next x t k.lower.0 k.active k.free is))
                non (inr preempts) some le = let none = ap {B = ℕ} (λ b. cond b 1 0) preempts in omega (arith, some, le, none)

        pub worked : waiting (up_to events) ≤ m
        worked = by (cases_lt (priority_of config t (task s t)) (static_priority config h))
          where
            by : (priority_of config t (task s t) < static_priority config h) ⊎ (static_priority config h ≤ priority_of config t (task s t))
                → waiting (up_to events) ≤ m
            by (inl low) = fresh (λ up. omega (arith, low, up))
            by (inr up) = raised up

      -- a lower task leaves
      left_alone : (t : ℕ) → Leaving config app w h declared highest s next x e.event t → waiting (up_to events) ≡ 0
      left_alone t k =
          let before = blocker config h s x.ordered in
          let test = lt-ltb _ _ k.lower.1 in
          let both = called config app h declared s next x.ready t before.0 before.1 k.calls (inl test) in
          let alone = subst (BlocksAlone config h next) (cond-true _ t before.0 test) both in
          nobody_waits events next end next_is (ap (is_in h) k.calls.moves.acts.settles)
          (λ v b. k.gone (subst (IsActive next) (alone v b) b.active)) leads

    most_cons : (e : Stamped) (events : List Stamped) → MostWait events → MostWait (e ∷ events)
    most_cons e events again s end l x blocked leads =
        cond_both (is_entry_of h e.event) [] (e ∷ up_to events)
        (λ es. IsBlockedBy config app h s es l → waiting es ≤ suc m) (λ _ _. omega arith)
        (λ away now. by away now (turn config app w h declared highest s leads.0 x e.event leads.1 away).2) blocked
      where
        by : is_entry_of h e.event ≡ false → IsBlockedBy config app h s (e ∷ up_to events) l → TurnOf s leads.0 x e.event → waiting (e ∷ up_to events) ≤ suc m
        by away now (turn_outside none is) =
            let rest = again leads.0 end l (next_awaits config app w h declared highest s leads.0 x e.event leads.1 away)
            (record {
              of_one = λ front rest y u eq lower. now.of_one (e ∷ front) rest y u (ap (λ es. e ∷ es) eq) lower;
              raised = λ front rest y u found eq lower on. now.raised (e ∷ front) rest y u found (ap (λ es. e ∷ es) eq) lower (leads.0, leads.1, on);
            }) leads.2 in
            let front = ap {B = ℕ} (λ b. cond b 0 1) is in
            omega (arith, rest, front)
        by away now (turn_work t other k) =
            let rest = worked e events s end leads.0 l x leads.1 now leads.2 away t k in
            let front = ap {B = ℕ} (λ b. cond b 0 1) other in
            omega (arith, rest, front)
        by away now (turn_leave t other k) =
            let rest = left_alone e events s end leads.0 l x leads.1 now leads.2 away t k in
            let front = ap {B = ℕ} (λ b. cond b 0 1) other in
            omega (arith, rest, front)

    most_wait : (events : List Stamped) → MostWait events
    most_wait [] s end l x blocked leads = omega arith
    most_wait (e ∷ events) s end l x blocked leads = most_cons e events (most_wait events) s end l x blocked leads

  -- ---- where no task is lower

  abbrev pub NoneWaits : List Stamped → Type 0
  NoneWaits events = (s end : System) → Stands s → AreStepsTo config app events s end → waiting (up_to events) ≡ 0

  module _ (nobody : (t : ℕ) → ¬ (IsLower config h t)) where
    none_cons : (e : Stamped) (events : List Stamped) → NoneWaits events → NoneWaits (e ∷ events)
    none_cons e events again s end x leads =
        goes_on s x e events leads.0 leads.1 (λ es. waiting es ≡ 0) refl
        (λ away. by away (turn config app w h declared highest s leads.0 x e.event leads.1 away).2)
      where
        by : is_entry_of h e.event ≡ false → TurnOf s leads.0 x e.event → waiting (e ∷ up_to events) ≡ 0
        by away (turn_outside none is) =
            let rest = again leads.0 end (next_awaits config app w h declared highest s leads.0 x e.event leads.1 away) leads.2 in
            let front = ap {B = ℕ} (λ b. cond b 0 1) is in
            omega (arith, rest, front)
        by away (turn_work t other k) = absurd (nobody t k.lower)
        by away (turn_leave t other k) = absurd (nobody t k.lower)

    pub none_waits : (events : List Stamped) → NoneWaits events
    none_waits [] s end x leads = refl
    none_waits (e ∷ events) s end x leads = none_cons e events (none_waits events) s end x leads

  pub waits_at_most : (events : List Stamped) (s end : System) (l b : ℕ) → Stands s → IsBlockedBy config app h s (up_to events) l
      → AreStepsTo config app events s end → IsBound config app h b → waiting (up_to events) ≤ b
  waits_at_most events s end l b x blocked leads (lowest nobody) = let none = none_waits nobody events s end x leads in omega (arith, none)
  waits_at_most events s end l b x blocked leads (above m most) = most_wait m most.none_larger events s end l x blocked leads

  -- and none of them is boot, or the entry of another task
  abbrev OnTheWay : List Stamped → Type 0
  OnTheWay events = (s end : System) → Stands s → AreStepsTo config app events s end → AllByRecursion IsOnTheWay (up_to events)

  on_the_way_cons : (e : Stamped) (events : List Stamped) → OnTheWay events → OnTheWay (e ∷ events)
  on_the_way_cons e events again s end x leads =
      goes_on s x e events leads.0 leads.1 (AllByRecursion IsOnTheWay) tt
      (λ away.
      let whose = turn config app w h declared highest s leads.0 x e.event leads.1 away in
      ((whose.0, whose.1), again leads.0 end (next_awaits config app w h declared highest s leads.0 x e.event leads.1 away) leads.2))

  pub on_the_way : (events : List Stamped) → OnTheWay events
  on_the_way [] s end x leads = tt
  on_the_way (e ∷ events) s end x leads = on_the_way_cons e events (on_the_way events) s end x leads
