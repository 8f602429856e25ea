-- A Ready task is blocked by one lower task at most.
use Rattle.std.proofs.Common.{◌≡◌, ℕ, zero, suc, ◌<◌, ◌≤◌, ◌⊎◌, List, [], ◌∷◌, ◌++◌, length, refl, sym, ◌∙◌, ap, subst, inl, inr, true, false, Bool, cond, arith, ltb, leb, ◌&&◌}
use Rattle.std.specs.Prelude.{◌≢◌}
use Rattle.std.specs.Bool.{Decides}
use Rattle.std.proofs.lemmas.Bool.{cases_eq, cases_Bool, eqb-false, cond-true, cond-false, lt-ltb, ltb-true, ltb-false, both_ways}
use Rattle.std.proofs.lemmas.Bool.Decides.{Decides-and, Decides-ltb}
use Rattle.std.proofs.lemmas.Option.{same_Some}
use Rattle.sloth_base.specs.declared.config.Config.{Config}
use Rattle.sloth_base.specs.declared.app.App.{App}
use Rattle.sloth_base.specs.declared.service.Event.{Event}
use Rattle.sloth_base.specs.declared.service.Event.TheVariants as event
use Rattle.sloth_base.specs.declared.service.Stamped.{Stamped}
use Rattle.osek_scheduler.specs.declared.state.TaskState.TheVariants as mode
use Rattle.osek_scheduler.specs.State.{System, task, opening}
use Rattle.code_rules.specs.Code.{is_in}
use Rattle.osek_scheduler.specs.Priority.{is_active, IsTop}
use Rattle.osek_scheduler.specs.Steps.{OsekStep}
use Rattle.osek_scheduler.specs.Runs.{AreStepsTo, OsekRun}
use Rattle.osek_scheduler.proofs.Leading.{follows_leads, leads-parts, one_step, one_end}
use Rattle.osek_scheduler.proofs.Tests.{Decides-is_active, Decides-leb}
use Rattle.osek_scheduler.specs.Apart.{priority_of, static_priority, IsActive, IsOver}
use Rattle.osek_scheduler.proofs.Apart.{Same, rank_active, rank_ready}
use Rattle.osek_blocking.specs.Blocking.{is_entry_of, events_up_to_entry, IsOfLower, IsRaisedTo, FindsFresh, IsBlockedBy, BlocksOnce}
use Rattle.osek_blocking.proofs.Effects.{IsReady, Ordered, Moves, Enters, Works, Calls, Effect}
use Rattle.osek_blocking.proofs.Ordering.{effect, step_ordered, opening_ordered, leads_ordered}

-- ---- lists

cons_parts : (e y : Stamped) (xs ys : List Stamped) → e ∷ xs ≡ y ∷ ys → (e ≡ y) × (xs ≡ ys)
cons_parts e y xs ys h = (cc, cc)

no_end : (front : List Stamped) (x : Stamped) (rest : List Stamped) → [] ≡ front ++ x ∷ rest → ⊥
no_end [] x rest h = cc
no_end (y ∷ front) x rest h = cc

-- ---- who blocks

-- a lower Active task whose current priority is at least the static priority of h
pub record Blocks (config : Config) (h : ℕ) (s : System) (u : ℕ) : Type 0 where
  pub declared : u < length config.tasks
  pub active : IsActive s u
  pub lower : static_priority config u < static_priority config h
  pub raised : IsRaisedTo config s u h

-- no other than b does
abbrev pub BlocksAlone : Config → ℕ → System → ℕ → Type 0
BlocksAlone config h s b = (u : ℕ) → Blocks config h s u → u ≡ b

-- Who may block behind an event that finds h fresh: behind a service its caller, where it is lower, else b as before; behind an admission
-- who may behind the events that follow.
abbrev behind_event : Config → ℕ → Event → (b further : ℕ) → ℕ
behind_event config h (event.Admit t) b further = further
behind_event config h (event.Due c) b further = further
behind_event config h (event.Call t served status) b further = cond (ltb (static_priority config t) (static_priority config h)) t b
behind_event config h (event.Left t served) b further = cond (ltb (static_priority config t) (static_priority config h)) t b
behind_event config h _ b further = b

-- the same of a list of events
abbrev behind_all : Config → ℕ → List Stamped → ℕ → ℕ
behind_all config h [] b = b
behind_all config h (e ∷ events) b = behind_event config h e.event b (behind_all config h events b)

module _ (config : Config) (h : ℕ) (s : System) (o : Ordered config s) where
  only_one : (b u : ℕ) → Blocks config h s b → Blocks config h s u → u ≡ b
  only_one b u k l = by (cases_eq u b)
    where
      apart : IsOver config s b u ⊎ IsOver config s u b → ⊥
      apart (inl lt) =
          let p = k.lower in
          let q = l.raised in
          omega (arith, lt, p, q)
      apart (inr lt) =
          let p = l.lower in
          let q = k.raised in
          omega (arith, lt, p, q)

      by : (u ≡ b) ⊎ (u ≡ b → ⊥) → u ≡ b
      by (inl e) = e
      by (inr n) = absurd (apart (o.apart.apart u b (record { first = l.declared; second = k.declared; differ = n }) l.active k.active))

  abbrev blocks : ℕ → Bool
  blocks u = is_active (task s u).state && (ltb (static_priority config u) (static_priority config h) && leb (static_priority config h) (priority_of config u (task s u)))

  decides : (u : ℕ) → Decides (blocks u) (IsActive s u × ((static_priority config u < static_priority config h) × IsRaisedTo config s u h))
  decides u =
      Decides-and _ _ (Decides-is_active (task s u).state)
      (Decides-and _ _ (Decides-ltb (static_priority config u) (static_priority config h)) (Decides-leb (static_priority config h) (priority_of config u (task s u))))

  search_below : (n : ℕ) → n ≤ length config.tasks → ((b : ℕ) × Blocks config h s b) ⊎ ((u : ℕ) → u < n → ¬ (Blocks config h s u))
  search_below zero le = inr (λ u lt. absurd (omega (arith, lt)))
  search_below (suc n) le = by (cases_Bool (blocks n)) (search_below n (omega (arith, le)))
    where
      by : (blocks n ≡ true) ⊎ (blocks n ≡ false) → ((b : ℕ) × Blocks config h s b) ⊎ ((u : ℕ) → u < n → ¬ (Blocks config h s u))
          → ((b : ℕ) × Blocks config h s b) ⊎ ((u : ℕ) → u < suc n → ¬ (Blocks config h s u))
      by (inl e) found =
          let d = (decides n).0 e in
          inl (n, record { declared = omega (arith, le); active = d.0; lower = d.1.0; raised = d.1.1 })
      by (inr e) (inl found) = inl found
      by (inr e) (inr none) = inr (λ u lt k. at u lt k (cases_eq u n))
        where
          at : (u : ℕ) → u < suc n → Blocks config h s u → (u ≡ n) ⊎ (u ≡ n → ⊥) → ⊥
          at u lt k (inl same) =
              let here : Blocks config h s n = subst (Blocks config h s) same k in
              both_ways (blocks n) e ((decides n).1 (here.active, (here.lower, here.raised)))
          at u lt k (inr other) = none u (omega (arith, lt, other)) k

  pub blocker : (b : ℕ) × BlocksAlone config h s b
  blocker = by (search_below (length config.tasks) (omega arith))
    where
      by : ((b : ℕ) × Blocks config h s b) ⊎ ((u : ℕ) → u < length config.tasks → ¬ (Blocks config h s u)) → (b : ℕ) × BlocksAlone config h s b
      by (inl found) = (found.0, λ u k. only_one found.0 u found.1 k)
      by (inr none) = (0, λ u k. absurd (none u k.declared k))

-- ---- one event, while h is Ready

module _ (config : Config) (app : App) (h : ℕ) (declared : h < length config.tasks) where
  module _ (s next : System) (ready : IsReady s h) where
    not_it : (t : ℕ) → IsActive s t → h ≢ t
    not_it t a e = clash (task s t).state (subst (λ v. (task s v).state ≡ mode.Ready) e ready) a
      where
        clash : (m : _) → m ≡ mode.Ready → m ≡ mode.Active → ⊥
        clash mode.Suspended a b = absurd cc
        clash mode.Ready a b = absurd cc
        clash mode.Active a b = absurd cc
        clash (mode.Waiting x) a b = absurd cc

    -- h stays Ready
    pub stays : (e : Event) → Effect config s next e → is_entry_of h e ≡ false → IsReady next h
    stays (event.Enter t) f away = f.moves.stays.ready h (λ e. eqb-false t h away (sym e)) ready
    stays (event.Run t func item result) f away = f.moves.stays.ready h (not_it t f.was) ready
    stays (event.Call t served status) f away = f.moves.stays.ready h (not_it t f.was) ready
    stays (event.Left t served) f away = f.moves.stays.ready h (not_it t f.was) ready
    stays (event.Back t) f away = f.moves.stays.ready h (not_it t f.was) ready
    stays e f away = f.ready h ready

    -- and where it is not fresh it does not become so
    none : next.fresh ≡ [] → is_in h next.fresh ≡ false
    none e = ap (is_in h) e

    pub stays_out : (e : Event) → Effect config s next e → is_in h s.fresh ≡ false → is_in h next.fresh ≡ false
    stays_out (event.Admit t) f out = f.fresh h ready ∙ out
    stays_out (event.Enter t) f out = none f.moves.acts.settles
    stays_out (event.Run t func item result) f out = none f.moves.acts.settles
    stays_out (event.Call t served status) f out = none f.moves.acts.settles
    stays_out (event.Left t served) f out = none f.moves.acts.settles
    stays_out (event.Back t) f out = none f.moves.acts.settles
    stays_out (event.Due c) f out = f.fresh h ready ∙ out
    stays_out e f out = none f.settles

    -- a task that the event is not of blocked before, if it blocks behind it
    from_same : (u : ℕ) → Same config u (task s u) (task next u) → Blocks config h next u → Blocks config h s u
    from_same u same b =
        let old = same b.active in
        record {
          declared = b.declared;
          active = old.0;
          lower = b.lower;
          raised = subst (λ x. static_priority config h ≤ x) old.1 b.raised;
        }

    -- so did all, if the task of the event did
    split : (others : List ℕ) (t : ℕ) → Moves config others t s next → (Blocks config h next t → Blocks config h s t)
        → (u : ℕ) → Blocks config h next u → Blocks config h s u
    split others t m own u b = by (cases_eq u t)
      where
        by : (u ≡ t) ⊎ (u ≡ t → ⊥) → Blocks config h s u
        by (inl e) = subst (Blocks config h s) (sym e) (own (subst (Blocks config h next) e b))
        by (inr n) = from_same u (m.acts.calm u n) b

    -- a lower task that is top, h not left out, blocks
    pub at_top : (t : ℕ) (others : List ℕ) → IsTop config s others t → is_in h others ≡ false → IsActive s t
        → static_priority config t < static_priority config h → Blocks config h s t
    at_top t others top out active lower =
        let le = top.is_greatest h declared (inl ready) out in
        let e = rank_ready config s h ready in
        let f = rank_active config s t active in
        record { declared = top.declared; active = active; lower = lower; raised = omega (arith, le, e, f) }

    -- a task that is entered is not below h
    entered : (t : ℕ) → Enters config t s next → Blocks config h next t → Blocks config h s t
    entered t f b =
        let le = f.moves.top.is_greatest h declared (inl ready) refl in
        let e = rank_ready config s h ready in
        let g = rank_ready config s t f.was in
        let lt = b.lower in
        absurd (omega (arith, le, e, g, lt))

    works : (t : ℕ) → Works config t s next → (u : ℕ) → Blocks config h next u → Blocks config h s u
    works t f = split [] t f.moves (λ b. at_top t [] f.moves.top refl f.was b.lower)

    calls : (t : ℕ) → Calls config t s next → is_in h s.fresh ≡ false → (u : ℕ) → Blocks config h next u → Blocks config h s u
    calls t f out = split s.fresh t f.moves (λ b. at_top t s.fresh f.moves.top out f.was b.lower)

    -- no task begins to block, where h is not fresh
    pub old : (e : Event) → Effect config s next e → is_in h s.fresh ≡ false → (u : ℕ) → Blocks config h next u → Blocks config h s u
    old (event.Enter t) f out = split [] t f.moves (entered t f)
    old (event.Run t func item result) f out = works t f
    old (event.Call t served status) f out = calls t f out
    old (event.Left t served) f out = calls t f out
    old (event.Back t) f out = works t f
    old e f out = λ u b. from_same u (f.same u) b

    -- ---- the event of a lower task

    lower_is : (t u : ℕ) → t ≡ u → static_priority config u < static_priority config h → static_priority config t < static_priority config h
    lower_is t u e lt = subst (λ v. static_priority config v < static_priority config h) (sym e) lt

    runs : (t u func item result : ℕ) → Works config t s next → IsOfLower config h (event.Run t func item result) u → Blocks config h s u
    runs t u func item result f l =
        let e = same_Some t u l.works in
        subst (Blocks config h s) e (at_top t [] f.moves.top refl f.was (lower_is t u e l.lower))

    -- where h is not fresh it blocks
    pub at_work : (e : Event) (u : ℕ) → Effect config s next e → IsOfLower config h e u → is_in h s.fresh ≡ false → Blocks config h s u
    at_work (event.Run t func item result) u f l out = runs t u func item result f l
    at_work (event.Call t served status) u f l out =
        let e = same_Some t u l.works in
        subst (Blocks config h s) e (at_top t s.fresh f.moves.top out f.was (lower_is t u e l.lower))
    at_work e u f l out = let w = l.works in absurd cc

    -- what is said of it
    abbrev Seen : Event → (u b : ℕ) → Type 0
    Seen e u b = (u ≡ b) × (IsRaisedTo config s u h ⊎ FindsFresh e s h)

    -- where h is fresh
    fresh_now : (e : Event) (u b further : ℕ) → BlocksAlone config h s b → is_in h s.fresh ≡ true → Effect config s next e → IsOfLower config h e u
        → Seen e u (behind_event config h e b further)
    fresh_now (event.Run t func item result) u b further alone is f l =
        let k = runs t u func item result f l in
        (alone u k, inl k.raised)
    fresh_now (event.Call t served status) u b further alone is f l =
        let e = same_Some t u l.works in
        (sym e ∙ sym (cond-true _ t b (lt-ltb _ _ (lower_is t u e l.lower))), inr (refl, is))
    fresh_now e u b further alone is f l = let w = l.works in absurd cc

    -- behind a service its caller alone may block, or where it is not lower who blocked before
    pub called : (t b : ℕ) → BlocksAlone config h s b → Calls config t s next
        → (ltb (static_priority config t) (static_priority config h) ≡ true) ⊎ (ltb (static_priority config t) (static_priority config h) ≡ false)
        → BlocksAlone config h next (cond (ltb (static_priority config t) (static_priority config h)) t b)
    called t b alone f (inl e) =
        subst (BlocksAlone config h next) (sym (cond-true _ t b e)) (λ u k. by u k (cases_eq u t))
      where
        by : (u : ℕ) → Blocks config h next u → (u ≡ t) ⊎ (u ≡ t → ⊥) → u ≡ t
        by u k (inl same) = same
        by u k (inr n) =
            let l = from_same u (f.moves.acts.calm u n) k in
            let a = f.moves.acts.above u l.declared n l.active in
            let lt = ltb-true _ _ e in
            let r = l.raised in
            absurd (omega (arith, a, lt, r))
    called t b alone f (inr e) =
        subst (BlocksAlone config h next) (sym (cond-false _ t b e)) (λ u k. by u k (cases_eq u t))
      where
        by : (u : ℕ) → Blocks config h next u → (u ≡ t) ⊎ (u ≡ t → ⊥) → u ≡ b
        by u k (inl same) =
            let lt = subst (λ v. static_priority config v < static_priority config h) same k.lower in
            let le = ltb-false _ _ e in
            absurd (omega (arith, lt, le))
        by u k (inr n) = alone u (from_same u (f.moves.acts.calm u n) k)

    -- h is fresh still, or not any more
    abbrev AloneBehind : Event → (b further : ℕ) → Type 0
    AloneBehind e b further =
        ((is_in h next.fresh ≡ true) × (BlocksAlone config h next b × (behind_event config h e b further ≡ further)))
        ⊎ ((is_in h next.fresh ≡ false) × BlocksAlone config h next (behind_event config h e b further))

    fresh_step : (e : Event) (b further : ℕ) → BlocksAlone config h s b → is_in h s.fresh ≡ true → Effect config s next e → AloneBehind e b further
    fresh_step (event.Admit t) b further alone is f = inl (f.fresh h ready ∙ is, (λ u k. alone u (from_same u (f.same u) k), refl))
    fresh_step (event.Enter t) b further alone is f = inr (none f.moves.acts.settles, λ u k. alone u (split [] t f.moves (entered t f) u k))
    fresh_step (event.Run t func item result) b further alone is f = inr (none f.moves.acts.settles, λ u k. alone u (works t f u k))
    fresh_step (event.Call t served status) b further alone is f = inr (none f.moves.acts.settles, called t b alone f (cases_Bool _))
    fresh_step (event.Left t served) b further alone is f = inr (none f.moves.acts.settles, called t b alone f (cases_Bool _))
    fresh_step (event.Back t) b further alone is f = inr (none f.moves.acts.settles, λ u k. alone u (works t f u k))
    fresh_step (event.Due c) b further alone is f = inl (f.fresh h ready ∙ is, (λ u k. alone u (from_same u (f.same u) k), refl))
    fresh_step e b further alone is f = inr (none f.settles, λ u k. alone u (from_same u (f.same u) k))

  -- ---- the events up to the entry

  onward : (next : System) (e : Event) (b further : ℕ) (P : ℕ → Type 0)
      → ((is_in h next.fresh ≡ true) × (BlocksAlone config h next b × (behind_event config h e b further ≡ further)))
      ⊎ ((is_in h next.fresh ≡ false) × BlocksAlone config h next (behind_event config h e b further))
      → (is_in h next.fresh ≡ true → BlocksAlone config h next b → P further)
      → ((c : ℕ) → is_in h next.fresh ≡ false → BlocksAlone config h next c → P c) → P (behind_event config h e b further)
  onward next e b further P (inl g) first second = subst P (sym g.1.1) (first g.0 g.1.0)
  onward next e b further P (inr g) first second = second (behind_event config h e b further) g.0 g.1

  opened : (e : Stamped) (events front rest : List Stamped) (x : Stamped) → events_up_to_entry h (e ∷ events) ≡ front ++ x ∷ rest
      → (is_entry_of h e.event ≡ false) × (e ∷ events_up_to_entry h events ≡ front ++ x ∷ rest)
  opened e events front rest x is = by (is_entry_of h e.event) refl
    where
      by : (c : Bool) → is_entry_of h e.event ≡ c → (is_entry_of h e.event ≡ false) × (e ∷ events_up_to_entry h events ≡ front ++ x ∷ rest)
      by true c = absurd (no_end front x rest (sym (cond-true _ [] (e ∷ events_up_to_entry h events) c) ∙ is))
      by false c = (c, sym (cond-false _ [] (e ∷ events_up_to_entry h events) c) ∙ is)

  -- the state that the event behind `front` finds, and what is said of the event
  record Found (s : System) (front : List Stamped) (e : Event) (u b : ℕ) : Type 0 where
    found : System
    leads : AreStepsTo config app front s found
    of : u ≡ b
    raised : IsRaisedTo config found u h ⊎ FindsFresh e found h

  further_on : (y : Stamped) (front : List Stamped) (e : Event) (s next : System) (u b : ℕ) → OsekStep config app y.event s next → Found next front e u b
      → Found s (y ∷ front) e u b
  further_on y front e s next u b step f = record { found = f.found; leads = (next, step, f.leads); of = f.of; raised = f.raised }

  late : (events front rest : List Stamped) (x : Stamped) (s end : System) (u b : ℕ) → Ordered config s → IsReady s h
      → is_in h s.fresh ≡ false → BlocksAlone config h s b → AreStepsTo config app events s end → events_up_to_entry h events ≡ front ++ x ∷ rest
      → IsOfLower config h x.event u → Found s front x.event u b
  late [] front rest x s end u b o ready out alone leads is lower = absurd (no_end front x rest is)
  late (e ∷ events) [] rest x s end u b o ready out alone leads is lower =
      let p = cons_parts e x _ _ (opened e events [] rest x is).1 in
      let now : IsOfLower config h e.event u = subst (λ (z : Stamped). IsOfLower config h z.event u) (sym p.0) lower in
      let k = at_work s leads.0 ready e.event u (effect config app s leads.0 o e.event leads.1) now out in
      record { found = s; leads = refl; of = alone u k; raised = inl k.raised }
  late (e ∷ events) (y ∷ front) rest x s end u b o ready out alone leads is lower =
      let opens = opened e events (y ∷ front) rest x is in
      let p = cons_parts e y _ _ opens.1 in
      let next = leads.0 in
      let f = effect config app s next o e.event leads.1 in
      let step : OsekStep config app y.event s next = subst (λ (z : Stamped). OsekStep config app z.event s next) p.0 leads.1 in
      further_on y front x.event s next u b step
      (late events front rest x next end u b (step_ordered config app s next o e.event leads.1) (stays s next ready e.event f opens.0)
      (stays_out s next ready e.event f out) (λ v k. alone v (old s next ready e.event f out v k)) leads.2 p.1 lower)

  early : (events front rest : List Stamped) (x : Stamped) (s end : System) (u b : ℕ) → Ordered config s → IsReady s h
      → is_in h s.fresh ≡ true → BlocksAlone config h s b → AreStepsTo config app events s end → events_up_to_entry h events ≡ front ++ x ∷ rest
      → IsOfLower config h x.event u → Found s front x.event u (behind_all config h events b)
  early [] front rest x s end u b o ready fresh alone leads is lower = absurd (no_end front x rest is)
  early (e ∷ events) [] rest x s end u b o ready fresh alone leads is lower =
      let p = cons_parts e x _ _ (opened e events [] rest x is).1 in
      let c = behind_all config h (e ∷ events) b in
      let now : IsOfLower config h e.event u = subst (λ (z : Stamped). IsOfLower config h z.event u) (sym p.0) lower in
      let k = fresh_now s leads.0 ready e.event u b (behind_all config h events b) alone fresh (effect config app s leads.0 o e.event leads.1) now in
      let P : Stamped → Type 0 = λ z. IsRaisedTo config s u h ⊎ FindsFresh z.event s h in
      record { found = s; leads = refl; of = k.0; raised = subst P p.0 k.1 }
  early (e ∷ events) (y ∷ front) rest x s end u b o ready fresh alone leads is lower =
      let opens = opened e events (y ∷ front) rest x is in
      let p = cons_parts e y _ _ opens.1 in
      let next = leads.0 in
      let f = effect config app s next o e.event leads.1 in
      let step : OsekStep config app y.event s next = subst (λ (z : Stamped). OsekStep config app z.event s next) p.0 leads.1 in
      let ordered = step_ordered config app s next o e.event leads.1 in
      let stay = stays s next ready e.event f opens.0 in
      further_on y front x.event s next u (behind_all config h (e ∷ events) b) step
      (onward next e.event b (behind_all config h events b) (λ c. Found next front x.event u c)
      (fresh_step s next ready e.event b (behind_all config h events b) alone fresh f)
      (λ a q. early events front rest x next end u b ordered stay a q leads.2 p.1 lower)
      (λ c a q. late events front rest x next end u c ordered stay a q leads.2 p.1 lower))

  -- what is found is found once
  blocked_by : (events : List Stamped) (s : System) (b : ℕ)
      → ((front rest : List Stamped) (e : Stamped) (u : ℕ) → events ≡ front ++ e ∷ rest → IsOfLower config h e.event u → Found s front e.event u b)
      → IsBlockedBy config app h s events b
  blocked_by events s b f = record {
    of_one = λ front rest e u is lower. (f front rest e u is lower).of;
    raised = λ front rest e u found is lower leads.
        let k = f front rest e u is lower in
        subst (λ (x : System). IsRaisedTo config x u h ⊎ FindsFresh e.event x h) (one_end config app front s k.found found k.leads leads) k.raised;
  }

  once : (events : List Stamped) (s end : System) → Ordered config s → IsReady s h → AreStepsTo config app events s end
      → (b : ℕ) × IsBlockedBy config app h s (events_up_to_entry h events) b
  once events s end o ready leads = by (cases_Bool (is_in h s.fresh))
    where
      b : ℕ
      b = (blocker config h s o).0

      alone : BlocksAlone config h s b
      alone = (blocker config h s o).1

      by : (is_in h s.fresh ≡ true) ⊎ (is_in h s.fresh ≡ false) → (b : ℕ) × IsBlockedBy config app h s (events_up_to_entry h events) b
      by (inl fresh) = (
        behind_all config h events b,
        blocked_by (events_up_to_entry h events) s (behind_all config h events b)
            (λ front rest e u is lower. early events front rest e s end u b o ready fresh alone leads is lower),
      )
      by (inr out) = (b, blocked_by (events_up_to_entry h events) s b (λ front rest e u is lower. late events front rest e s end u b o ready out alone leads is lower))

-- ---- runs

pub block_once : (config : Config) (app : App) (events : List Stamped) → OsekRun config app events → BlocksOnce config app events
block_once config app events run before behind made h found s is leads makes =
    let whole = follows_leads config app [] (opening config app) events run.0 run.1 in
    let parts = leads-parts config app before (made ∷ behind) (opening config app) run.0
    (subst (λ es. AreStepsTo config app es (opening config app) run.0) is whole) in
    let met = one_end config app before (opening config app) parts.0 found parts.1 leads in
    let step = subst (λ x. OsekStep config app made.event x parts.2.0) met parts.2.1 in
    let next = one_step config app made.event found parts.2.0 s step makes.step in
    let ordered = leads_ordered config app before (opening config app) found (opening_ordered config app) leads in
    once config app h makes.declared behind s run.0 (step_ordered config app found s ordered made.event makes.step) makes.behind
    (subst (λ x. AreStepsTo config app behind x run.0) next parts.2.2)
