-- A tick makes a task Ready, or sets its events, only where an alarm of its counter does.
use Rattle.std.proofs.Common.{◌≡◌, ℕ, ◌+◌, ◌-◌, ◌<◌, ◌≤◌, ◌⊎◌, ◌==◌, ◌&&◌, ◌||◌, not, length, List, [], ◌∷◌, ◌++◌, Bool, true, false, cond, refl, sym, ap, ◌∙◌, subst, arith, inl, inr, bit_and, bit_or}
use Rattle.std.specs.List.{AllByRecursion}
use Rattle.std.proofs.lemmas.Bool.{cases_eq, cases_lt, cond_both, false≢true, eqb-true, eqb-false, or_parts}
use Rattle.std.proofs.lemmas.List.{get_or_past}
use Rattle.sloth_base.specs.Options.{is_number}
use Rattle.sloth_base.specs.declared.config.Action.{Action}
use Rattle.sloth_base.specs.declared.config.Action.TheVariants as action
use Rattle.sloth_base.specs.declared.config.AlarmDecl.{AlarmDecl}
use Rattle.sloth_base.specs.declared.config.Config.{Config}
use Rattle.sloth_base.specs.declared.app.App.{App}
use Rattle.sloth_base.specs.declared.service.Event.{Event}
use Rattle.sloth_base.specs.declared.service.Event.TheVariants as event
use Rattle.sloth_base.specs.Owners.{counter_line}
use Rattle.sloth_base.specs.Named.{counter_declaration}
use Rattle.osek_scheduler.specs.declared.state.TaskState.{TaskState}
use Rattle.osek_scheduler.specs.declared.state.TaskState.TheVariants as mode
use Rattle.osek_scheduler.specs.State.{Frame, Task, System, sleeping_task, task, alarm, opening}
use Rattle.osek_scheduler.specs.Services.{activated_state, woken_state, with_events, set_events, with_left, acted_state, alarm_ticked_state, alarms_ticked_state, counted_on_state}
use Rattle.osek_scheduler.specs.Steps.{OsekStep}
use Rattle.osek_scheduler.specs.Valid.{InState, IsValid}
use Rattle.osek_scheduler.proofs.Apart.{at_task}
use Rattle.osek_scheduler.proofs.Facts.{facts}
use Rattle.osek_scheduler.proofs.Leading.{follows_leads}
use Rattle.osek_scheduler.proofs.Outcomes.{by_suspended}
use Rattle.osek_scheduler.proofs.Steps.{opening_valid}
use Rattle.osek_blocking.proofs.Ordering.{opening_ordered}
use Rattle.run_counts.specs.Stages.{Stage, run_stages}
use Rattle.response_laws.specs.Sums.{total_where, count}
use Rattle.sim_induction.specs.Events.{has_frames}
use Rattle.response_laws.specs.Turns.{ticking_counter, at_tick, is_ready_for, has_grown, activated, was_set}
use Rattle.response_laws.specs.Ticks.{activates, sets_events, has_alarm, TicksMakeByAlarms}
use Rattle.response_laws.proofs.Linked.{Known, each_append, stages_known}
use Rattle.response_laws.proofs.Steps.{activated_between, set_between, not_activated, not_set, at_most_one}
use Rattle.response_laws.proofs.Making.{begun_acts, fresh_sets}

-- ---- the alarms of a tick

module _ (j : ℕ) (P : Task → Type 0) where
  abbrev Kept : System → Type 0
  Kept x = P (task x j)

  -- an action on another task
  pub other_activated : (t : ℕ) (x : System) → (t ≡ j → ⊥) → Kept x → Kept (acted_state (action.Activate t) x)
  other_activated t x n h =
      by_suspended (task x t).state (activated_state x t) x Kept
      (λ _. at_task x t j (record (task x t) { state = mode.Ready }) P h (λ e. absurd (n (sym e)))) (λ _. h)

  other_set : (t mask : ℕ) (x : System) → (t ≡ j → ⊥) → Kept x → Kept (acted_state (action.Set t mask) x)
  other_set t mask x n h = by_suspended (task x t).state x (set_events t mask x) Kept (λ _. h) (λ _. woken (task x t).state)
    where
      set : Kept (with_events x t (bit_or (task x t).events mask))
      set = at_task x t j (record (task x t) { events = bit_or (task x t).events mask }) P h (λ e. absurd (n (sym e)))

      woken : (m : TaskState) → Kept (woken_state m (bit_or (task x t).events mask) t (with_events x t (bit_or (task x t).events mask)))
      woken mode.Suspended = set
      woken mode.Ready = set
      woken mode.Active = set
      woken (mode.Waiting awaited) = by (bit_and (bit_or (task x t).events mask) awaited == 0)
        where
          by : (b : Bool) → Kept (cond b (with_events x t (bit_or (task x t).events mask)) (activated_state (with_events x t (bit_or (task x t).events mask)) t))
          by true = set
          by false =
              at_task (with_events x t (bit_or (task x t).events mask)) t j
              (record (task (with_events x t (bit_or (task x t).events mask)) t) { state = mode.Ready }) P set (λ e. absurd (n (sym e)))

  module _ (test : Action → Bool) (safe : (does : Action) (x : System) → test does ≡ false → Kept x → Kept (acted_state does x)) where
    pub alarm_kept : (does : Action) (a : ℕ) (x : System) → test does ≡ false → Kept x → Kept (alarm_ticked_state does a x)
    alarm_kept does a x is h =
        cond_both ((alarm x a).left == 1) (acted_state does (with_left a (alarm x a).cycle x)) (with_left a ((alarm x a).left - 1) x) Kept
        (λ _. safe does (with_left a (alarm x a).cycle x) is h) (λ _. h)

    pub alarms_kept : (c first : ℕ) (ds : List AlarmDecl) (x : System) → has_alarm c test ds ≡ false → Kept x → Kept (alarms_ticked_state c first ds x)
    alarms_kept c first [] x none h = h
    alarms_kept c first (d ∷ ds) x none h =
        let both = or_parts ((d.counter == c) && test d.action) (has_alarm c test ds) none in
        alarms_kept c (first + 1) ds (cond (d.counter == c) (alarm_ticked_state d.action first x) x) both.1
        (cond_both (d.counter == c) (alarm_ticked_state d.action first x) x Kept
        (λ is. alarm_kept d.action first x (sym (ap (λ b. b && test d.action) is) ∙ both.0) h) (λ _. h))

-- ---- what no alarm makes

module _ (config : Config) (app : App) (j : ℕ) (s : System) (v : IsValid config app s) where
  -- not made Ready to begin anew; where it waits, it has begun
  pub record IsUnmade (k : Task) : Type 0 where
    pub acts : activated_between (task s j) k ≡ 0
    pub waits : (awaited : ℕ) → k.state ≡ mode.Waiting awaited → has_frames k.frames ≡ true

  -- no event of it is set; where it is Suspended, it has no frames, and no more events
  pub record IsUnset (k : Task) : Type 0 where
    pub sets : set_between (task s j) k ≡ 0
    pub bare : k.state ≡ mode.Suspended → (has_frames k.frames ≡ false) × (k.events ≤ (task s j).events)

  within : (P : Task → Type 0) → ((j < length config.tasks) → P (task s j)) → P sleeping_task → P (task s j)
  within P inside outside = by (cases_lt j (length s.tasks))
    where
      by : (j < length s.tasks) ⊎ (length s.tasks ≤ j) → P (task s j)
      by (inl lt) = inside (subst (λ n. j < n) v.count lt)
      by (inr past) = subst P (sym (get_or_past s.tasks j sleeping_task past)) outside

  pub first_unmade : IsUnmade (task s j)
  first_unmade = record {
    acts = not_activated (task s j);
    waits =
        within (λ k. (awaited : ℕ) → k.state ≡ mode.Waiting awaited → has_frames k.frames ≡ true)
        (λ lt awaited is. begun (task s j).frames (subst (InState config j (task s j)) is (v.each j lt).in_state).1) (λ awaited is. absurd cc);
  }
    where
      begun : (fs : List Frame) → (fs ≡ [] → ⊥) → has_frames fs ≡ true
      begun [] some = absurd (some refl)
      begun (frame ∷ outer) some = refl

  pub first_unset : IsUnset (task s j)
  first_unset = record {
    sets = not_set (task s j);
    bare = λ is. (
      within (λ k. k.state ≡ mode.Suspended → has_frames k.frames ≡ false)
          (λ lt asleep. ap has_frames (subst (InState config j (task s j)) asleep (v.each j lt).in_state).1) (λ _. refl) is,
      omega arith,
    );
  }

  pub safe_activates : (does : Action) (x : System) → activates j does ≡ false → IsUnmade (task x j) → IsUnmade (task (acted_state does x) j)
  safe_activates (action.Activate t) x is h = other_activated j IsUnmade t x (eqb-false t j is) h
  safe_activates (action.Set t mask) x is h = by (cases_eq t j)
    where
      own : IsUnmade (task (acted_state (action.Set j mask) x) j)
      own = by_suspended (task x j).state x (set_events j mask x) (λ (y : System). IsUnmade (task y j)) (λ _. h) (λ _. woken (task x j).state refl)
        where
          set : IsUnmade (task (with_events x j (bit_or (task x j).events mask)) j)
          set =
              at_task x j j (record (task x j) { events = bit_or (task x j).events mask }) IsUnmade h (λ _. record { acts = h.acts; waits = h.waits })

          woken : (m : TaskState) → (task x j).state ≡ m
              → IsUnmade (task (woken_state m (bit_or (task x j).events mask) j (with_events x j (bit_or (task x j).events mask))) j)
          woken mode.Suspended e = set
          woken mode.Ready e = set
          woken mode.Active e = set
          woken (mode.Waiting awaited) e = by (bit_and (bit_or (task x j).events mask) awaited == 0)
            where
              frames_begun : has_frames (task (with_events x j (bit_or (task x j).events mask)) j).frames ≡ true
              frames_begun =
                  at_task x j j (record (task x j) { events = bit_or (task x j).events mask }) (λ k. has_frames k.frames ≡ true) (h.waits awaited e)
                  (λ _. h.waits awaited e)

              by : (b : Bool)
                  → IsUnmade (task (cond b (with_events x j (bit_or (task x j).events mask)) (activated_state (with_events x j (bit_or (task x j).events mask)) j)) j)
              by true = set
              by false =
                  at_task (with_events x j (bit_or (task x j).events mask)) j j
                  (record (task (with_events x j (bit_or (task x j).events mask)) j) { state = mode.Ready }) IsUnmade set
                  (λ _. record {
                    acts = begun_acts (task s j) (record (task (with_events x j (bit_or (task x j).events mask)) j) { state = mode.Ready }) frames_begun;
                    waits = λ awaited is. absurd cc;
                  })

      by : (t ≡ j) ⊎ (t ≡ j → ⊥) → IsUnmade (task (acted_state (action.Set t mask) x) j)
      by (inl e) = subst (λ u. IsUnmade (task (acted_state (action.Set u mask) x) j)) (sym e) own
      by (inr n) = other_set j IsUnmade t mask x n h

  pub safe_sets : (does : Action) (x : System) → sets_events j does ≡ false → IsUnset (task x j) → IsUnset (task (acted_state does x) j)
  safe_sets (action.Set t mask) x is h = other_set j IsUnset t mask x (eqb-false t j is) h
  safe_sets (action.Activate t) x is h = by (cases_eq t j)
    where
      own : IsUnset (task (acted_state (action.Activate j) x) j)
      own =
          by_suspended (task x j).state (activated_state x j) x (λ (y : System). IsUnset (task y j))
          (λ asleep.
          at_task x j j (record (task x j) { state = mode.Ready }) IsUnset h
          (λ _. record {
            sets = fresh_sets (task s j) (record (task x j) { state = mode.Ready }) (h.bare asleep).0 (h.bare asleep).1;
            bare = λ is. absurd cc;
          }))
          (λ _. h)

      by : (t ≡ j) ⊎ (t ≡ j → ⊥) → IsUnset (task (acted_state (action.Activate t) x) j)
      by (inl e) = subst (λ u. IsUnset (task (acted_state (action.Activate u) x) j)) (sym e) own
      by (inr n) = other_activated j IsUnset t x n h

  ticked_none : (c : ℕ) (next : System) → OsekStep config app (event.Tick c) s next
      → (has_alarm c (activates j) config.alarms ≡ false → activated_between (task s j) (task next j) ≡ 0)
      × (has_alarm c (sets_events j) config.alarms ≡ false → set_between (task s j) (task next j) ≡ 0)
  ticked_none c next step = (
    λ none. subst (λ (y : System). activated_between (task s j) (task y j) ≡ 0) (sym step.2)
        (alarms_kept j IsUnmade (activates j) safe_activates c 0 config.alarms (counted_on_state c (counter_declaration config c).max s) none first_unmade).acts,
    λ none. subst (λ (y : System). set_between (task s j) (task y j) ≡ 0) (sym step.2)
        (alarms_kept j IsUnset (sets_events j) safe_sets c 0 config.alarms (counted_on_state c (counter_declaration config c).max s) none first_unset).sets,
  )

-- ---- sums

module _ (config : Config) (app : App) (c j : ℕ) where
  tick_none : (x : Stage) → Known config app x → at_tick c x ≡ true
      → (has_alarm c (activates j) config.alarms ≡ false → activated j x ≡ 0) × (has_alarm c (sets_events j) config.alarms ≡ false → was_set j x ≡ 0)
  tick_none x k is = by x.stamped.event k.step is
    where
      by : (e : Event) → OsekStep config app e x.found x.next → is_number c (ticking_counter e) ≡ true
          → (has_alarm c (activates j) config.alarms ≡ false → activated j x ≡ 0) × (has_alarm c (sets_events j) config.alarms ≡ false → was_set j x ≡ 0)
      by (event.Tick d) step is =
          ticked_none config app j x.found k.valid c x.next (subst (λ w. OsekStep config app (event.Tick w) x.found x.next) (eqb-true d c is) step)
      by e step is = absurd (false≢true is)

  ticks_few : (f : Stage → ℕ) (some : Bool) (most : ℕ) → ((x : Stage) → f x ≤ 1) → ((x : Stage) → Known config app x → at_tick c x ≡ true → some ≡ false → f x ≡ 0)
      → (xs : List Stage) → AllByRecursion (Known config app) xs → count (at_tick c) xs ≤ most → total_where (at_tick c) f xs ≤ cond some most 0
  ticks_few f true most one none xs k le = let few = counted xs in omega (arith, few, le)
    where
      counted : (xs : List Stage) → total_where (at_tick c) f xs ≤ count (at_tick c) xs
      counted [] = omega arith
      counted (x ∷ xs) = let rest = counted xs in let here = by (at_tick c x) in omega (arith, rest, here)
        where
          by : (b : Bool) → cond b (f x) 0 ≤ cond b 1 0
          by true = one x
          by false = omega arith
  ticks_few f false most one none xs k le = nothing xs k
    where
      nothing : (xs : List Stage) → AllByRecursion (Known config app) xs → total_where (at_tick c) f xs ≤ 0
      nothing [] k = omega arith
      nothing (x ∷ xs) k = let rest = nothing xs k.1 in let here = by (at_tick c x) refl in omega (arith, rest, here)
        where
          by : (b : Bool) → at_tick c x ≡ b → cond b (f x) 0 ≤ 0
          by true is = let zero = none x k.0 is refl in omega (arith, zero)
          by false other = omega arith

pub ticks_make_by_alarms : TicksMakeByAlarms
ticks_make_by_alarms config app events s wf osek has = record {
  acts = λ c j before xs behind is boots le.
      let few = ticks_few config app c j (activated j) (has_alarm c (activates j) config.alarms) (s.inflow.arrivals (counter_line c)) (λ x. acts_once j x)
      (λ x k tick none. (tick_none config app c j x k tick).0 none) xs (part before xs behind is) le in
      let most = has.acts c j in
      omega (arith, few, most);
  sets = λ c j before xs behind is boots le.
      let few = ticks_few config app c j (was_set j) (has_alarm c (sets_events j) config.alarms) (s.inflow.arrivals (counter_line c)) (λ x. sets_once j x)
      (λ x k tick none. (tick_none config app c j x k tick).1 none) xs (part before xs behind is) le in
      let most = has.sets c j in
      omega (arith, few, most);
}
  where
    known : AllByRecursion (Known config app) (run_stages config app events)
    known =
        stages_known config app (facts config app wf) 0 (opening config app) osek.0 events (opening_ordered config app) (opening_valid config app)
        (follows_leads config app [] (opening config app) events osek.0 osek.1)

    part : (before xs behind : List Stage) → run_stages config app events ≡ before ++ (xs ++ behind) → AllByRecursion (Known config app) xs
    part before xs behind is =
        (each_append (Known config app) xs behind (each_append (Known config app) before (xs ++ behind) (subst (AllByRecursion (Known config app)) is known)).1).0

    acts_once : (j : ℕ) (x : Stage) → activated j x ≤ 1
    acts_once j x = at_most_one (not (is_ready_for false (task x.found j)) && is_ready_for false (task x.next j))

    sets_once : (j : ℕ) (x : Stage) → was_set j x ≤ 1
    sets_once j x =
        at_most_one ((not (is_ready_for true (task x.found j)) && is_ready_for true (task x.next j)) || has_grown (task x.found j).events (task x.next j).events)
