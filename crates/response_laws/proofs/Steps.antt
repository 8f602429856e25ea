-- What one stage does to a task's state, and to a counter.
use Rattle.std.proofs.Common.{◌≡◌, ℕ, ◌+◌, ◌<◌, ◌≤◌, ◌⊎◌, ◌&&◌, ◌||◌, ◌==◌, not, List, [], ◌∷◌, Bool, true, false, cond, length, get_or, refl, sym, ap, ◌∙◌, subst, arith, inl, inr, bit_or}
use Rattle.std.specs.Prelude.{is_some, ◌-◌}
use Rattle.std.proofs.lemmas.Bool.{cases_Bool, cases_lt, cond_both, false≢true, true≢false, eqb-true, eqb-false, eq-eqb, ne_eqb, and_right, and_left, and_parts}
use Rattle.std.proofs.lemmas.List.{get_or-set_same, set_past, get_or_past}
use Rattle.sloth_base.specs.Options.{is_number}
use Rattle.sloth_base.specs.declared.service.Service.{Service}
use Rattle.sloth_base.specs.declared.config.Action.{Action}
use Rattle.sloth_base.specs.declared.config.AlarmDecl.{AlarmDecl}
use Rattle.sloth_base.specs.declared.config.Config.{Config}
use Rattle.sloth_base.specs.declared.app.App.{App}
use Rattle.sloth_base.specs.declared.service.Event.{Event}
use Rattle.sloth_base.specs.declared.service.Event.TheVariants as event
use Rattle.sloth_base.specs.Events.{admitted_line}
use Rattle.sloth_base.specs.Owners.{counter_line}
use Rattle.sloth_base.specs.Named.{counter_declaration}
use Rattle.osek_scheduler.specs.declared.state.Counter.{Counter}
use Rattle.osek_scheduler.specs.declared.state.TaskState.TheVariants as mode
use Rattle.osek_scheduler.specs.State.{Task, System, sleeping_task, task, with_task, no_counter, counter, with_counter, alarm}
use Rattle.osek_scheduler.specs.Next.{is_ready}
use Rattle.osek_scheduler.specs.Services.{activated_state, acted_state, alarm_ticked_state, alarms_ticked_state, counted_on_state, ticked_state, with_left, ServiceOutcome}
use Rattle.osek_scheduler.specs.Outcomes.{decision}
use Rattle.osek_scheduler.specs.Steps.{OsekStep, IsServiceStep, admitted_state}
use Rattle.osek_scheduler.specs.Valid.{InState}
use Rattle.osek_scheduler.specs.Apart.{IsActive}
use Rattle.osek_scheduler.proofs.ServiceStates.{IsAfter}
use Rattle.osek_scheduler.proofs.Outcomes.{by_suspended, KeptByOthers, sets_keep, outcome_keeps_all}
use Rattle.osek_scheduler.proofs.Ticking.{acted_keeps}
use Rattle.osek_scheduler.proofs.Apart.{at_task}
use Rattle.osek_scheduler.proofs.Going.{at_set}
use Rattle.osek_blocking.proofs.Ordering.{effect}
use Rattle.run_counts.specs.Stages.{Stage, is_entry}
use Rattle.run_counts.proofs.StepCases.{clock_behind}
use Rattle.run_counts.proofs.TaskCases.{TaskCase, entry_case, work_case, service_case, rest_case, task_case}
use Rattle.sim_induction.specs.Events.{has_frames}
use Rattle.response_laws.specs.Turns.{ticking_counter, in_turn, at_entry, at_entry_for, at_tick, at_admission, as_said, is_ready_for, is_made, activated, has_grown, was_set}
use Rattle.response_laws.proofs.Linked.{Known}

-- ---- Active tasks

same_of : (t u : ℕ) (P : ℕ → Type 0) → (u == t) ≡ true → P u → P t
same_of t u P is h = subst P (eqb-true u t is) h

module _ (config : Config) (app : App) (t : ℕ) (x : Stage) (k : Known config app x) where
  case_of : TaskCase config x.found x.next t x.stamped.event
  case_of = task_case config x.found x.next t x.stamped.event (effect config app x.found x.next k.ordered x.stamped.event k.step)

  -- a task is Active in its turn
  pub turn_active : in_turn t x ≡ true → IsActive x.found t
  turn_active is = by case_of
    where
      by : TaskCase config x.found x.next t x.stamped.event → IsActive x.found t
      by (work_case turn out calls f) = f.was
      by (service_case turn out calls f) = f.was
      by (entry_case entry away f) = absurd (true≢false (sym is ∙ away))
      by (rest_case away out same ready) = absurd (true≢false (sym is ∙ away))

  -- a task that is Active was so before, unless it was entered
  pub stays_inactive : at_entry t x ≡ false → IsActive x.next t → IsActive x.found t
  stays_inactive away active = by case_of
    where
      by : TaskCase config x.found x.next t x.stamped.event → IsActive x.found t
      by (work_case turn out calls f) = f.was
      by (service_case turn out calls f) = f.was
      by (entry_case entry idle f) = absurd (true≢false (sym entry ∙ away))
      by (rest_case idle out same ready) = (same active).0

-- an Active task is one of the configuration
pub active_declared : (config : Config) (s : System) (t : ℕ) → length s.tasks ≡ length config.tasks → IsActive s t → t < length config.tasks
active_declared config s t count active = by (cases_lt t (length config.tasks))
  where
    differ : mode.Suspended ≡ mode.Active → ⊥
    differ e = cc

    by : (t < length config.tasks) ⊎ (length config.tasks ≤ t) → t < length config.tasks
    by (inl lt) = lt
    by (inr past) =
        let none : (task s t).state ≡ mode.Suspended =
        ap (λ (k : Task). k.state) (get_or_past s.tasks t sleeping_task (subst (λ n. n ≤ t) (sym count) past)) in
        absurd (differ (sym none ∙ active))

-- ---- Ready tasks

-- 1 where the task is Ready, to begin anew or to go on behind a wait, else 0
abbrev pub ready_count : (again : Bool) → (t : ℕ) → System → ℕ
ready_count again t s = cond (is_ready_for again (task s t)) 1 0

pub at_most_one : (b : Bool) → cond b 1 0 ≤ 1
at_most_one true = omega arith
at_most_one false = omega arith

module _ (config : Config) (app : App) (again : Bool) (t : ℕ) where
  -- an entry finds its task Ready
  entry_ready : (e : Event) (s next : System) → OsekStep config app e s next → is_entry t e ≡ true → is_ready (task s t).state ≡ true
  entry_ready (event.Enter u) s next h is = same_of t u (λ v. is_ready (task s v).state ≡ true) is (ap is_ready h.2)
  entry_ready e s next h is = absurd (false≢true is)

  -- and leaves it Active
  sleeps : (s : System) (new : Task) → is_ready new.state ≡ false → is_ready (task (with_task s t new) t).state ≡ false
  sleeps s new is = by (cases_lt t (length s.tasks))
    where
      by : (t < length s.tasks) ⊎ (length s.tasks ≤ t) → is_ready (task (with_task s t new) t).state ≡ false
      by (inl lt) = ap (λ (k : Task). is_ready k.state) (get_or-set_same s.tasks t new sleeping_task lt) ∙ is
      by (inr past) =
          ap (λ (ts : List Task). is_ready (get_or ts t sleeping_task).state) (set_past s.tasks t new past) ∙ ap (λ (k : Task). is_ready k.state) (get_or_past s.tasks t sleeping_task past)

  entry_leaves : (e : Event) (s next : System) → OsekStep config app e s next → is_entry t e ≡ true → is_ready (task next t).state ≡ false
  entry_leaves (event.Enter u) s next h is =
      let e = eqb-true u t is in
      let there : OsekStep config app (event.Enter t) s next = subst (λ v. OsekStep config app (event.Enter v) s next) e h in
      subst (λ (y : System). is_ready (task y t).state ≡ false) (sym there.4) (sleeps s _ refl)
  entry_leaves e s next h is = absurd (false≢true is)

  module _ (x : Stage) (k : Known config app x) where
    -- what an entry takes, as the task stands
    taken : at_entry_for again t x ≡ true → is_ready_for again (task x.found t) ≡ true
    taken is =
        let both = and_parts (at_entry t x) (as_said again (has_frames (task x.found t).frames)) is in
        let ready = entry_ready x.stamped.event x.found x.next k.step both.0 in
        ap (λ b. b && as_said again (has_frames (task x.found t).frames)) ready ∙ both.1

    left : at_entry_for again t x ≡ true → is_ready_for again (task x.next t) ≡ false
    left is =
        let both = and_parts (at_entry t x) (as_said again (has_frames (task x.found t).frames)) is in
        and_left (is_ready (task x.next t).state) _ (entry_leaves x.stamped.event x.found x.next k.step both.0)

    -- an entry takes a Ready task
    pub entry_takes : cond (at_entry_for again t x) 1 0 ≤ ready_count again t x.found
    entry_takes = by (at_entry_for again t x) refl
      where
        by : (b : Bool) → at_entry_for again t x ≡ b → cond b 1 0 ≤ ready_count again t x.found
        by true is = let e = ap {B = ℕ} (λ b. cond b 1 0) (taken is) in omega (arith, e)
        by false other = omega arith

    -- a task becomes Ready by a making, and an entry ends that
    pub entry_balance : cond (at_entry_for again t x) 1 0 + ready_count again t x.next ≤ cond (is_made again t x) 1 0 + ready_count again t x.found
    entry_balance = by (at_entry_for again t x) refl
      where
        kept : (a b : Bool) → cond b 1 0 ≤ cond (not a && b) 1 0 + cond a 1 0
        kept true b = one b
          where
            one : (b : Bool) → cond b 1 0 ≤ 0 + 1
            one true = omega arith
            one false = omega arith
        kept false b = omega arith

        by : (b : Bool) → at_entry_for again t x ≡ b
            → cond b 1 0 + ready_count again t x.next ≤ cond (is_made again t x) 1 0 + ready_count again t x.found
        by true is =
            let e = ap {B = ℕ} (λ b. cond b 1 0) (taken is) in
            let f = ap {B = ℕ} (λ b. cond b 1 0) (left is) in
            omega (arith, e, f)
        by false other = let le = kept (is_ready_for again (task x.found t)) (is_ready_for again (task x.next t)) in omega (arith, le)

-- ---- what is made and set

-- 1 where the task becomes Ready to begin anew
abbrev pub activated_between : (old new : Task) → ℕ
activated_between old new = cond (not (is_ready_for false old) && is_ready_for false new) 1 0

-- 1 where an event of it is set, or it becomes Ready to go on
abbrev pub set_between : (old new : Task) → ℕ
set_between old new = cond ((not (is_ready_for true old) && is_ready_for true new) || has_grown old.events new.events) 1 0

none_made : (b : Bool) → (not b && b) ≡ false
none_made true = refl
none_made false = refl

same_not_grown : (e : ℕ) → has_grown e e ≡ false
same_not_grown e = and_right (bit_or e e == e) (not (e == e)) (ap not (eq-eqb e e refl))

pub not_activated : (k : Task) → activated_between k k ≡ 0
not_activated k = ap {B = ℕ} (λ b. cond b 1 0) (none_made (is_ready_for false k))

pub not_set : (k : Task) → set_between k k ≡ 0
not_set k =
    ap {B = ℕ} (λ b. cond (b || has_grown k.events k.events) 1 0) (none_made (is_ready_for true k)) ∙ ap {B = ℕ} (λ b. cond b 1 0) (same_not_grown k.events)

-- an activation sets nothing where the task has no frames
pub starting_sets_none : (k : Task) → k.frames ≡ [] → set_between k (record k { state = mode.Ready }) ≡ 0
starting_sets_none k none =
    let no_more = same_not_grown k.events in
    let not_again : is_ready_for true (record k { state = mode.Ready }) ≡ false = ap has_frames none in
    ap {B = ℕ} (λ b. cond ((not (is_ready_for true k) && b) || has_grown k.events k.events) 1 0) not_again
    ∙ ap {B = ℕ} (λ b. cond (b || has_grown k.events k.events) 1 0) (and_right (not (is_ready_for true k)) false refl) ∙ ap {B = ℕ} (λ b. cond b 1 0) no_more

module _ (config : Config) (app : App) (j : ℕ) where
  admitted_other : (P : Task → Type 0) (u : ℕ) (s : System) → (u == j) ≡ false → P (task s j) → P (task (admitted_state u s) j)
  admitted_other P u s other h =
      by_suspended (task s u).state (record (activated_state s u) { fresh = u ∷ s.fresh }) s (λ (y : System). P (task y j))
      (λ _. at_task s u j (record (task s u) { state = mode.Ready }) P h (λ e. absurd (eqb-false u j other (sym e))))
      (λ _. h)

  -- an admission makes its own task Ready alone
  pub acts_by_admission : (x : Stage) → Known config app x → cond (is_some (admitted_line x.stamped.event)) (activated j x) 0 ≤ cond (at_admission j x) 1 0
  acts_by_admission x k = by x.stamped.event k.step
    where
      by : (e : Event) → OsekStep config app e x.found x.next
          → cond (is_some (admitted_line e)) (activated_between (task x.found j) (task x.next j)) 0 ≤ cond (is_number j (admitted_line e)) 1 0
      by (event.Admit u) h = which (cases_Bool (u == j))
        where
          which : ((u == j) ≡ true) ⊎ ((u == j) ≡ false) → activated_between (task x.found j) (task x.next j) ≤ cond (u == j) 1 0
          which (inl is) =
              let one = at_most_one (not (is_ready_for false (task x.found j)) && is_ready_for false (task x.next j)) in
              let here = ap {B = ℕ} (λ b. cond b 1 0) is in
              omega (arith, one, here)
          which (inr other) =
              let nothing : activated_between (task x.found j) (task x.next j) ≡ 0 =
              subst (λ (y : System). activated_between (task x.found j) (task y j) ≡ 0) (sym h.2)
              (admitted_other (λ new. activated_between (task x.found j) new ≡ 0) u x.found other (not_activated (task x.found j))) in
              omega (arith, nothing)
      by (event.Due c) h =
          let nothing : activated_between (task x.found j) (task x.next j) ≡ 0 =
          subst (λ (y : System). activated_between (task x.found j) (task y j) ≡ 0) (sym h.2) (not_activated (task x.found j)) in
          omega (arith, nothing)
      by e h = omega arith

  -- and sets no event
  pub sets_by_admission : (x : Stage) → Known config app x → cond (is_some (admitted_line x.stamped.event)) (was_set j x) 0 ≤ 0
  sets_by_admission x k = by x.stamped.event k.step
    where
      by : (e : Event) → OsekStep config app e x.found x.next → cond (is_some (admitted_line e)) (set_between (task x.found j) (task x.next j)) 0 ≤ 0
      by (event.Admit u) h =
          let nothing : set_between (task x.found j) (task x.next j) ≡ 0 =
          subst (λ (y : System). set_between (task x.found j) (task y j) ≡ 0) (sym h.2)
          (by_suspended (task x.found u).state (record (activated_state x.found u) { fresh = u ∷ x.found.fresh }) x.found
          (λ (y : System). set_between (task x.found j) (task y j) ≡ 0)
          (λ asleep. at_task x.found u j (record (task x.found u) { state = mode.Ready }) (λ new. set_between (task x.found j) new ≡ 0) (not_set (task x.found j))
          (λ e.
          let bare : (task x.found u).frames ≡ [] = (subst (InState config u (task x.found u)) asleep (k.valid.each u h.1).in_state).1 in
          subst (λ v. set_between (task x.found v) (record (task x.found u) { state = mode.Ready }) ≡ 0) (sym e) (starting_sets_none (task x.found u) bare)))
          (λ _. not_set (task x.found j))) in
          omega (arith, nothing)
      by (event.Due c) h =
          let nothing : set_between (task x.found j) (task x.next j) ≡ 0 =
          subst (λ (y : System). set_between (task x.found j) (task y j) ≡ 0) (sym h.2) (not_set (task x.found j)) in
          omega (arith, nothing)
      by e h = omega arith

-- ---- counters

-- 1 where the counter is due, else 0
abbrev pub due_count : (c : ℕ) → System → ℕ
due_count c s = cond (counter s c).due 1 0

module _ (config : Config) (app : App) (c : ℕ) (s : System) where
  -- the counter is due as before
  abbrev DueAsBefore : System → Type 0
  DueAsBefore x = (counter x c).due ≡ (counter s c).due

  besides : KeptByOthers DueAsBefore
  besides = record {
    activates = λ x t h. h;
    sets = λ x t events h. h;
    stores = λ x symbols h. h;
    sets_alarms = λ x a new h. h;
  }

  answered : (t : ℕ) (served : Service) (answer : ServiceOutcome) → IsServiceStep config app t served s answer → IsAfter DueAsBefore answer
  answered t served answer h =
      subst (IsAfter DueAsBefore) h.is
      (outcome_keeps_all DueAsBefore besides t s (λ new. refl) (decision config served h.call.object h.call.mask t s))

-- what alarms keep as they count a tick
module _ (P : System → Type 0) (k : KeptByOthers P) where
  alarm_keeps : (does : Action) (a : ℕ) (s : System) → P s → P (alarm_ticked_state does a s)
  alarm_keeps does a s h =
      cond_both ((alarm s a).left == 1) (acted_state does (with_left a (alarm s a).cycle s)) (with_left a ((alarm s a).left - 1) s) P
      (λ _. acted_keeps P k.activates (sets_keep P k) (with_left a (alarm s a).cycle s) does
      (k.sets_alarms s a (record (alarm s a) { left = (alarm s a).cycle }) h))
      (λ _. k.sets_alarms s a (record (alarm s a) { left = (alarm s a).left - 1 }) h)

  pub alarms_keep : (c first : ℕ) (ds : List AlarmDecl) (s : System) → P s → P (alarms_ticked_state c first ds s)
  alarms_keep c first [] s h = h
  alarms_keep c first (d ∷ ds) s h =
      alarms_keep c (first + 1) ds (cond (d.counter == c) (alarm_ticked_state d.action first s) s)
      (cond_both (d.counter == c) (alarm_ticked_state d.action first s) s P (λ _. alarm_keeps d.action first s h) (λ _. h))

module _ (config : Config) (app : App) (c : ℕ) where
  -- a counter that is written
  written_same : (s : System) (new : Counter) → new.due ≡ false → (counter (with_counter s c new) c).due ≡ false
  written_same s new is = by (cases_lt c (length s.clock.counters))
    where
      by : (c < length s.clock.counters) ⊎ (length s.clock.counters ≤ c) → (counter (with_counter s c new) c).due ≡ false
      by (inl lt) = ap (λ (k : Counter). k.due) (get_or-set_same s.clock.counters c new no_counter lt) ∙ is
      by (inr past) =
          ap (λ ks. (get_or ks c no_counter).due) (set_past s.clock.counters c new past)
          ∙ ap (λ (k : Counter). k.due) (get_or_past s.clock.counters c no_counter past)

  written_other : (s : System) (d : ℕ) (new : Counter) → (d == c) ≡ false → (counter (with_counter s d new) c).due ≡ (counter s c).due
  written_other s d new other =
      at_set s.clock.counters d c new no_counter (λ (k : Counter). k.due ≡ (counter s c).due) refl (λ e. absurd (eqb-false d c other (sym e)))

  -- behind its tick the counter is not due
  tick_ends : (s : System) → (counter (ticked_state config c s) c).due ≡ false
  tick_ends s =
      let P : System → Type 0 = λ x. (counter x c).due ≡ false in
      alarms_keep P
      (record { activates = λ x t h. h; sets = λ x t events h. h; stores = λ x symbols h. h; sets_alarms = λ x a new h. h }) c 0 config.alarms
      (counted_on_state c (counter_declaration config c).max s) (written_same s _ refl)

  pub tick_of_other : (s : System) (d : ℕ) → (d == c) ≡ false → (counter (ticked_state config d s) c).due ≡ (counter s c).due
  tick_of_other s d other =
      alarms_keep (DueAsBefore config app c s) (besides config app c s) d 0 config.alarms (counted_on_state d (counter_declaration config d).max s)
      (written_other s d _ other)

  -- what a stage does to whether the counter is due
  abbrev pub Balance : Event → System → System → Type 0
  Balance e s next =
      (cond (is_number c (ticking_counter e)) 1 0 ≤ due_count c s)
      × (cond (is_number c (ticking_counter e)) 1 0 + due_count c next ≤ cond (is_number (counter_line c) (admitted_line e)) 1 0 + due_count c s)

  -- its tick
  ends : (e : Event) (s next : System) → OsekStep config app e s next → is_number c (ticking_counter e) ≡ true → Balance e s next
  ends (event.Tick d) s next h is =
      let e = eqb-true d c is in
      let t = ap {B = ℕ} (λ b. cond b 1 0) is in
      let was = ap {B = ℕ} (λ b. cond b 1 0) (subst (λ v. (counter s v).due ≡ true) e h.1.due) in
      let over = ap {B = ℕ} (λ b. cond b 1 0)
      (ap (λ (y : System). (counter y c).due) h.2
      ∙ subst (λ v. (counter (ticked_state config v s) c).due ≡ false) (sym e) (tick_ends s)) in
      (omega (arith, t, was), omega (arith, t, was, over))
  ends e s next h is = absurd (false≢true is)

  -- all but its tick and its arrival leave it
  kept : (e : Event) (s next : System) → OsekStep config app e s next
      → (is_number c (ticking_counter e) ≡ false) × (is_number (counter_line c) (admitted_line e) ≡ false) → DueAsBefore config app c s next
  kept e s next =
      clock_behind config app (λ what. (is_number c (ticking_counter what) ≡ false) × (is_number (counter_line c) (admitted_line what) ≡ false)) (DueAsBefore config app c s) s
      (record {
        apart = λ x tasks symbols fresh same. same;
        same = λ started _. refl;
        serves = λ t served answer h _. answered config app c s t served answer h;
        dues = λ d off _. written_other s d _ (ne_eqb d c (λ e. eqb-false (counter_line d) (counter_line c) off.1 (ap counter_line e)));
        ticks = λ d off _. tick_of_other s d off.0;
      })
      e next

  pub balance : (e : Event) (s next : System) → OsekStep config app e s next → Balance e s next
  balance e s next h = by (cases_Bool (is_number c (ticking_counter e))) (cases_Bool (is_number (counter_line c) (admitted_line e)))
    where
      by : (is_number c (ticking_counter e) ≡ true) ⊎ (is_number c (ticking_counter e) ≡ false)
          → (is_number (counter_line c) (admitted_line e) ≡ true) ⊎ (is_number (counter_line c) (admitted_line e) ≡ false) → Balance e s next
      by (inl is) line = ends e s next h is
      by (inr off) (inl is) =
          let t = ap {B = ℕ} (λ b. cond b 1 0) off in
          let line = ap {B = ℕ} (λ b. cond b 1 0) is in
          let one = at_most_one (counter next c).due in
          (omega (arith, t), omega (arith, t, line, one))
      by (inr off) (inr none) =
          let t = ap {B = ℕ} (λ b. cond b 1 0) off in
          let d = ap {B = ℕ} (λ b. cond b 1 0) (kept e s next h (off, none)) in
          (omega (arith, t), omega (arith, t, d))

  pub tick_balance : (x : Stage) → Known config app x
      → (cond (at_tick c x) 1 0 ≤ due_count c x.found)
      × (cond (at_tick c x) 1 0 + due_count c x.next ≤ cond (at_admission (counter_line c) x) 1 0 + due_count c x.found)
  tick_balance x k = balance x.stamped.event x.found x.next k.step
