-- Between two rounds of a task that clears what it waits for an event of it is set.
use Rattle.std.proofs.Common.{◌≡◌, ℕ, ◌+◌, ◌-◌, ◌<◌, ◌≤◌, ◌⊎◌, ◌==◌, ◌&&◌, ◌||◌, not, length, List, [], ◌∷◌, ◌++◌, Bool, true, false, cond, min, max, refl, sym, ap, ◌∙◌, subst, arith, inl, inr, append_assoc, Option, Some, None, bit_and, bit_or}
use Rattle.std.specs.List.{AllByRecursion}
use Rattle.std.specs.Int.{bit_at}
use Rattle.std.specs.Int.Bits.{and_zero_l, and_zero_r}
use Rattle.std.proofs.lemmas.Nat.{and_assoc, and_comm}
use Rattle.std.proofs.lemmas.Nat.Bits.{bit_at_or, bit_at_and, bit_at-zero, same_from_bits}
use Rattle.std.proofs.lemmas.Grind.{and-not_self}
use Rattle.std.proofs.lemmas.List.{get_or_past, get_or-set_same}
use Rattle.std.proofs.lemmas.Bool.{cases_Bool, cases_lt, true≢false, false≢true, eqb-true, eqb-false, and_parts, or_parts}
use Rattle.sloth_base.specs.declared.config.Config.{Config}
use Rattle.sloth_base.specs.declared.app.App.{App}
use Rattle.sloth_base.specs.declared.app.Op.{Op}
use Rattle.sloth_base.specs.declared.app.Op.TheVariants as op
use Rattle.sloth_base.specs.declared.service.Event.{Event}
use Rattle.sloth_base.specs.declared.service.Event.TheVariants as event
use Rattle.sloth_base.specs.declared.service.Stamped.{Stamped}
use Rattle.code_rules.specs.WellFormed.{WellFormed}
use Rattle.osek_scheduler.specs.Runs.{OsekRun}
use Rattle.sloth_base.specs.declared.service.Service.{Service}
use Rattle.sloth_base.specs.declared.service.Service.TheVariants as service
use Rattle.sloth_base.specs.ServiceCodes.{is_service}
use Rattle.sloth_base.proofs.Services.{same_service}
use Rattle.osek_scheduler.specs.declared.state.TaskState.{TaskState}
use Rattle.osek_scheduler.specs.declared.state.TaskState.TheVariants as mode
use Rattle.osek_scheduler.specs.State.{Frame, Task, System, sleeping_task, task, opening}
use Rattle.osek_scheduler.specs.Next.{is_ready}
use Rattle.osek_scheduler.specs.Priority.{is_active}
use Rattle.osek_scheduler.specs.Services.{ServiceOutcome, GoesOn, Leaves}
use Rattle.sloth_base.specs.Status.{E_OK}
use Rattle.std.proofs.Math.Nat.{le-max_left, le-max_right, min-eq_left, min-eq_right, max-eq_left}
use Rattle.osek_scheduler.specs.Outcomes.{leave_decision, status_decision, decision, outcome, outcome_of, Decision, with_other, planned_system, shown_outcome}
use Rattle.osek_scheduler.specs.Changes.{changed_task, with_change}
use Rattle.osek_scheduler.specs.Meaning.{meaning}
use Rattle.osek_scheduler.specs.declared.change.TaskChange.{TaskChange}
use Rattle.osek_scheduler.specs.declared.change.TaskChange.TheVariants as change
use Rattle.osek_scheduler.specs.declared.change.Other.{Other}
use Rattle.osek_scheduler.specs.declared.change.Other.TheVariants as other
use Rattle.osek_scheduler.specs.declared.change.Plan.{Plan}
use Rattle.osek_scheduler.proofs.Apart.{at_task}
use Rattle.osek_scheduler.proofs.Outcomes.{on_outcome, on_tested}
use Rattle.std.specs.Prelude.{is_some}
use Rattle.osek_scheduler.specs.Steps.{OsekStep, IsServiceStep}
use Rattle.osek_scheduler.specs.Valid.{InState}
use Rattle.osek_scheduler.specs.Apart.{IsActive}
use Rattle.osek_scheduler.proofs.Facts.{Facts, facts}
use Rattle.osek_scheduler.proofs.Leading.{follows_leads}
use Rattle.osek_scheduler.proofs.Steps.{opening_valid, asleep_at}
use Rattle.osek_blocking.proofs.Ordering.{opening_ordered}
use Rattle.osek_blocking.specs.Walks.{Position, IsPositionStep, IsWalk}
use Rattle.osek_blocking.specs.Sections.{operation_at}
use Rattle.osek_blocking.proofs.FrameEffects.{frame_effect}
use Rattle.osek_blocking.proofs.Placed.{Placed, opening_placed}
use Rattle.osek_blocking.proofs.Reached.{walk_on}
use Rattle.walk_sums.specs.Rounds.{is_wait, awaited, cleared, cleared_along, IsClean}
use Rattle.sim_induction.specs.Events.{has_frames}
use Rattle.run_counts.specs.Stages.{Stage, end_of, is_turn, is_entry, run_stages}
use Rattle.run_counts.specs.Rounds.{goes_on_waiting, is_left, total}
use Rattle.response_laws.specs.Sums.{count}
use Rattle.response_laws.specs.Turns.{in_turn, at_entry, begins_next, is_ready_for, is_made, has_grown, is_set, was_set}
use Rattle.response_laws.specs.Walked.{standing}
use Rattle.response_laws.specs.Settings.{CleanTasksHaveSettings, CleanTasksHaveSettingsButOne}
use Rattle.response_laws.proofs.Linked.{Known, Linked, last_state, last_end, linked_front, linked_behind, each_append, stages_linked, stages_known}
use Rattle.response_laws.proofs.Steps.{turn_active, stays_inactive}
use Rattle.response_laws.proofs.RoundSums.{waiting_turn}
use Rattle.response_laws.proofs.RoundEnds.{left_inactive}
use Rattle.run_counts.proofs.Awake.{stays_active, entry_active}
use Rattle.response_laws.proofs.Masks.{same_mask, others_grow, own_grows, own_clears, own_runs, own_back}
use Rattle.response_laws.proofs.Walked.{Stands, frames_same, all_stand, behind_wait, runs_no_wait}

-- ---- masks

zero_of : (x c : ℕ) → min x c ≡ 0 → (x ≡ 0) ⊎ (c ≡ 0)
zero_of x c e = by (cases_lt x c)
  where
    by : (x < c) ⊎ (c ≤ x) → (x ≡ 0) ⊎ (c ≡ 0)
    by (inl lt) = inl (sym (min-eq_left (omega (arith, lt))) ∙ e)
    by (inr le) = inr (sym (min-eq_right le) ∙ e)

min_none : (x c : ℕ) → (x ≡ 0) ⊎ (c ≡ 0) → min x c ≡ 0
min_none x c (inl e) = min-eq_left (omega (arith, e)) ∙ e
min_none x c (inr e) = min-eq_right (omega (arith, e)) ∙ e

max_none : (c m : ℕ) → c ≡ 0 → m ≡ 0 → max c m ≡ 0
max_none c m a b = max-eq_left (omega (arith, a, b)) ∙ a

-- a mask that shares nothing with two others shares nothing with both
apart_both : (x c m : ℕ) → bit_and x c ≡ 0 → bit_and x m ≡ 0 → bit_and x (bit_or c m) ≡ 0
apart_both x c m a b =
    same_from_bits (bit_and x (bit_or c m)) 0
    (λ i.
    bit_at_and x (bit_or c m) i ∙ ap (min (bit_at x i)) (bit_at_or c m i)
    ∙ by (bit_at x i) (bit_at c i) (bit_at m i)
    (zero_of (bit_at x i) (bit_at c i) (sym (bit_at_and x c i) ∙ ap (λ v. bit_at v i) a ∙ bit_at-zero i))
    (zero_of (bit_at x i) (bit_at m i) (sym (bit_at_and x m i) ∙ ap (λ v. bit_at v i) b ∙ bit_at-zero i))
    ∙ sym (bit_at-zero i))
  where
    by : (x c m : ℕ) → (x ≡ 0) ⊎ (c ≡ 0) → (x ≡ 0) ⊎ (m ≡ 0) → min x (max c m) ≡ 0
    by x c m (inl e) q = min_none x (max c m) (inl e)
    by x c m (inr p) (inl e) = min_none x (max c m) (inl e)
    by x c m (inr p) (inr q) = min_none x (max c m) (inr (max_none c m p q))

-- what is cleared is shared no more
cleared_apart : (e m : ℕ) → bit_and (bit_and e (4294967295 - m)) m ≡ 0
cleared_apart e m = by (cases_lt 4294967295 m)
  where
    by : (4294967295 < m) ⊎ (m ≤ 4294967295) → bit_and (bit_and e (4294967295 - m)) m ≡ 0
    by (inr le) = and-not_self e 4294967295 m m refl le refl
    by (inl past) =
        let none : 4294967295 - m ≡ 0 = omega (arith, past) in
        ap (λ v. bit_and (bit_and e v) m) none ∙ ap (λ v. bit_and v m) (and_zero_r e) ∙ and_zero_l m

-- with fewer events less is shared
fewer_apart : (e k c : ℕ) → bit_and e c ≡ 0 → bit_and (bit_and e k) c ≡ 0
fewer_apart e k c h = and_assoc c e k ∙ ap (bit_and e) (and_comm k c) ∙ sym (and_assoc k e c) ∙ ap (λ v. bit_and v k) h ∙ and_zero_l k

-- a mask all of which was cleared shares nothing
waited_apart : (e c m : ℕ) → bit_and e c ≡ 0 → bit_and m c ≡ m → bit_and e m ≡ 0
waited_apart e c m h has =
    ap (bit_and e) (sym has ∙ and_comm m c) ∙ sym (and_assoc m e c) ∙ ap (λ v. bit_and v m) h ∙ and_zero_l m

along-append : (app : App) (xs : List Position) (at : Position) → (e : ℕ) → bit_and e (cleared_along app xs) ≡ 0 → bit_and e (cleared (operation_at app at)) ≡ 0
    → bit_and e (cleared_along app (xs ++ at ∷ [])) ≡ 0
along-append app [] at e h own = apart_both e (cleared (operation_at app at)) 0 own (and_zero_r e)
along-append app (x ∷ xs) at e h own =
    let first = first_of e (cleared (operation_at app x)) (cleared_along app xs) h in
    apart_both e (cleared (operation_at app x)) (cleared_along app (xs ++ at ∷ [])) first.0 (along-append app xs at e first.1 own)
  where
    -- one that shares nothing with both shares nothing with either
    first_of : (x c m : ℕ) → bit_and x (bit_or c m) ≡ 0 → (bit_and x c ≡ 0) × (bit_and x m ≡ 0)
    first_of x c m h = (
      same_from_bits (bit_and x c) 0 (λ i. bit_at_and x c i ∙ (by (bit_at x i) (bit_at c i) (bit_at m i) (bits i)).0 ∙ sym (bit_at-zero i)),
      same_from_bits (bit_and x m) 0 (λ i. bit_at_and x m i ∙ (by (bit_at x i) (bit_at c i) (bit_at m i) (bits i)).1 ∙ sym (bit_at-zero i)),
    )
      where
        bits : (i : ℕ) → (bit_at x i ≡ 0) ⊎ (max (bit_at c i) (bit_at m i) ≡ 0)
        bits i =
            zero_of (bit_at x i) (max (bit_at c i) (bit_at m i))
            (ap (min (bit_at x i)) (sym (bit_at_or c m i)) ∙ sym (bit_at_and x (bit_or c m) i) ∙ ap (λ v. bit_at v i) h ∙ bit_at-zero i)

        by : (x c m : ℕ) → (x ≡ 0) ⊎ (max c m ≡ 0) → (min x c ≡ 0) × (min x m ≡ 0)
        by x c m (inl e) = (min_none x c (inl e), min_none x m (inl e))
        by x c m (inr e) =
            let a = le-max_left c m in
            let b = le-max_right c m in
            (min_none x c (inr (omega (arith, a, e))), min_none x m (inr (omega (arith, b, e))))

-- ---- a task that leaves

-- a plan with which its caller leaves ends it, or lets it wait and does nothing besides
abbrev is_left_so : TaskChange → Other → Bool
is_left_so change.End (other.AddEvents u mask) = false
is_left_so change.End o = true
is_left_so (change.Wait mask) other.Nothing = true
is_left_so c o = false

abbrev is_left_plan : Plan → Bool
is_left_plan p = is_some p.answer || is_left_so p.change p.other

module _ (t : ℕ) (s : System) (there : t < length s.tasks) where
  -- where it leaves and is Ready, none of its events is set
  abbrev IfLeft : ServiceOutcome → Type 0
  IfLeft (GoesOn status after) = Unit {0}
  IfLeft (Leaves after) = is_ready (task after t).state ≡ true → (task after t).events ≡ 0

  changed_is : (d : TaskChange) → task (with_change t d s) t ≡ changed_task d (task s t)
  changed_is d = get_or-set_same s.tasks t (changed_task d (task s t)) sleeping_task there

  ended_empty : (o : Other) → is_left_so change.End o ≡ true → (task (with_other o (with_change t change.End s)) t).events ≡ 0
  ended_empty other.Nothing is = ap (λ (k : Task). k.events) (changed_is change.End)
  ended_empty (other.Activate u) is =
      at_task (with_change t change.End s) u t (record (task (with_change t change.End s) u) { state = mode.Ready }) (λ k. k.events ≡ 0)
      (ap (λ (k : Task). k.events) (changed_is change.End))
      (λ e. let P : ℕ → Type 0 = λ v. (task (with_change t change.End s) v).events ≡ 0 in subst P e (ap (λ (k : Task). k.events) (changed_is change.End)))
  ended_empty (other.AddEvents u mask) is = absurd (false≢true is)
  ended_empty (other.Store y w offset value) is = ap (λ (k : Task). k.events) (changed_is change.End)
  ended_empty (other.SetAlarm a left cycle) is = ap (λ (k : Task). k.events) (changed_is change.End)

  left_so : (d : TaskChange) (o : Other) → is_left_so d o ≡ true → is_ready (task (with_other o (with_change t d s)) t).state ≡ true
      → (task (with_other o (with_change t d s)) t).events ≡ 0
  left_so change.End o is ready = ended_empty o is
  left_so (change.Wait mask) other.Nothing is ready =
      absurd (false≢true (sym (ap (λ (k : Task). is_ready k.state) (changed_is (change.Wait mask))) ∙ ready))
  left_so (change.Wait mask) (other.Activate u) is ready = absurd (false≢true is)
  left_so (change.Wait mask) (other.AddEvents u m) is ready = absurd (false≢true is)
  left_so (change.Wait mask) (other.Store y w offset value) is ready = absurd (false≢true is)
  left_so (change.Wait mask) (other.SetAlarm a left cycle) is ready = absurd (false≢true is)
  left_so change.Activate o is ready = absurd (false≢true is)
  left_so d o is ready = absurd (false≢true is)

  left_planned : (p : Plan) → is_left_plan p ≡ true → IfLeft (shown_outcome p.answer (planned_system t p s))
  left_planned p is = by p.answer is
    where
      by : (answer : Option ℕ) → (is_some answer || is_left_so p.change p.other) ≡ true → IfLeft (shown_outcome answer (planned_system t p s))
      by (Some status) is = tt
      by None is = left_so p.change p.other is

  left_service : (config : Config) (served : Service) (object mask : ℕ) → IfLeft (outcome config served object mask t s)
  left_service config service.ChainTask object mask =
      on_outcome IfLeft t s (decision config service.ChainTask object mask t s)
      (on_tested s (λ p. IfLeft (shown_outcome p.answer (planned_system t p s))) is_left_plan left_planned (decision config service.ChainTask object mask t s) refl)
  left_service config served object mask =
      on_outcome IfLeft t s (decision config served object mask t s)
      (on_tested s (λ p. IfLeft (shown_outcome p.answer (planned_system t p s))) is_left_plan left_planned (decision config served object mask t s) refl)

-- behind its leaving a task that is Ready again has no event set
left_empty : (config : Config) (app : App) (t : ℕ) (x : Stage) → Known config app x → is_left t x.stamped.event ≡ true → (task x.next t).state ≡ mode.Ready
    → (task x.next t).events ≡ 0
left_empty config app t x k is ready = by x.stamped.event k.step is
  where
    by : (e : Event) → OsekStep config app e x.found x.next → is_left t e ≡ true → (task x.next t).events ≡ 0
    by (event.Left u served) step is =
        let own : OsekStep config app (event.Left t served) x.found x.next = subst (λ v. OsekStep config app (event.Left v served) x.found x.next) (eqb-true u t is) step in
        let h = own.1.1 in
        let there : t < length x.found.tasks = subst (λ c. t < c) (sym k.valid.count) h.top.declared in
        let all = subst (IfLeft t x.found there) h.is (left_service t x.found there config served h.call.object h.call.mask) in
        let same : task x.next t ≡ task own.1.0 t = ap (λ (y : System). task y t) own.1.2 in
        ap (λ (o : Task). o.events) same ∙ all (sym (ap (λ (o : Task). is_ready o.state) same) ∙ ap is_ready ready)
    by e step is = absurd (false≢true is)

-- ---- what holds of a task in a run

module _ (config : Config) (app : App) (w : Facts config app) (t : ℕ) (clean : IsClean app t) where
  -- behind a WaitEvent, and what it cleared since then is not set
  record Later (events : ℕ) (at : Position) : Type 0 where
    before : List Position
    wait : Position
    between : List Position
    walk : IsWalk app t ((before ++ wait ∷ between) ++ at ∷ [])
    waits : is_wait (operation_at app wait) ≡ true
    none : AllByRecursion (λ p. is_wait (operation_at app p) ≡ false) between
    quiet : bit_and events (cleared_along app between) ≡ 0

  -- n later rounds and m settings
  record Inv (n m : ℕ) (s : System) : Type 0 where
    few : n ≤ m
    fresh : (task s t).state ≡ mode.Ready → has_frames (task s t).frames ≡ false → (n < m) ⊎ ((task s t).events ≡ 0)
    again : (task s t).state ≡ mode.Ready → has_frames (task s t).frames ≡ true → n < m
    active : IsActive s t → (n < m) ⊎ (((task s t).events ≡ 0) ⊎ Later (task s t).events (standing (task s t).frames))

  -- ---- a later round has a setting in front

  -- a WaitEvent that goes on finds an event of its mask
  goes_with : (b : Bool) (leave stay : Decision) (s : System) (status : ℕ) (after : System) → ((x : ServiceOutcome) → outcome_of t s leave ≡ x → x ≡ GoesOn status after → ⊥)
      → cond b (outcome_of t s leave) (outcome_of t s stay) ≡ GoesOn status after → b ≡ false
  goes_with true leave stay s status after never e = absurd (never (outcome_of t s leave) refl e)
  goes_with false leave stay s status after never e = refl

  found_set : (s : System) (object mask status : ℕ) (after : System) → outcome config service.WaitEvent object mask t s ≡ GoesOn status after
      → (bit_and (task s t).events mask == 0) ≡ false
  found_set s object mask status after e =
      goes_with (bit_and (task s t).events mask == 0) (leave_decision (change.Wait mask) other.Nothing) (status_decision E_OK) s status after
      (λ x is k. never (is ∙ k)) e
    where
      never : outcome_of t s (leave_decision (change.Wait mask) other.Nothing) ≡ GoesOn status after → ⊥
      never k = cc

  wait_spends : (n m : ℕ) (s next : System) (status : ℕ) (step : OsekStep config app (event.Call t service.WaitEvent status) s next) → Inv n m s → n < m
  wait_spends n m s next status step inv = by (inv.active h.at.active)
    where
      h : IsServiceStep config app t service.WaitEvent s (GoesOn status step.1.0)
      h = step.1.1

      some : (bit_and (task s t).events h.call.mask == 0) ≡ false
      some = found_set s h.call.object h.call.mask status step.1.0 h.is

      place_is : operation_at app (standing (task s t).frames) ≡ op.Serve h.call
      place_is = ap (λ fs. operation_at app (standing fs)) h.at.frames ∙ h.at.next

      by : (n < m) ⊎ (((task s t).events ≡ 0) ⊎ Later (task s t).events (standing (task s t).frames)) → n < m
      by (inl lt) = lt
      by (inr (inl none)) =
          absurd (eqb-false (bit_and (task s t).events h.call.mask) 0 some (ap (λ v. bit_and v h.call.mask) none ∙ and_zero_l h.call.mask))
      by (inr (inr l)) =
          let all = clean l.wait (standing (task s t).frames) l.between
          (record {
            before = l.before;
            of_walk = subst (IsWalk app t) (append_assoc l.before (l.wait ∷ l.between) (standing (task s t).frames ∷ [])) l.walk;
            first = l.waits;
            none = l.none;
            last = ap is_wait place_is ∙ ap (λ x. is_service x service.WaitEvent) h.same;
          }) in
          let mask_is : awaited (operation_at app (standing (task s t).frames)) ≡ h.call.mask =
          ap awaited place_is ∙ ap (λ x. cond (is_service x service.WaitEvent) h.call.mask 0) h.same in
          let has : bit_and h.call.mask (cleared_along app l.between) ≡ h.call.mask =
          subst (λ v. bit_and v (cleared_along app l.between) ≡ v) mask_is all in
          absurd (eqb-false (bit_and (task s t).events h.call.mask) 0 some (waited_apart (task s t).events (cleared_along app l.between) h.call.mask l.quiet has))

  spends : (n m : ℕ) (x : Stage) → Known config app x → Inv n m x.found → begins_next true t x ≡ true → n < m
  spends n m x k inv is = which (cases_Bool (at_entry t x && has_frames (task x.found t).frames))
    where
      entered : (e : Event) → OsekStep config app e x.found x.next → is_entry t e ≡ true → (task x.found t).state ≡ mode.Ready
      entered (event.Enter u) step entry = subst (λ v. (task x.found v).state ≡ mode.Ready) (eqb-true u t entry) step.2
      entered e step entry = absurd (false≢true entry)

      waited : (e : Event) → OsekStep config app e x.found x.next → goes_on_waiting t e ≡ true → n < m
      waited (event.Call u served status) step waits =
          let both = and_parts (u == t) (is_service served service.WaitEvent) waits in
          wait_spends n m x.found x.next status
          (subst (λ v. OsekStep config app (event.Call t v status) x.found x.next) (same_service served service.WaitEvent both.1)
          (subst (λ v. OsekStep config app (event.Call v served status) x.found x.next) (eqb-true u t both.0) step)) inv
      waited e step waits = absurd (false≢true waits)

      which : ((at_entry t x && has_frames (task x.found t).frames) ≡ true) ⊎ ((at_entry t x && has_frames (task x.found t).frames) ≡ false) → n < m
      which (inl entry) =
          let both = and_parts (at_entry t x) (has_frames (task x.found t).frames) entry in
          inv.again (entered x.stamped.event k.step both.0) both.1
      which (inr other) =
          waited x.stamped.event k.step (sym (ap (λ b. b || (true && goes_on_waiting t x.stamped.event)) other) ∙ is)

  -- ---- one event

  module _ (n m : ℕ) (x : Stage) (k : Known config app x) (stands : Stands config app w t x.found) (placed : Placed app x.found) (inv : Inv n m x.found) where
    -- where nothing is set
    module _ (unset : is_set t x ≡ false) where
      parts : (is_made true t x ≡ false) × (has_grown (task x.found t).events (task x.next t).events ≡ false)
      parts = or_parts (is_made true t x) (has_grown (task x.found t).events (task x.next t).events) unset

      -- an event of no turn of it leaves its mask
      same_away : in_turn t x ≡ false → (task x.next t).events ≡ (task x.found t).events
      same_away away =
          same_mask (task x.found t).events (task x.next t).events (others_grow config app t x.stamped.event x.found x.next k.step away) parts.1

      -- Ready to go on, it was so before
      still_again : (task x.next t).state ≡ mode.Ready → has_frames (task x.next t).frames ≡ true → n < m
      still_again ready begun = by (is_ready_for true (task x.found t)) refl
        where
          on : is_ready_for true (task x.next t) ≡ true
          on = ap (λ s. is_ready s && has_frames (task x.next t).frames) ready ∙ begun

          ready_is : (s : TaskState) → is_ready s ≡ true → s ≡ mode.Ready
          ready_is mode.Suspended e = absurd (false≢true e)
          ready_is mode.Ready e = refl
          ready_is mode.Active e = absurd (false≢true e)
          ready_is (mode.Waiting mask) e = absurd (false≢true e)

          by : (b : Bool) → is_ready_for true (task x.found t) ≡ b → n < m
          by true is =
              let both = and_parts (is_ready (task x.found t).state) (has_frames (task x.found t).frames) is in
              inv.again (ready_is (task x.found t).state both.0) both.1
          by false is = absurd (true≢false (sym (ap (λ b. not b && is_ready_for true (task x.next t)) is ∙ on) ∙ parts.0))

      -- ---- where no later round begins

      module _ (none : begins_next true t x ≡ false) where
        no_parts : ((at_entry t x && has_frames (task x.found t).frames) ≡ false) × (goes_on_waiting t x.stamped.event ≡ false)
        no_parts = or_parts (at_entry t x && has_frames (task x.found t).frames) (goes_on_waiting t x.stamped.event) none

        -- an entry is one anew
        anew : at_entry t x ≡ true → has_frames (task x.found t).frames ≡ false
        anew entry = sym (ap (λ b. b && has_frames (task x.found t).frames) entry) ∙ no_parts.0

        ready_active : (task x.next t).state ≡ mode.Ready → IsActive x.next t → ⊥
        ready_active ready active = differ (sym ready ∙ active)
          where
            differ : mode.Ready ≡ mode.Active → ⊥
            differ e = cc

        -- it is Ready anew
        fresh_next : (task x.next t).state ≡ mode.Ready → has_frames (task x.next t).frames ≡ false → (n < m) ⊎ ((task x.next t).events ≡ 0)
        fresh_next ready bare = which (cases_Bool (is_left t x.stamped.event)) (cases_Bool (in_turn t x)) (cases_Bool (at_entry t x))
          where
            same : in_turn t x ≡ false → at_entry t x ≡ false → (task x.next t).frames ≡ (task x.found t).frames
            same away out = frames_same config app w t x.stamped.event x.found x.next k.step k.valid away out

            within : (t < length x.found.tasks) ⊎ (length x.found.tasks ≤ t) → (s : TaskState) → (task x.found t).state ≡ s → in_turn t x ≡ false → at_entry t x ≡ false
                → is_left t x.stamped.event ≡ false → (n < m) ⊎ ((task x.next t).events ≡ 0)
            within there mode.Active is away out stays = absurd (ready_active ready (stays_active config app t x.stamped.event x.found x.next k.step k.valid stays is))
            within there mode.Ready is away out stays = by (inv.fresh is (sym (ap has_frames (same away out)) ∙ bare))
              where
                by : (n < m) ⊎ ((task x.found t).events ≡ 0) → (n < m) ⊎ ((task x.next t).events ≡ 0)
                by (inl lt) = inl lt
                by (inr blank) = inr (same_away away ∙ blank)
            within (inl lt) mode.Suspended is away out stays =
                inr (same_away away ∙ (subst (InState config t (task x.found t)) is (k.valid.each t (subst (λ c. t < c) k.valid.count lt)).in_state).2)
            within (inr past) mode.Suspended is away out stays =
                inr (same_away away ∙ ap (λ (o : Task). o.events) (get_or_past x.found.tasks t sleeping_task past))
            within (inl lt) (mode.Waiting mask) is away out stays =
                absurd (some (task x.found t).frames (subst (InState config t (task x.found t)) is (k.valid.each t (subst (λ c. t < c) k.valid.count lt)).in_state).1
                (sym (ap has_frames (same away out)) ∙ bare))
              where
                some : (fs : List Frame) → (fs ≡ [] → ⊥) → has_frames fs ≡ false → ⊥
                some [] stand e = stand refl
                some (frame ∷ outer) stand e = true≢false e
            within (inr past) (mode.Waiting mask) is away out stays =
                absurd (differ (sym (ap (λ (o : Task). o.state) (get_or_past x.found.tasks t sleeping_task past)) ∙ is))
              where
                differ : mode.Suspended ≡ mode.Waiting mask → ⊥
                differ e = cc

            which : (is_left t x.stamped.event ≡ true) ⊎ (is_left t x.stamped.event ≡ false) → (in_turn t x ≡ true) ⊎ (in_turn t x ≡ false)
                → (at_entry t x ≡ true) ⊎ (at_entry t x ≡ false) → (n < m) ⊎ ((task x.next t).events ≡ 0)
            which (inl is) turn entry = inr (left_empty config app t x k is ready)
            which (inr stays) (inl turn) entry =
                absurd (ready_active ready (stays_active config app t x.stamped.event x.found x.next k.step k.valid stays (turn_active config app t x k turn)))
            which (inr stays) (inr away) (inl entry) = absurd (ready_active ready (entry_active config app t x.stamped.event x.found x.next k.step k.valid entry))
            which (inr stays) (inr away) (inr out) = within (cases_lt t (length x.found.tasks)) (task x.found t).state refl away out stays

        -- ---- it is Active

        -- one position more is passed
        longer : (at : Position) (E' : ℕ) (l : Later (task x.found t).events (standing (task x.found t).frames)) → IsPositionStep app (standing (task x.found t).frames) at
            → is_wait (operation_at app (standing (task x.found t).frames)) ≡ false
            → bit_and E' (cleared_along app l.between) ≡ 0 → bit_and E' (cleared (operation_at app (standing (task x.found t).frames))) ≡ 0 → Later E' at
        longer at E' l step no_wait old own = record {
          before = l.before;
          wait = l.wait;
          between = l.between ++ standing (task x.found t).frames ∷ [];
          walk = subst (IsWalk app t) regroup
              (walk_on app t (l.before ++ l.wait ∷ l.between) (at ∷ []) (standing (task x.found t).frames) l.walk (step, (tt, tt)));
          waits = l.waits;
          none = all_joined l.between l.none;
          quiet = along-append app l.between (standing (task x.found t).frames) E' old own;
        }
          where
            regroup : (l.before ++ l.wait ∷ l.between) ++ standing (task x.found t).frames ∷ at ∷ []
                ≡ (l.before ++ l.wait ∷ (l.between ++ standing (task x.found t).frames ∷ [])) ++ at ∷ []
            regroup =
                append_assoc l.before (l.wait ∷ l.between) (standing (task x.found t).frames ∷ at ∷ [])
                ∙ ap (λ zs. l.before ++ l.wait ∷ zs) (sym (append_assoc l.between (standing (task x.found t).frames ∷ []) (at ∷ [])))
                ∙ sym (append_assoc l.before (l.wait ∷ (l.between ++ standing (task x.found t).frames ∷ [])) (at ∷ []))

            all_joined : (ps : List Position) → AllByRecursion (λ p. is_wait (operation_at app p) ≡ false) ps
                → AllByRecursion (λ p. is_wait (operation_at app p) ≡ false) (ps ++ standing (task x.found t).frames ∷ [])
            all_joined [] h = (no_wait, tt)
            all_joined (p ∷ ps) h = (h.0, all_joined ps h.1)

        -- where neither mask nor place change
        unmoved : (task x.next t).events ≡ (task x.found t).events → (task x.next t).frames ≡ (task x.found t).frames
            → (n < m) ⊎ (((task x.found t).events ≡ 0) ⊎ Later (task x.found t).events (standing (task x.found t).frames))
            → (n < m) ⊎ (((task x.next t).events ≡ 0) ⊎ Later (task x.next t).events (standing (task x.next t).frames))
        unmoved mask place (inl lt) = inl lt
        unmoved mask place (inr (inl blank)) = inr (inl (mask ∙ blank))
        unmoved mask place (inr (inr l)) =
            inr (inr (subst (λ e. Later e (standing (task x.next t).frames)) (sym mask)
            (subst (λ fs. Later (task x.found t).events (standing fs)) (sym place) l)))

        -- where its item goes on
        moved : (E' : ℕ) → (task x.next t).events ≡ E' → IsPositionStep app (standing (task x.found t).frames) (standing (task x.next t).frames)
            → is_wait (operation_at app (standing (task x.found t).frames)) ≡ false
            → ((task x.found t).events ≡ 0 → E' ≡ 0) → ((c : ℕ) → bit_and (task x.found t).events c ≡ 0 → bit_and E' c ≡ 0)
            → bit_and E' (cleared (operation_at app (standing (task x.found t).frames))) ≡ 0
            → (n < m) ⊎ (((task x.found t).events ≡ 0) ⊎ Later (task x.found t).events (standing (task x.found t).frames))
            → (n < m) ⊎ (((task x.next t).events ≡ 0) ⊎ Later (task x.next t).events (standing (task x.next t).frames))
        moved E' mask step no_wait zeros keeps own (inl lt) = inl lt
        moved E' mask step no_wait zeros keeps own (inr (inl blank)) = inr (inl (mask ∙ zeros blank))
        moved E' mask step no_wait zeros keeps own (inr (inr l)) =
            inr (inr (subst (λ e. Later e (standing (task x.next t).frames)) (sym mask)
            (longer (standing (task x.next t).frames) E' l step no_wait (keeps (cleared_along app l.between) l.quiet) own)))

        own_turn : (e : Event) → x.stamped.event ≡ e → OsekStep config app e x.found x.next → is_turn t e ≡ true → is_left t e ≡ false → goes_on_waiting t e ≡ false
            → (n < m) ⊎ (((task x.found t).events ≡ 0) ⊎ Later (task x.found t).events (standing (task x.found t).frames))
            → (n < m) ⊎ (((task x.next t).events ≡ 0) ⊎ Later (task x.next t).events (standing (task x.next t).frames))
        own_turn (event.Run u func item result) is step turn stays quiet round =
            moved (task x.found t).events (own_runs config app t func item result x.found x.next own)
            (frame_effect config app w x.found x.next k.valid (event.Run t func item result) own).steps.walks
            (no_wait (cases_Bool (is_wait (operation_at app (standing (task x.found t).frames))))) (λ z. z) (λ c h. h)
            (ap (bit_and (task x.found t).events) (none_cleared own.1.operation (ap (λ fs. operation_at app (standing fs)) own.1.at.frames ∙ own.1.at.next) own.1.means) ∙ and_zero_r (task x.found t).events)
            round
          where
            own : OsekStep config app (event.Run t func item result) x.found x.next
            own = subst (λ v. OsekStep config app (event.Run v func item result) x.found x.next) (eqb-true u t turn) step

            no_wait : (is_wait (operation_at app (standing (task x.found t).frames)) ≡ true) ⊎ (is_wait (operation_at app (standing (task x.found t).frames)) ≡ false)
                → is_wait (operation_at app (standing (task x.found t).frames)) ≡ false
            no_wait (inr other) = other
            no_wait (inl is) = absurd (runs_no_wait config app w t x.found x.next func item result own.1 is)

            none_cleared : (o : Op) → operation_at app (standing (task x.found t).frames) ≡ o
                → meaning app o (task x.found t).registers own.1.at.frame own.1.at.outer x.found.symbols ≡ Some own.1.meant
                → cleared (operation_at app (standing (task x.found t).frames)) ≡ 0
            none_cleared (op.Serve call) is m = absurd cc
            none_cleared op.Return is m = ap cleared is
            none_cleared o is m = ap cleared is
        own_turn (event.Back u) is step turn stays quiet round =
            let own : OsekStep config app (event.Back t) x.found x.next = subst (λ v. OsekStep config app (event.Back v) x.found x.next) (eqb-true u t turn) step in
            unmoved (own_back config app t x.found x.next own) (frame_effect config app w x.found x.next k.valid (event.Back t) own).frames round
        own_turn (event.Call u served status) is step turn stays quiet round = by (cases_Bool (is_service served service.ClearEvent))
          where
            own : OsekStep config app (event.Call t served status) x.found x.next
            own = subst (λ v. OsekStep config app (event.Call v served status) x.found x.next) (eqb-true u t turn) step

            h : IsServiceStep config app t served x.found (GoesOn status own.1.0)
            h = own.1.1

            place_is : operation_at app (standing (task x.found t).frames) ≡ op.Serve h.call
            place_is = ap (λ fs. operation_at app (standing fs)) h.at.frames ∙ h.at.next

            walks : IsPositionStep app (standing (task x.found t).frames) (standing (task x.next t).frames)
            walks = (frame_effect config app w x.found x.next k.valid (event.Call t served status) own).steps.walks

            no_wait : is_wait (operation_at app (standing (task x.found t).frames)) ≡ false
            no_wait =
                ap is_wait place_is ∙ ap (λ s. is_service s service.WaitEvent) h.same
                ∙ sym (ap (λ b. b && is_service served service.WaitEvent) turn) ∙ quiet

            cleared_is : cleared (operation_at app (standing (task x.found t).frames)) ≡ cond (is_service served service.ClearEvent) h.call.mask 0
            cleared_is = ap cleared place_is ∙ ap (λ s. cond (is_service s service.ClearEvent) h.call.mask 0) h.same

            there : t < length x.found.tasks
            there = subst (λ c. t < c) (sym k.valid.count) h.top.declared

            by : (is_service served service.ClearEvent ≡ true) ⊎ (is_service served service.ClearEvent ≡ false)
                → (n < m) ⊎ (((task x.next t).events ≡ 0) ⊎ Later (task x.next t).events (standing (task x.next t).frames))
            by (inl clears) =
                let named = same_service served service.ClearEvent clears in
                let mask : (task x.next t).events ≡ bit_and (task x.found t).events (4294967295 - h.call.mask) = clear_mask served named own in
                moved (bit_and (task x.found t).events (4294967295 - h.call.mask)) mask walks no_wait
                (λ z. ap (λ v. bit_and v (4294967295 - h.call.mask)) z ∙ and_zero_l (4294967295 - h.call.mask))
                (λ c apart. fewer_apart (task x.found t).events (4294967295 - h.call.mask) c apart)
                (ap (bit_and (bit_and (task x.found t).events (4294967295 - h.call.mask))) (cleared_is ∙ ap (λ b. cond b h.call.mask 0) clears)
                ∙ cleared_apart (task x.found t).events h.call.mask) round
              where
                clear_mask : (served : Service) → served ≡ service.ClearEvent → (own : OsekStep config app (event.Call t served status) x.found x.next)
                    → (task x.next t).events ≡ bit_and (task x.found t).events (4294967295 - own.1.1.call.mask)
                clear_mask service.ClearEvent e own = own_clears config app t status x.found x.next own there
                clear_mask service.Schedule e own = absurd cc
                clear_mask served e own = absurd cc
            by (inr other) =
                let grows = own_grows config app t served status x.found x.next own (λ e. true≢false (sym (ap (λ s. is_service s service.ClearEvent) e) ∙ other)) in
                let mask = same_mask (task x.found t).events (task x.next t).events grows parts.1 in
                moved (task x.found t).events mask walks no_wait (λ z. z) (λ c apart. apart)
                (ap (bit_and (task x.found t).events) (cleared_is ∙ ap (λ b. cond b h.call.mask 0) other) ∙ and_zero_r (task x.found t).events) round
        own_turn (event.Left u served) is step turn stays quiet round = absurd (true≢false (sym turn ∙ stays))
        own_turn e is step turn stays quiet round = absurd (false≢true turn)

        active_next : IsActive x.next t → (n < m) ⊎ (((task x.next t).events ≡ 0) ⊎ Later (task x.next t).events (standing (task x.next t).frames))
        active_next active = which (cases_Bool (at_entry t x)) (cases_Bool (in_turn t x))
          where
            not_left : is_left t x.stamped.event ≡ false
            not_left = by (is_left t x.stamped.event) refl
              where
                by : (b : Bool) → is_left t x.stamped.event ≡ b → b ≡ false
                by false e = refl
                by true e = absurd (left_inactive config app w t x k e active)

            entry_ready : (e : Event) → OsekStep config app e x.found x.next → is_entry t e ≡ true → ((task x.found t).state ≡ mode.Ready) × (is_turn t e ≡ false)
            entry_ready (event.Enter u) step entry = (subst (λ v. (task x.found v).state ≡ mode.Ready) (eqb-true u t entry) step.2, refl)
            entry_ready e step entry = absurd (false≢true entry)

            which : (at_entry t x ≡ true) ⊎ (at_entry t x ≡ false) → (in_turn t x ≡ true) ⊎ (in_turn t x ≡ false)
                → (n < m) ⊎ (((task x.next t).events ≡ 0) ⊎ Later (task x.next t).events (standing (task x.next t).frames))
            which (inl entry) turn =
                let facts = entry_ready x.stamped.event k.step entry in
                by (inv.fresh facts.0 (anew entry)) facts.1
              where
                by : (n < m) ⊎ ((task x.found t).events ≡ 0) → is_turn t x.stamped.event ≡ false
                    → (n < m) ⊎ (((task x.next t).events ≡ 0) ⊎ Later (task x.next t).events (standing (task x.next t).frames))
                by (inl lt) away = inl lt
                by (inr blank) away = inr (inl (same_away away ∙ blank))
            which (inr out) (inl turn) =
                own_turn x.stamped.event refl k.step turn not_left no_parts.1 (inv.active (turn_active config app t x k turn))
            which (inr out) (inr away) =
                unmoved (same_away away) (frames_same config app w t x.stamped.event x.found x.next k.step k.valid away out)
                (inv.active (stays_inactive config app t x k out active))

    -- behind the event
    next_inv : (n + cond (begins_next true t x) 1 0 ≤ m) × Inv (n + cond (begins_next true t x) 1 0) (m + was_set t x) x.next
    next_inv = by (begins_next true t x) refl (is_set t x) refl
      where
        few_then : (b : Bool) → begins_next true t x ≡ b → n + cond b 1 0 ≤ m
        few_then true is = let lt = spends n m x k inv is in omega (arith, lt)
        few_then false is = let le = inv.few in omega (arith, le)

        later_begun : begins_next true t x ≡ true → Later (task x.next t).events (standing (task x.next t).frames)
        later_begun is =
            let b = behind_wait config app w t true x k stands placed is in
            record {
              before = b.before;
              wait = b.wait;
              between = [];
              walk = subst (IsWalk app t) (sym (append_assoc b.before (b.wait ∷ []) (standing (task x.next t).frames ∷ [])))
                  (walk_on app t b.before (standing (task x.next t).frames ∷ []) b.wait b.walk (b.step, (tt, tt)));
              waits = b.waits;
              none = tt;
              quiet = and_zero_r (task x.next t).events;
            }

        not_ready : begins_next true t x ≡ true → (task x.next t).state ≡ mode.Ready → ⊥
        not_ready is ready = differ (sym ready ∙ active_then (cases_Bool (at_entry t x && has_frames (task x.found t).frames)))
          where
            differ : mode.Ready ≡ mode.Active → ⊥
            differ e = cc

            stays : (e : Event) → goes_on_waiting t e ≡ true → is_left t e ≡ false
            stays (event.Call u served status) e = refl
            stays event.Boot e = refl
            stays e is = absurd (false≢true is)

            active_then : ((at_entry t x && has_frames (task x.found t).frames) ≡ true) ⊎ ((at_entry t x && has_frames (task x.found t).frames) ≡ false) → IsActive x.next t
            active_then (inl entry) = entry_active config app t x.stamped.event x.found x.next k.step k.valid (and_parts (at_entry t x) (has_frames (task x.found t).frames) entry).0
            active_then (inr other) =
                let waits = sym (ap (λ b. b || (true && goes_on_waiting t x.stamped.event)) other) ∙ is in
                stays_active config app t x.stamped.event x.found x.next k.step k.valid (stays x.stamped.event waits)
                (turn_active config app t x k (waiting_turn t x.stamped.event waits))

        by : (b : Bool) → begins_next true t x ≡ b → (d : Bool) → is_set t x ≡ d
            → (n + cond b 1 0 ≤ m) × Inv (n + cond b 1 0) (m + cond d 1 0) x.next
        by b begins true sets =
            let le = few_then b begins in
            let lt : n + cond b 1 0 < m + 1 = omega (arith, le) in
            (le, record { few = omega (arith, le); fresh = λ _ _. inl lt; again = λ _ _. lt; active = λ _. inl lt })
        by true begins false unset =
            let le = few_then true begins in (
              le,
              record {
                few = omega (arith, le);
                fresh = λ ready _. absurd (not_ready begins ready);
                again = λ ready _. absurd (not_ready begins ready);
                active = λ _. inr (inr (later_begun begins));
              },
            )
        by false none false unset =
            let le = few_then false none in (
              le,
              record {
                few = omega (arith, le);
                fresh = λ ready bare. grown_or (fresh_next unset none ready bare);
                again = λ ready begun. let lt = still_again unset ready begun in omega (arith, lt);
                active = λ active. grown_active (active_next unset none active);
              },
            )
          where
            grown_or : (n < m) ⊎ ((task x.next t).events ≡ 0) → (n + 0 < m + 0) ⊎ ((task x.next t).events ≡ 0)
            grown_or (inl lt) = inl (omega (arith, lt))
            grown_or (inr blank) = inr blank

            grown_active : (n < m) ⊎ (((task x.next t).events ≡ 0) ⊎ Later (task x.next t).events (standing (task x.next t).frames))
                → (n + 0 < m + 0) ⊎ (((task x.next t).events ≡ 0) ⊎ Later (task x.next t).events (standing (task x.next t).frames))
            grown_active (inl lt) = inl (omega (arith, lt))
            grown_active (inr more) = inr more

  -- ---- all events of a part of a run

  counted : (xs : List Stage) (last : Stage) (at : ℕ) (s : System) (n m : ℕ) → Linked at s (xs ++ last ∷ []) → AllByRecursion (Known config app) (xs ++ last ∷ [])
      → AllByRecursion (λ x. Stands config app w t x.found × Placed app x.found) (xs ++ last ∷ []) → Inv n m s
      → n + count (begins_next true t) (xs ++ last ∷ []) ≤ m + total (was_set t) xs
  counted [] last at s n m l k stand inv =
      let here = (next_inv n m last k.0 stand.0.0 stand.0.1 (subst (Inv n m) (sym l.1) inv)).0 in
      omega (arith, here)
  counted (x ∷ xs) last at s n m l k stand inv =
      let here = next_inv n m x k.0 stand.0.0 stand.0.1 (subst (Inv n m) (sym l.1) inv) in
      let rest = counted xs last (end_of x) x.next (n + cond (begins_next true t x) 1 0) (m + was_set t x) l.2 k.1 stand.1 here.1 in
      omega (arith, rest)

-- ---- a run

module _ (config : Config) (app : App) (events : List Stamped) (t : ℕ) (wf : WellFormed config app) (osek : OsekRun config app events) (clean : IsClean app t) where
  abbrev w : Facts config app
  w = facts config app wf

  known : AllByRecursion (Known config app) (run_stages config app events)
  known =
      stages_known config app w 0 (opening config app) osek.0 events (opening_ordered config app) (opening_valid config app)
      (follows_leads config app [] (opening config app) events osek.0 osek.1)

  stands_all : AllByRecursion (λ x. Stands config app w t x.found × Placed app x.found) (run_stages config app events)
  stands_all =
      all_stand config app w t 0 (opening config app) (run_stages config app events) (stages_linked config app 0 (opening config app) events) known
      (opening_placed config app) (inr (inl (ap (λ (k : Task). k.frames) (asleep_at config.tasks t))))

  module _ (before xs behind : List Stage) (last : Stage) (is : run_stages config app events ≡ before ++ ((xs ++ last ∷ []) ++ behind)) where
    part : (P : Stage → Type 0) → AllByRecursion P (run_stages config app events) → AllByRecursion P (xs ++ last ∷ [])
    part P each = (each_append P (xs ++ last ∷ []) behind (each_append P before ((xs ++ last ∷ []) ++ behind) (subst (AllByRecursion P) is each)).1).0

    links : Linked (last_end 0 before) (last_state (opening config app) before) (xs ++ last ∷ [])
    links =
        linked_front (last_end 0 before) (last_state (opening config app) before) (xs ++ last ∷ []) behind
        (linked_behind 0 (opening config app) before ((xs ++ last ∷ []) ++ behind)
        (subst (Linked 0 (opening config app)) is (stages_linked config app 0 (opening config app) events)))

    counted_part : (n m : ℕ) → Inv config app w t clean n m (last_state (opening config app) before) → n + count (begins_next true t) (xs ++ last ∷ []) ≤ m + total (was_set t) xs
    counted_part n m begins =
        counted config app w t clean xs last (last_end 0 before) (last_state (opening config app) before) n m links (part (Known config app) known)
        (part (λ x. Stands config app w t x.found × Placed app x.found) stands_all) begins

pub clean_tasks_have_settings : CleanTasksHaveSettings
clean_tasks_have_settings config app events t wf osek clean before further behind first last is rests =
    let begins = subst (Inv config app (facts config app wf) t clean 0 0) (links config app events t wf osek clean before (first ∷ further) behind last is).1 begins_at in
    let le = counted_part config app events t wf osek clean before (first ∷ further) behind last is 0 0 begins in
    omega (arith, le)
  where
    not_due : (is_ready (task first.found t).state ≡ false) × (is_active (task first.found t).state ≡ false)
    not_due = or_parts (is_ready (task first.found t).state) (is_active (task first.found t).state) rests

    begins_at : Inv config app (facts config app wf) t clean 0 0 first.found
    begins_at = record {
      few = omega arith;
      fresh = λ ready _. absurd (true≢false (sym (ap is_ready ready) ∙ not_due.0));
      again = λ ready _. absurd (true≢false (sym (ap is_ready ready) ∙ not_due.0));
      active = λ active. absurd (true≢false (sym (ap is_active active) ∙ not_due.1));
    }

-- wherever the part of the run begins, at most one event is set in front of it
pub settings_but_one : CleanTasksHaveSettingsButOne
settings_but_one config app events t wf osek clean before xs behind last is =
    let le = counted_part config app events t wf osek clean before xs behind last is 0 1
    (record { few = omega arith; fresh = λ _ _. inl (omega arith); again = λ _ _. omega arith; active = λ _. inl (omega arith) }) in
    omega (arith, le)
