-- Tasks that do not come are Suspended all along, in a run whose arrivals keep a load.
use Rattle.std.proofs.Common.{◌≡◌, ◌+◌, ◌-◌, ◌<◌, ◌≤◌, ℕ, zero, suc, ◌⊎◌, length, ◌==◌, ◌&&◌, ◌||◌, List, [], ◌∷◌, Bool, true, false, cond, map, get_or, Option, Some, None, refl, sym, ap, ◌∙◌, subst, arith, inl, inr}
use Rattle.std.specs.List.{AllByRecursion}
use Rattle.std.proofs.lemmas.Bool.{true≢false, eqb-true, cases_Bool, cases_eq, cases_lt}
use Rattle.std.proofs.lemmas.List.{get_or_past}
use Rattle.std.proofs.lemmas.List.Sums.{sum_by-cons}
use Rattle.sloth_base.specs.Options.{is_number}
use Rattle.sloth_base.specs.declared.config.Config.{Config}
use Rattle.sloth_base.specs.declared.config.CounterDecl.{CounterDecl}
use Rattle.sloth_base.specs.declared.app.App.{App}
use Rattle.sloth_base.specs.declared.app.Op.{Op}
use Rattle.sloth_base.specs.declared.service.Arrival.{Arrival}
use Rattle.sloth_base.specs.declared.service.Event.{Event}
use Rattle.sloth_base.specs.declared.service.Stamped.{Stamped}
use Rattle.sloth_base.specs.declared.service.Service.{Service}
use Rattle.sloth_base.specs.declared.service.Service.TheVariants as service
use Rattle.sloth_base.specs.Events.{admitted_line}
use Rattle.sloth_base.specs.Named.{declaration, counter_declaration, alarm_declaration, operation}
use Rattle.sloth_base.specs.Owners.{counter_line}
use Rattle.sloth_base.specs.ServiceCodes.{is_service}
use Rattle.load_text.specs.declared.load_line.Entry.{Entry}
use Rattle.load_text.specs.Loads.{distance, KeepDistances}
use Rattle.osek_scheduler.specs.declared.state.Alarm.{Alarm}
use Rattle.osek_scheduler.specs.State.{Frame, Task, System, no_counter, sleeping_task, task, counter, alarm, opening}
use Rattle.osek_scheduler.specs.Priority.{IsNextTick}
use Rattle.osek_scheduler.specs.InTime.{admits_at, arrivals_at}
use Rattle.osek_scheduler.specs.Services.{counted_on_state, ticked_state, ServiceOutcome}
use Rattle.osek_scheduler.specs.Steps.{OsekStep, IsServiceStep}
use Rattle.osek_scheduler.specs.Valid.{IsValid}
use Rattle.osek_scheduler.proofs.Facts.{Facts, facts}
use Rattle.osek_scheduler.proofs.Leading.{follows_leads}
use Rattle.osek_scheduler.proofs.ServiceStates.{IsAfter}
use Rattle.osek_scheduler.proofs.Steps.{opening_valid, asleep_at, step_valid}
use Rattle.osek_blocking.proofs.Ordering.{opening_ordered}
use Rattle.osek_blocking.specs.Walks.{Position}
use Rattle.osek_blocking.specs.Sections.{operation_at}
use Rattle.osek_blocking.proofs.FrameEffects.{frame_effect}
use Rattle.osek_blocking.proofs.Placed.{Placed, step_placed, opening_placed}
use Rattle.osek_blocking.proofs.Reached.{IsReached}
use Rattle.walk_sums.specs.Rounds.{Reaches}
use Rattle.run_counts.specs.Stages.{Stage, stage, stages, state_behind, end_of, run_stages}
use Rattle.run_counts.proofs.StepCases.{record_behind}
use Rattle.response_laws.specs.Expiries.{sets_alarm}
use Rattle.response_laws.specs.Made.{is_making}
use Rattle.response_laws.specs.Ticks.{activates}
use Rattle.response_laws.specs.Turns.{ticking_counter}
use Rattle.response_laws.specs.Walked.{standing}
use Rattle.response_laws.specs.Never.{Arrives, IsComing, IsUsed, AreClosed, NoneComes, OthersNeverCome}
use Rattle.response_laws.proofs.AlarmSteps.{Calm, Leaves_it, leaves_alarm}
use Rattle.response_laws.proofs.Arriving.{few_at}
use Rattle.response_laws.proofs.Awake.{active_comes}
use Rattle.response_laws.proofs.Expiring.{opened_at}
use Rattle.response_laws.proofs.Linked.{Known, Linked, stages_linked, stages_known}
use Rattle.response_laws.proofs.Steps.{active_declared, balance}
use Rattle.response_laws.proofs.Suspended.{IsSuspended, awake, not_started, served_asleep, active_other}
use Rattle.response_laws.proofs.Unmade.{ExpiresOne, woken}
use Rattle.response_laws.proofs.Uncounted.{itself}

some_none : (d : ℕ) → (Some d ≡ None) → ⊥
some_none d e = cc

no_frames : (frame : Frame) (outer : List Frame) → ([] ≡ frame ∷ outer) → ⊥
no_frames frame outer e = cc

-- a counter is so as the system starts
pub undue_at : (ds : List CounterDecl) (c : ℕ) → (get_or (map (λ _. no_counter) ds) c no_counter).due ≡ false
undue_at [] c = refl
undue_at (d ∷ ds) zero = refl
undue_at (d ∷ ds) (suc c) = undue_at ds c

-- what is not true is false
off : (b : Bool) → (b ≡ true → ⊥) → b ≡ false
off true refuted = absurd (refuted refl)
off false refuted = refl

module _ (config : Config) (app : App) (load : List Entry) (comes : ℕ → Bool) (closed : AreClosed config app load comes) where
  -- the event admits no line that does not arrive
  abbrev IsOfLoad : Event → Type 0
  IsOfLoad e = (line : ℕ) → distance load line ≡ None → is_number line (admitted_line e) ≡ false

  module _ (s : System) (none : NoneComes config app load comes s) (v : IsValid config app s) (placed : Placed app s) where
    -- a task that calls a service comes, and reaches the item
    module _ (u : ℕ) (served : Service) (answer : ServiceOutcome) (h : IsServiceStep config app u served s answer) where
      caller : IsComing config comes u
      caller = (active_declared config s u v.count h.at.active, active_comes comes s none.asleep u h.at.active)

      reached : Reaches app u (standing (task s u).frames)
      reached = by (placed u)
        where
          by : ((task s u).frames ≡ []) ⊎ IsReached app u (standing (task s u).frames) → Reaches app u (standing (task s u).frames)
          by (inl empty) = absurd (no_frames h.at.frame h.at.outer (sym empty ∙ h.at.frames))
          by (inr r) = (r.before, r.walk)

      -- so what is true of its operation is true of an item that a task which comes reaches
      called : (test : Op → Bool) → ((at : Position) → Reaches app u at → test (operation_at app at) ≡ true → ⊥) → test (operation app h.at.frame.func h.at.frame.item) ≡ false
      called test refuted =
          off (test (operation app h.at.frame.func h.at.frame.item))
          (λ is. refuted (standing (task s u).frames) reached (ap (λ fs. test (operation_at app (standing fs))) h.at.frames ∙ is))

    -- ---- one task

    module _ (t : ℕ) (declared : t < length config.tasks) (never : comes t ≡ false) where
      other : comes t ≡ true → ⊥
      other is = true≢false (sym is ∙ never)

      no_distance : distance load t ≡ None
      no_distance = by (distance load t) refl
        where
          by : (o : Option ℕ) → distance load t ≡ o → distance load t ≡ None
          by None is = is
          by (Some d) is = absurd (other (closed.arrives t declared (λ none. some_none d (sym is ∙ none))))

      serves : (u : ℕ) (served : Service) (answer : ServiceOutcome) → IsServiceStep config app u served s answer → IsAfter (λ x. IsSuspended (task x t)) answer
      serves u served answer h =
          subst (IsAfter (λ x. IsSuspended (task x t))) h.is
          (served_asleep config t u (active_other config t u s h.at.active (none.asleep t never)) s (none.asleep t never) served h.call.object h.call.mask unnamed)
        where
          unnamed : ((is_service served service.ActivateTask || is_service served service.ChainTask) && (h.call.object == t)) ≡ false
          unnamed =
              ap (λ v. (is_service v service.ActivateTask || is_service v service.ChainTask) && (h.call.object == t)) (sym h.same)
              ∙ sym (ap (is_making t) h.at.next)
              ∙ called u served answer h (is_making t) (λ at reach is. other (closed.named u t at declared (caller u served answer h) reach is))

      -- no alarm that activates it expires
      sleeps_on : (c : ℕ) → IsNextTick config s c → IsSuspended (task (ticked_state config c s) t)
      sleeps_on c due = by (woken config t c 0 config.alarms (counted_on_state c (counter_declaration config c).max s) (none.asleep t never))
        where
          by : IsSuspended (task (ticked_state config c s) t) ⊎ ExpiresOne config t c 0 config.alarms (counted_on_state c (counter_declaration config c).max s)
              → IsSuspended (task (ticked_state config c s) t)
          by (inl still) = still
          by (inr (i, lt, mine, makes, one)) =
              let at : 0 + i ≡ i = omega arith in
              let left : (alarm s i).left ≡ 1 = subst (λ n. (alarm s n).left ≡ 1) at one in
              let zero = none.unused i lt (λ used. other (closed.expires i t lt declared arrives makes used)) in
              absurd (omega (arith, left, zero))
            where
              arrives : Arrives load (counter_line (alarm_declaration config i).counter)
              arrives said = true≢false (sym due.due ∙ none.undue c (subst (λ n. distance load (counter_line n) ≡ None) mine said))

      stays : (e : Event) (next : System) → OsekStep config app e s next → IsOfLoad e → IsSuspended (task next t)
      stays e next step of_load =
          record_behind config app t IsOfLoad IsSuspended s
          (record {
            same = none.asleep t never;
            boots = λ _ _. not_started config.tasks s.tasks t (off (declaration config t).autostart (λ is. other (closed.starts t declared is))) (none.asleep t never);
            activates = λ _ admits. absurd (true≢false (sym (itself t) ∙ admits t no_distance));
            enters = λ ready. absurd (awake (task s t).state ready (none.asleep t never));
            works = λ new same _. same ∙ none.asleep t never;
            serves = λ u served answer h _. serves u served answer h;
            ticks = λ c due. sleeps_on c due;
          })
          e next step of_load

    -- ---- one alarm

    alarm_stays : (a : ℕ) → a < length config.alarms → ¬ (IsUsed config app comes a) → (e : Event) (next : System) → OsekStep config app e s next → (alarm next a).left ≡ 0
    alarm_stays a inside unused e next step = by (cases_Bool (is_number (alarm_declaration config a).counter (ticking_counter e)))
      where
        was : (alarm s a).left ≡ 0
        was = none.unused a inside unused

        leaves : Leaves_it config app a inside e s next
        leaves =
            leaves_alarm config app a inside e s next
            (λ u served answer h. called u served answer h (sets_alarm a) (λ at reach is. unused (inr (u, at, caller u served answer h, reach, is)))) step

        by : (is_number (alarm_declaration config a).counter (ticking_counter e) ≡ true) ⊎ (is_number (alarm_declaration config a).counter (ticking_counter e) ≡ false)
            → (alarm next a).left ≡ 0
        by (inl is) = ap (λ (k : Alarm). k.left) (leaves.0 is) ∙ ap (λ n. cond (n == 1) (alarm s a).cycle (n - 1)) was
        by (inr apart) = calm (leaves.1 apart)
          where
            calm : Calm config app a inside s next → (alarm next a).left ≡ 0
            calm (inl same) = ap (λ (k : Alarm). k.left) same ∙ was
            calm (inr cancelled) = cancelled.0

  -- ---- one event

  undue_stays : (c : ℕ) → distance load (counter_line c) ≡ None → (e : Event) (s next : System) → OsekStep config app e s next → NoneComes config app load comes s → IsOfLoad e
      → (counter next c).due ≡ false
  undue_stays c said e s next step none of_load = by (counter next c).due refl
    where
      by : (b : Bool) → (counter next c).due ≡ b → (counter next c).due ≡ false
      by false is = is
      by true is =
          let most = (balance config app c e s next step).1 in
          let was = ap {B = ℕ} (λ b. cond b 1 0) (none.undue c said) in
          let line = ap {B = ℕ} (λ b. cond b 1 0) (of_load (counter_line c) said) in
          let now = ap {B = ℕ} (λ b. cond b 1 0) is in
          absurd (omega (arith, most, was, line, now))

  step_none : Facts config app → (e : Event) (s next : System) → OsekStep config app e s next → IsValid config app s → Placed app s → IsOfLoad e → NoneComes config app load comes s
      → NoneComes config app load comes next
  step_none w e s next step v placed of_load none = record {
    asleep = λ t never. by t never (cases_lt t (length config.tasks));
    undue = λ c said. undue_stays c said e s next step none of_load;
    unused = λ a inside unused. alarm_stays s none v placed a inside unused e next step;
  }
    where
      by : (t : ℕ) → comes t ≡ false → (t < length config.tasks) ⊎ (length config.tasks ≤ t) → IsSuspended (task next t)
      by t never (inl lt) = stays s none v placed t lt never e next step of_load
      by t never (inr past) =
          ap (λ (k : Task). k.state) (get_or_past next.tasks t sleeping_task (let same = (step_valid config app e s next w step v).count in omega (arith, past, same)))

  opening_none : NoneComes config app load comes (opening config app)
  opening_none = record {
    asleep = λ t _. ap (λ k. k.state) (asleep_at config.tasks t);
    undue = λ c _. undue_at config.counters c;
    unused = λ a inside unused. ap (λ (k : Alarm). k.left) (opened_at config.alarms a inside) ∙ time a unused (cases_eq (alarm_declaration config a).time 0);
  }
    where
      time : (a : ℕ) → ¬ (IsUsed config app comes a) → ((alarm_declaration config a).time ≡ 0) ⊎ ((alarm_declaration config a).time ≡ 0 → ⊥) → (alarm_declaration config a).time ≡ 0
      time a unused (inl none) = none
      time a unused (inr some) = absurd (unused (inl some))

  -- ---- a run

  along : Facts config app → (at : ℕ) (s : System) (xs : List Stage) → Linked at s xs → AllByRecursion (Known config app) xs → Placed app s → NoneComes config app load comes s
      → AllByRecursion (λ x. IsOfLoad x.stamped.event) xs → AllByRecursion (λ x. NoneComes config app load comes x.found × NoneComes config app load comes x.next) xs
  along w at s [] l k placed none of_load = tt
  along w at s (x ∷ xs) l k placed none of_load =
      let here : Placed app x.found = subst (Placed app) (sym l.1) placed in
      let found : NoneComes config app load comes x.found = subst (NoneComes config app load comes) (sym l.1) none in
      let next = step_none w x.stamped.event x.found x.next k.0.step k.0.valid here of_load.0 found in
      let on = step_placed config app x.found x.next x.stamped.event (frame_effect config app w x.found x.next k.0.valid x.stamped.event k.0.step) here in
      ((found, next), along w (end_of x) x.next xs l.2 k.1 on next of_load.1)

  -- the stages of events of which something is known
  of_events : (P : Event → Type 0) (at : ℕ) (s : System) (events : List Stamped) → AllByRecursion (λ (e : Stamped). P e.event) events
      → AllByRecursion (λ x. P x.stamped.event) (stages config app at s events)
  of_events P at s [] all = tt
  of_events P at s (e ∷ events) all = (all.0, of_events P (end_of (stage config app at s e)) (state_behind config app e.event s) events all.1)

-- ---- what is admitted

-- nothing arrives that the load leaves out
pub none_arrives : (load : List Entry) (k line : ℕ) → distance load line ≡ None → (arrivals : List Arrival) → KeepDistances load arrivals → arrivals_at k line arrivals ≡ 0
none_arrives load k line said [] keep = refl
none_arrives load k line said (a ∷ arrivals) keep = by (a.line == line) refl (none_arrives load k line said arrivals keep.2)
  where
    by : (b : Bool) → (a.line == line) ≡ b → arrivals_at k line arrivals ≡ 0 → arrivals_at k line (a ∷ arrivals) ≡ 0
    by true is rest = absurd (keep.0 (subst (λ l. distance load l ≡ None) (sym (eqb-true a.line line is)) said))
    by false is rest =
        let more = sum_by-cons (λ (x : Arrival). cond ((x.line == line) && (x.at == k)) 1 0) a arrivals in
        let here = ap {B = ℕ} (λ b. cond (b && (a.at == k)) 1 0) is in
        omega (arith, more, rest, here)

-- an event admits a line only at a moment that has an admission of it
pub none_admitted : (line : ℕ) (events : List Stamped) → ((k : ℕ) → admits_at k line events ≡ 0) → AllByRecursion (λ (e : Stamped). is_number line (admitted_line e.event) ≡ false) events
none_admitted line [] none = tt
none_admitted line (e ∷ events) none = (
  off (is_number line (admitted_line e.event))
      (λ is.
      let all = more e.stamp.at in
      let zero = none e.stamp.at in
      let one = ap {B = ℕ} (λ b. cond (b && (e.stamp.at == e.stamp.at)) 1 0) is in
      let here = ap {B = ℕ} (λ b. cond b 1 0) (itself e.stamp.at) in
      omega (arith, all, zero, one, here)),
  none_admitted line events (λ k. let all = more k in let zero = none k in omega (arith, all, zero)),
)
  where
    more : (k : ℕ) → admits_at k line (e ∷ events) ≡ cond (is_number line (admitted_line e.event) && (e.stamp.at == k)) 1 0 + admits_at k line events
    more k = sum_by-cons (λ (x : Stamped). cond (is_number line (admitted_line x.event) && (x.stamp.at == k)) 1 0) e events

-- by lines instead of by events
by_lines : (load : List Entry) (events : List Stamped)
    → ((line : ℕ) → distance load line ≡ None → AllByRecursion (λ (e : Stamped). is_number line (admitted_line e.event) ≡ false) events)
    → AllByRecursion (λ (e : Stamped). (line : ℕ) → distance load line ≡ None → is_number line (admitted_line e.event) ≡ false) events
by_lines load [] each = tt
by_lines load (e ∷ events) each = ((λ line said. (each line said).0), by_lines load events (λ line said. (each line said).1))

pub others_never_come : OthersNeverCome
others_never_come config app load comes n arrivals events wf osek in_time keep closed =
    along config app load comes closed w 0 (opening config app) (run_stages config app events) (stages_linked config app 0 (opening config app) events)
    (stages_known config app w 0 (opening config app) osek.0 events (opening_ordered config app) (opening_valid config app)
    (follows_leads config app [] (opening config app) events osek.0 osek.1))
    (opening_placed config app) (opening_none config app load comes closed)
    (of_events config app load comes closed (IsOfLoad config app load comes closed) 0 (opening config app) events
    (by_lines load events
    (λ line said.
    none_admitted line events
    (λ k. let few = few_at config n arrivals events in_time k line in let none = none_arrives load k line said arrivals keep in omega (arith, few, none)))))
  where
    w : Facts config app
    w = facts config app wf
