-- What one event of a lower task brings in, or with which h leaves, is within a start that the task code fits.
use Rattle.std.proofs.Common.{◌≡◌, ℕ, ◌+◌, ◌<◌, ◌≤◌, ◌⊎◌, ◌==◌, not, List, [], Bool, true, false, cond, length, refl, sym, ap, ◌∙◌, subst, arith, inl, inr, is_some}
use Rattle.std.proofs.lemmas.List.{get_or_past}
use Rattle.std.proofs.lemmas.Bool.{cases_Bool, cases_lt, true≢false, false≢true, eqb-true, leb-false}
use Rattle.sloth_base.specs.declared.config.Config.{Config}
use Rattle.sloth_base.specs.declared.app.App.{App}
use Rattle.sloth_base.specs.declared.service.Event.{Event}
use Rattle.sloth_base.specs.declared.service.Event.TheVariants as event
use Rattle.sloth_base.specs.declared.service.Service.{Service}
use Rattle.sloth_base.specs.Events.{is_boot, served_task}
use Rattle.load_text.specs.declared.load_line.Entry.{Entry}
use Rattle.osek_scheduler.specs.declared.state.TaskState.TheVariants as mode
use Rattle.osek_scheduler.specs.State.{Task, System, sleeping_task, task}
use Rattle.osek_scheduler.specs.Services.{ServiceOutcome, GoesOn, Leaves}
use Rattle.osek_scheduler.specs.Steps.{OsekStep, IsServiceStep}
use Rattle.osek_scheduler.specs.Valid.{InState}
use Rattle.osek_scheduler.specs.Apart.{IsActive, static_priority}
use Rattle.osek_scheduler.proofs.Facts.{Facts}
use Rattle.osek_scheduler.proofs.Steps.{autostarted_at}
use Rattle.osek_blocking.specs.Sections.{operation_at, IsLower}
use Rattle.bound_rules.specs.declared.bound.BodyWeights.{BodyWeights}
use Rattle.walk_sums.specs.Weights.{going_at, ending_at}
use Rattle.walk_sums.specs.Rounds.{Reaches}
use Rattle.walk_sums.specs.declared.counted.Counted.{Counted}
use Rattle.walk_sums.specs.declared.counted.Counted.TheVariants as counts
use Rattle.walk_sums.specs.Counted.{one_if, counted_weights}
use Rattle.sim_induction.specs.Pace.{ItemSizes}
use Rattle.run_counts.specs.Stages.{Stage, charged, is_turn, is_entry}
use Rattle.run_counts.specs.Spending.{WeighsItems}
use Rattle.run_counts.specs.Rounds.{is_left, WeighsEndings}
use Rattle.response_laws.specs.Sums.{is_over}
use Rattle.response_laws.specs.Turns.{at_entry, is_other_event, is_other, activated, was_set}
use Rattle.response_laws.specs.Demand.{Start}
use Rattle.response_laws.specs.Walked.{standing, is_executed, is_back}
use Rattle.response_laws.specs.Makers.{activation_weights, setting_weights}
use Rattle.response_laws.specs.Starts.{IsWithinStart, SomeIsWithin, begun_item}
use Rattle.response_laws.specs.CodeStarts.{SomeHasRoom, HaveServiceRoom, none, autostarted, is_call, FitsStarts}
use Rattle.run_counts.proofs.StepCases.{Outside, boot_event, idle_event, arrival_event, tick_event, outside_of}
use Rattle.response_laws.proofs.Attributed.{declared_by_step}
use Rattle.response_laws.proofs.Blocking.{admitted_no_other}
use Rattle.response_laws.proofs.Counting.{counted_going, counted_lighter}
use Rattle.response_laws.proofs.SectionShares.{executed_fits, leaving_fits}
use Rattle.response_laws.specs.Never.{OthersSleep}
use Rattle.response_laws.proofs.Awake.{active_comes}
use Rattle.response_laws.proofs.Steps.{activated_between, set_between, not_activated, not_set, starting_sets_none}
use Rattle.response_laws.proofs.Uncounted.{booted_acts, itself, no_call_counts, runs_no_call}
use Rattle.response_laws.proofs.Seen.{position, Seen, stands_reached, entry_acts, entry_sets}
use Rattle.response_laws.proofs.SectionShares.{lighter}

module _ (config : Config) (app : App) (w : Facts config app) (size : ItemSizes) (longest : ℕ) (weights : List BodyWeights) (weighs : WeighsItems app size weights)
    (ends : WeighsEndings app size weights) (h : ℕ) where
  lower_of : (t : ℕ) → t < length config.tasks → not (is_over config h t) ≡ true → IsLower config h t
  lower_of t lt other = (lt, by (is_over config h t) refl other)
    where
      by : (b : Bool) → is_over config h t ≡ b → not b ≡ true → static_priority config t < static_priority config h
      by true is off = absurd (false≢true off)
      by false is off = leb-false (static_priority config h) (static_priority config t) is

  module _ (x : Stage) (s : Seen config app size longest x) where
    -- what a service of task t has, and where it stands
    record Serving (t : ℕ) : Type 0 where
      active : IsActive x.found t
      charge : charged x ≤ ending_at weights (position x t)
      acts : (j : ℕ) → activated j x ≤ ending_at (activation_weights app t j) (position x t)
      sets : (j : ℕ) → was_set j x ≤ ending_at (setting_weights app j) (position x t)
      there : Reaches app t (position x t)
      call : is_call (operation_at app (position x t)) ≡ true

    -- the item at which its caller stands is a call
    at_call : (t : ℕ) (served : Service) (answer : ServiceOutcome) → IsServiceStep config app t served x.found answer → is_call (operation_at app (position x t)) ≡ true
    at_call t served answer step = ap (λ fs. is_call (operation_at app (standing fs))) step.at.frames ∙ ap is_call step.at.next

    called : (t : ℕ) (served : Service) (status : ℕ) → x.stamped.event ≡ event.Call t served status → OsekStep config app (event.Call t served status) x.found x.next → Serving t
    called t served status is step =
        let ran : is_executed t x.stamped.event ≡ true = ap (is_executed t) is ∙ itself t in
        record {
          active = step.1.1.at.active;
          charge =
              let le = executed_fits config app w size longest weights weighs ends (charged x) x.found x.next x.stamped.event t s.known.step s.within ran in
              let more = lighter config app w size longest weights weighs ends (position x t) in
              omega (arith, le, more);
          acts = λ j.
              let le = (s.acts t j).goes ran in
              let more = counted_lighter (cond (t == j) (counts.Chains j) (counts.Activations j)) app (position x t) in
              omega (arith, le, more);
          sets = λ j. let le = (s.sets t j).goes ran in let more = counted_lighter (counts.Settings j) app (position x t) in omega (arith, le, more);
          there = stands_reached config app size longest x s t (ap (is_turn t) is ∙ itself t);
          call = at_call t served (GoesOn status step.1.0) step.1.1;
        }

    left_with : (t : ℕ) (served : Service) → x.stamped.event ≡ event.Left t served → OsekStep config app (event.Left t served) x.found x.next → Serving t
    left_with t served is step =
        let left : is_left t x.stamped.event ≡ true = ap (is_left t) is ∙ itself t in
        record {
          active = step.1.1.at.active;
          charge = leaving_fits config app w size longest weights weighs ends (charged x) x.found x.next x.stamped.event t s.known.step s.within left;
          acts = λ j. (s.acts t j).leaves left;
          sets = λ j. (s.sets t j).leaves left;
          there = stands_reached config app size longest x s t (ap (is_turn t) is ∙ itself t);
          call = at_call t served (Leaves step.1.0) step.1.1;
        }

  module _ (late : ℕ) (once : Bool) (starts : ℕ) (start : ℕ → Start) (load : List Entry) (cuts comes : ℕ → Bool) (fits : FitsStarts config app longest late weights load cuts comes h once starts start)
      (x : Stage) (s : Seen config app size longest x) (sleeps : OthersSleep comes x.found) where
    abbrev Opens : Type 0
    Opens = (i : ℕ) × (i < starts) × ((start i).is_boot ≡ true → is_boot x.stamped.event ≡ true) × IsWithinStart config h (begun_item longest (start i)) late (start i) x

    -- what the event makes is within the room of a start
    with_room : (acts sets : ℕ → ℕ) → ((j : ℕ) → activated j x ≤ acts j) → ((j : ℕ) → was_set j x ≤ sets j) → (boot : Bool) → (boot ≡ true → is_boot x.stamped.event ≡ true)
        → SomeHasRoom config h longest starts start boot 0 late acts sets → Opens
    with_room acts sets makes signals boot at_boot (i, lt, boots, room) = (
      i,
      lt,
      (λ is. at_boot (boots is)),
      record {
        front = let most = room.front in omega (arith, most);
        lead = room.lead;
        acts = λ j over. let le = makes j in let most = room.acts j over in omega (arith, le, most);
        sets = λ j over. let le = signals j in let most = room.sets j over in omega (arith, le, most);
      },
    )

    -- one that makes nothing is within any start
    within_any : ((j : ℕ) → activated j x ≤ 0) → ((j : ℕ) → was_set j x ≤ 0) → Opens
    within_any makes signals =
        let some = fits.some in (
          some.0,
          some.1,
          (λ is. absurd (true≢false (sym is ∙ some.2))),
          record {
            front = let most = some.3 in let item = ap {B = ℕ} (λ b. cond b 0 longest) some.2 in omega (arith, most, item);
            lead = some.4;
            acts = λ j over. let le = makes j in omega (arith, le);
            sets = λ j over. let le = signals j in omega (arith, le);
          },
        )

    -- a service has the room for one
    abbrev Room : (t counts lead : ℕ) → Type 0
    Room t counts lead =
        SomeHasRoom config h longest starts start false counts lead (λ j. ending_at (activation_weights app t j) (position x t)) (λ j. ending_at (setting_weights app j) (position x t))

    opens_with : (t : ℕ) → Serving x s t → Room t 0 late → Opens
    opens_with t v room =
        with_room (λ j. ending_at (activation_weights app t j) (position x t)) (λ j. ending_at (setting_weights app j) (position x t)) v.acts v.sets false
        (λ z. absurd (false≢true z)) room

    no_boot_start : {b : Bool} → (b ≡ true) ⊎ (b ≡ false) → (b ≡ true → false ≡ true) → b ≡ false
    no_boot_start (inr is) boots = is
    no_boot_start (inl is) boots = absurd (false≢true (boots is))

    served_in : (t counts lead : ℕ) → Serving x s t → {more : ℕ} → more ≤ counts + longest → Room t counts lead → SomeIsWithin config h starts start more lead x
    served_in t counts lead v few (i, lt, boots, room) = (
      i,
      lt,
      no_boot_start (cases_Bool (start i).is_boot) boots,
      record {
        front =
            let most = room.front in
            let item = ap {B = ℕ} (λ b. cond b 0 longest) (no_boot_start (cases_Bool (start i).is_boot) boots) in
            omega (arith, few, most, item);
        lead = room.lead;
        acts = λ j over. let le = v.acts j in let most = room.acts j over in omega (arith, le, most);
        sets = λ j over. let le = v.sets j in let most = room.sets j over in omega (arith, le, most);
      },
    )

    lower_by : (e : Event) → x.stamped.event ≡ e → (t : ℕ) → is_other_event config h e ≡ not (is_over config h t) → t < length config.tasks → is_other config h x ≡ true
        → IsLower config h t
    lower_by e is t same lt other = lower_of t lt (sym same ∙ sym (ap (is_other_event config h) is) ∙ other)

    -- the room of a service of a lower task
    room_of : (t : ℕ) → IsLower config h t → Serving x s t
        → HaveServiceRoom config h longest late starts start (ending_at weights (position x t)) (λ j. ending_at (activation_weights app t j) (position x t)) (λ j. ending_at (setting_weights app j) (position x t))
    room_of t lower v = fits.serves t lower (active_comes comes x.found sleeps t v.active) (position x t) v.there v.call

    lower_call : (t : ℕ) (served : Service) (status : ℕ) → x.stamped.event ≡ event.Call t served status → OsekStep config app (event.Call t served status) x.found x.next
        → is_other config h x ≡ true → IsLower config h t
    lower_call t served status is step other =
        lower_by (event.Call t served status) is t refl (declared_by_step config app (event.Call t served status) x.found x.next step) other

    lower_left : (t : ℕ) (served : Service) → x.stamped.event ≡ event.Left t served → OsekStep config app (event.Left t served) x.found x.next
        → is_other config h x ≡ true → IsLower config h t
    lower_left t served is step other = lower_by (event.Left t served) is t refl (declared_by_step config app (event.Left t served) x.found x.next step) other

    -- a service behind admissions
    served_by : (e : Event) → x.stamped.event ≡ e → OsekStep config app e x.found x.next → is_other config h x ≡ true → is_some (served_task e) ≡ true
        → SomeIsWithin config h starts start (charged x + longest) 0 x
    served_by (event.Call t served status) is step other serves =
        let v = called x s t served status is step in
        let few = v.charge in
        served_in t (ending_at weights (position x t)) 0 v (omega (arith, few)) (room_of t (lower_call t served status is step other) v).1
    served_by (event.Left t served) is step other serves =
        let v = left_with x s t served is step in
        let few = v.charge in
        served_in t (ending_at weights (position x t)) 0 v (omega (arith, few)) (room_of t (lower_left t served is step other) v).1
    served_by e is step other serves = absurd (false≢true serves)

    pub within_served : is_other config h x ≡ true → is_some (served_task x.stamped.event) ≡ true → SomeIsWithin config h starts start (charged x + longest) 0 x
    within_served = served_by x.stamped.event refl s.known.step

    -- an event of no task
    by_outside : (e : Event) → x.stamped.event ≡ e → is_other config h x ≡ true → Outside config x.found x.next e → Opens
    by_outside e is other (boot_event boots off gives) = with_room (autostarted config) none acts sets true (λ _. ap is_boot (is ∙ boots)) fits.boots
      where
        acts : (j : ℕ) → activated j x ≤ autostarted config j
        acts j =
            let le = booted_acts (task x.found j) config.tasks x.found.tasks j refl in
            let same = ap (λ (y : System). activated_between (task x.found j) (task y j)) gives in
            omega (arith, le, same)

        sets : (j : ℕ) → was_set j x ≤ 0
        sets j =
            let asleep = s.known.valid.asleep off j in
            let zero = subst (λ (y : System). set_between (task x.found j) (task y j) ≡ 0) (sym gives)
            (autostarted_at (λ k. set_between (task x.found j) k ≡ 0) config.tasks x.found.tasks j (not_set (task x.found j))
            (starting_sets_none (task x.found j) (bare j asleep (cases_lt j (length config.tasks))))) in
            omega (arith, zero)
          where
            bare : (j : ℕ) → (task x.found j).state ≡ mode.Suspended → (j < length config.tasks) ⊎ (length config.tasks ≤ j) → (task x.found j).frames ≡ []
            bare j asleep (inl lt) = (subst (InState config j (task x.found j)) asleep (s.known.valid.each j lt).in_state).1
            bare j asleep (inr past) =
                ap (λ (k : Task). k.frames) (get_or_past x.found.tasks j sleeping_task (subst (λ n. n ≤ j) (sym s.known.valid.count) past))
    by_outside e is other (idle_event none ticks gives) = within_any acts sets
      where
        acts : (j : ℕ) → activated j x ≤ 0
        acts j =
            let zero = subst (λ (y : System). activated_between (task x.found j) (task y j) ≡ 0) (sym gives) (not_activated (task x.found j)) in
            omega (arith, zero)

        sets : (j : ℕ) → was_set j x ≤ 0
        sets j =
            let zero = subst (λ (y : System). set_between (task x.found j) (task y j) ≡ 0) (sym gives) (not_set (task x.found j)) in
            omega (arith, zero)
    by_outside e is other (arrival_event line admits) =
        absurd (false≢true (sym (ap (is_other_event config h) is ∙ admitted_no_other config h e (ap is_some admits)) ∙ other))
    by_outside e is other (tick_event c ticks) = absurd (false≢true (sym (ap (is_other_event config h) (is ∙ ticks)) ∙ other))

    by_event : (e : Event) → x.stamped.event ≡ e → OsekStep config app e x.found x.next → is_other config h x ≡ true → Opens
    by_event (event.Run t func item result) is step other =
        within_any (λ j. nothing (activated j) ((s.acts t j).goes ran) (run_weighs (counts_of t j)))
        (λ j. nothing (was_set j) ((s.sets t j).goes ran) (run_weighs (counts.Settings j)))
      where
        ran : is_executed t x.stamped.event ≡ true
        ran = ap (is_executed t) is ∙ itself t

        counts_of : (t j : ℕ) → Counted
        counts_of t j = cond (t == j) (counts.Chains j) (counts.Activations j)

        nothing : (f : Stage → ℕ) {weight : ℕ} → f x ≤ weight → weight ≤ 0 → f x ≤ 0
        nothing f le none = omega (arith, le, none)

        run_weighs : (c : Counted) → going_at (counted_weights c app) (position x t) ≤ 0
        run_weighs c =
            let same = counted_going c app (position x t) in
            let off = ap one_if (no_call_counts c (operation_at app (position x t)) (runs_no_call config app t func item result x.found x.next step.1)) in
            omega (arith, same, off)
    by_event (event.Call t served status) is step other =
        let v = called x s t served status is step in opens_with t v (room_of t (lower_call t served status is step other) v).0
    by_event (event.Left t served) is step other =
        let v = left_with x s t served is step in opens_with t v (room_of t (lower_left t served is step other) v).0
    by_event (event.Back t) is step other =
        let back : is_back t x.stamped.event ≡ true = ap (is_back t) is ∙ itself t in
        within_any (λ j. (s.acts t j).returns back) (λ j. (s.sets t j).returns back)
    by_event (event.Enter t) is step other =
        let entry : at_entry t x ≡ true = ap (is_entry t) is ∙ itself t in
        within_any (λ j. entry_acts config app size longest x s t j entry) (λ j. entry_sets config app size longest x s t j entry)
    by_event e is step other = by_outside e is other (outside_of config app e x.found x.next step refl refl)

    -- where h leaves
    pub within_leaving : once ≡ true → is_left h x.stamped.event ≡ true
        → SomeIsWithin config h starts start longest late x × SomeIsWithin config h starts start (charged x + longest) 0 x
    within_leaving on is = by x.stamped.event refl s.known.step is
      where
        of : Serving x s h → SomeIsWithin config h starts start longest late x × SomeIsWithin config h starts start (charged x + longest) 0 x
        of v =
            let rooms = fits.leaves on (position x h) v.there v.call in
            let few = v.charge in (
              served_in h 0 late v (omega arith) rooms.0,
              served_in h (ending_at weights (position x h)) 0 v (omega (arith, few)) rooms.1,
            )

        by : (e : Event) → x.stamped.event ≡ e → OsekStep config app e x.found x.next → is_left h e ≡ true
            → SomeIsWithin config h starts start longest late x × SomeIsWithin config h starts start (charged x + longest) 0 x
        by (event.Left u served) e step same =
            let own_event = ap (λ v. event.Left v served) (eqb-true u h same) in
            of (left_with x s h served (e ∙ own_event) (subst (λ v. OsekStep config app (event.Left v served) x.found x.next) (eqb-true u h same) step))
        by v e step same = absurd (false≢true same)

    pub within_one : is_other config h x ≡ true → Opens
    within_one = by_event x.stamped.event refl s.known.step
