-- A round of a task makes another one that cannot be entered meanwhile Ready once at most.
use Rattle.std.proofs.Common.{◌≡◌, ℕ, ◌+◌, ◌<◌, ◌≤◌, ◌⊎◌, ◌&&◌, ◌||◌, not, List, [], ◌∷◌, ◌++◌, Bool, true, false, cond, length, refl, sym, ap, ◌∙◌, subst, arith, inl, inr}
use Rattle.std.specs.List.{AllByRecursion}
use Rattle.std.proofs.lemmas.Bool.{cases_Bool, true≢false, false≢true, eqb-true, and_parts}
use Rattle.sloth_base.specs.declared.config.Config.{Config}
use Rattle.sloth_base.specs.declared.app.App.{App}
use Rattle.sloth_base.specs.declared.service.Event.{Event}
use Rattle.sloth_base.specs.declared.service.Event.TheVariants as event
use Rattle.sloth_base.specs.declared.service.Service.TheVariants as service
use Rattle.sloth_base.specs.ServiceCodes.{is_service}
use Rattle.osek_scheduler.specs.declared.state.TaskState.{TaskState}
use Rattle.osek_scheduler.specs.declared.state.TaskState.TheVariants as mode
use Rattle.osek_scheduler.specs.State.{Task, System, task, opening}
use Rattle.osek_scheduler.specs.Services.{GoesOn}
use Rattle.osek_scheduler.specs.Valid.{InState, IsValid}
use Rattle.osek_scheduler.specs.Steps.{OsekStep, IsServiceStep}
use Rattle.osek_scheduler.specs.Apart.{priority_of, static_priority, IsActive}
use Rattle.osek_scheduler.proofs.Apart.{at_least_static, rank_active, rank_ready}
use Rattle.osek_scheduler.proofs.Facts.{Facts, facts}
use Rattle.osek_scheduler.proofs.Leading.{follows_leads}
use Rattle.osek_scheduler.proofs.Steps.{step_valid, opening_valid, asleep_at}
use Rattle.osek_blocking.proofs.Ordering.{opening_ordered}
use Rattle.osek_blocking.proofs.FrameEffects.{frame_effect}
use Rattle.osek_blocking.specs.Sections.{operation_at, is_schedule}
use Rattle.osek_blocking.proofs.Placed.{Placed, step_placed, opening_placed}
use Rattle.osek_blocking.proofs.Reached.{IsReached}
use Rattle.osek_blocking.proofs.Stepping.{position_of}
use Rattle.walk_sums.specs.Rounds.{Reaches, IsSteady}
use Rattle.sim_induction.specs.Events.{has_frames}
use Rattle.run_counts.specs.Stages.{Stage, end_of, is_turn, is_entry, run_stages}
use Rattle.run_counts.specs.Rounds.{goes_on_waiting, is_left, round_of, total}
use Rattle.response_laws.specs.Turns.{in_turn, at_entry, begins_next, round_behind, is_ready_for, activated, if_turn, if_entry}
use Rattle.response_laws.specs.Once.{StaysOut, RoundsMakeOnce}
use Rattle.run_counts.proofs.Owing.{entered_owes, ran_owes, came_back_owes, called_owes}
use Rattle.run_counts.proofs.Awake.{stays_active, entry_active}
use Rattle.run_counts.proofs.TaskCases.{frames_kept}
use Rattle.response_laws.proofs.Highest.{over_all}
use Rattle.response_laws.proofs.Linked.{Known, Linked, linked_behind, each_append, stages_linked, stages_known}
use Rattle.response_laws.proofs.RoundEnds.{within_round, no_acts}
use Rattle.response_laws.proofs.RoundSums.{waiting_turn}
use Rattle.response_laws.proofs.Steps.{ready_count, turn_active}
use Rattle.response_laws.proofs.ReadyTasks.{ready_on}

module _ (config : Config) (app : App) (w : Facts config app) (k j : ℕ) (declared : k < length config.tasks) (Out : System → Type 0)
    (apart : (s : System) → IsValid config app s → Out s → IsActive s k → j < length config.tasks → static_priority config j ≤ priority_of config k (task s k)) where
  -- while k is Active, j is not entered
  not_entered : (e : Event) (s next : System) → OsekStep config app e s next → IsValid config app s → Out s → IsActive s k → is_entry j e ≡ true → ⊥
  not_entered (event.Enter u) s next step v out active is =
      let same = eqb-true u j is in
      let le = step.1.is_greatest k declared (inr active) refl in
      let own = rank_active config s k active in
      let ready = rank_ready config s u step.2 in
      let equal = ap (static_priority config) same in
      let no_higher = apart s v out active (subst (λ n. n < length config.tasks) same step.1.declared) in
      omega (arith, le, own, ready, equal, no_higher)
  not_entered e s next step v out active is = absurd (false≢true is)

  -- a stage in a turn of k
  makes_one : (x : Stage) → Known config app x → Out x.found → IsActive x.found k → if_turn k (activated j) x + ready_count false j x.found ≤ ready_count false j x.next
  makes_one x known out active =
      let le = by (is_ready_for false (task x.found j)) refl (is_ready_for false (task x.next j)) refl in
      omega (arith, le)
    where
      away : at_entry j x ≡ false
      away = which (cases_Bool (at_entry j x))
        where
          which : (at_entry j x ≡ true) ⊎ (at_entry j x ≡ false) → at_entry j x ≡ false
          which (inr off) = off
          which (inl is) = absurd (not_entered x.stamped.event x.found x.next known.step known.valid out active is)

      few : (t : Bool) (n : ℕ) → cond t n 0 ≤ n
      few true n = omega arith
      few false n = omega arith

      by : (a : Bool) → is_ready_for false (task x.found j) ≡ a → (b : Bool) → is_ready_for false (task x.next j) ≡ b
          → if_turn k (activated j) x + ready_count false j x.found ≤ ready_count false j x.next
      by true was true now =
          let here = ap {B = ℕ} (λ b. cond b 1 0) was in
          let there = ap {B = ℕ} (λ b. cond b 1 0) now in
          let none : activated j x ≡ 0 = ap {B = ℕ} (λ b. cond (not b && is_ready_for false (task x.next j)) 1 0) was in
          let part = few (in_turn k x) (activated j x) in
          omega (arith, here, there, none, part)
      by true was false now = absurd (true≢false (sym (ready_on config app w j x known away was) ∙ now))
      by false was b now =
          let here = ap {B = ℕ} (λ b. cond b 1 0) was in
          let made : activated j x ≡ cond (is_ready_for false (task x.next j)) 1 0 =
          ap {B = ℕ} (λ b. cond (not b && is_ready_for false (task x.next j)) 1 0) was in
          let part = few (in_turn k x) (activated j x) in
          omega (arith, here, made, part)

  ready_few : (s : System) → ready_count false j s ≤ 1
  ready_few s = by (is_ready_for false (task s j))
    where
      by : (b : Bool) → cond b 1 0 ≤ 1
      by true = omega arith
      by false = omega arith

  once : (cuts : Bool) (at : ℕ) (s : System) (xs : List Stage) → Linked at s xs → AllByRecursion (Known config app) xs → AllByRecursion (λ x. Out x.found) xs
      → IsActive s k → total (if_turn k (activated j)) (round_of cuts k xs) + ready_count false j s ≤ 1
  once cuts at s [] l known out active = let few = ready_few s in omega (arith, few)
  once cuts at s (x ∷ xs) l known out active =
      let same = ap (ready_count false j) l.1 in
      let one = makes_one x known.0 out.0 here in
      let le = by (cases_Bool (is_left k x.stamped.event)) (cuts && goes_on_waiting k x.stamped.event) (λ on. once cuts (end_of x) x.next xs l.2 known.1 out.1 on) in
      omega (arith, same, one, le)
    where
      here : IsActive x.found k
      here = subst (λ y. IsActive y k) (sym l.1) active

      by : (is_left k x.stamped.event ≡ true) ⊎ (is_left k x.stamped.event ≡ false) → (g : Bool)
          → (IsActive x.next k → total (if_turn k (activated j)) (round_of cuts k xs) + ready_count false j x.next ≤ 1)
          → total (if_turn k (activated j)) (cond (is_left k x.stamped.event || g) [] (round_of cuts k xs)) + ready_count false j x.next ≤ 1
      by (inl is) g again =
          let none = ap (λ b. total (if_turn k (activated j)) (cond (b || g) [] (round_of cuts k xs))) is in
          let few = ready_few x.next in
          omega (arith, none, few)
      by (inr stays) true again =
          let none = ap (λ b. total (if_turn k (activated j)) (cond (b || true) [] (round_of cuts k xs))) stays in
          let few = ready_few x.next in
          omega (arith, none, few)
      by (inr stays) false again =
          let all = ap (λ b. total (if_turn k (activated j)) (cond (b || false) [] (round_of cuts k xs))) stays in
          let rest = again (stays_active config app k x.stamped.event x.found x.next known.0.step known.0.valid stays here) in
          omega (arith, all, rest)

-- ---- a task that lets no other in

module _ (config : Config) (app : App) (w : Facts config app) (k : ℕ) (declared : k < length config.tasks) (steady : IsSteady config app k) where
  abbrev IsFree : System → Type 0
  IsFree s = (task s k).owed ≡ false

  rest_free : (m : TaskState) (own : Task) → InState config k own m → (m ≡ mode.Active → ⊥) → own.owed ≡ false
  rest_free mode.Suspended own state n = state.0.not_owed
  rest_free mode.Ready own state n = state.0.not_owed
  rest_free mode.Active own state n = absurd (n refl)
  rest_free (mode.Waiting mask) own state n = state.0.not_owed

  -- behind an event in a turn of it
  its_own : (e : Event) (s next : System) → OsekStep config app e s next → IsValid config app s → Placed app s → is_turn k e ≡ true → IsFree next
  its_own (event.Run u func item result) s next step v placed is =
      subst (λ t. (task next t).owed ≡ false) (eqb-true u k is) (ran_owes config app u func item result s next step)
  its_own (event.Back u) s next step v placed is = subst (λ t. (task next t).owed ≡ false) (eqb-true u k is) (came_back_owes config app u s next v step)
  its_own (event.Left u served) s next step v placed is =
      rest_free (task next k).state (task next k) ((step_valid config app (event.Left u served) s next w step v).each k declared).in_state
      (subst (λ t. (task next t).state ≡ mode.Active → ⊥) (eqb-true u k is) (frame_effect config app w s next v (event.Left u served) step).gone)
  its_own (event.Call u served status) s next step v placed is =
      subst (λ t. (task next t).owed ≡ false) (eqb-true u k is) (called_owes config app u served status s next step no_schedule)
    where
      at : IsServiceStep config app k served s (GoesOn status step.1.0)
      at = subst (λ t. IsServiceStep config app t served s (GoesOn status step.1.0)) (eqb-true u k is) step.1.1

      reached : ((task s k).frames ≡ []) ⊎ IsReached app k (position_of (task s k).frames) → Reaches app k (position_of (task s k).frames)
      reached (inl none) = absurd ((subst (InState config k (task s k)) at.at.active (v.each k declared).in_state).0 none)
      reached (inr r) = (r.before, r.walk)

      no_schedule : served ≡ service.Schedule → ⊥
      no_schedule same =
          let off = steady.none (position_of (task s k).frames) (reached (placed k)) in
          let on = ap (λ fs. is_schedule (operation_at app (position_of fs))) at.at.frames ∙ ap is_schedule at.at.next
          ∙ ap (λ x. is_service x service.Schedule) (at.same ∙ same) in
          true≢false (sym on ∙ off)
  its_own e s next step v placed is = absurd (false≢true is)

  free_on : (e : Event) (s next : System) → OsekStep config app e s next → IsValid config app s → Placed app s → IsFree s → IsFree next
  free_on (event.Enter u) s next step v placed free = entered_owes config app k u s next step ∙ free
  free_on e s next step v placed free = by (cases_Bool (is_turn k e))
    where
      by : (is_turn k e ≡ true) ⊎ (is_turn k e ≡ false) → IsFree next
      by (inl is) = its_own e s next step v placed is
      by (inr away) = (frames_kept app s next k e (frame_effect config app w s next v e step) away refl).owed ∙ free

  all_free : (at : ℕ) (s : System) (xs : List Stage) → Linked at s xs → AllByRecursion (Known config app) xs → Placed app s → IsFree s
      → AllByRecursion (λ x. IsFree x.found) xs
  all_free at s [] l known placed free = tt
  all_free at s (x ∷ xs) l known placed free =
      let here : Placed app x.found = subst (Placed app) (sym l.1) placed in
      let own : IsFree x.found = subst IsFree (sym l.1) free in
      let effect = frame_effect config app w x.found x.next known.0.valid x.stamped.event known.0.step in (
        own,
        all_free (end_of x) x.next xs l.2 known.1 (step_placed config app x.found x.next x.stamped.event effect here)
            (free_on x.stamped.event x.found x.next known.0.step known.0.valid here own),
      )

-- ---- a run

pub rounds_make_once : RoundsMakeOnce
rounds_make_once config app events k j cuts wf osek declared out = (
  λ before behind opens is begun. whole before behind opens is (entered before behind opens is (and_parts (at_entry k opens) (not (has_frames (task opens.found k).frames)) begun).0),
  λ before behind opens is begun. whole before behind opens is (which before behind opens is begun (cases_Bool (at_entry k opens))),
)
  where
    w : Facts config app
    w = facts config app wf

    known : AllByRecursion (Known config app) (run_stages config app events)
    known =
        stages_known config app w 0 (opening config app) osek.0 events (opening_ordered config app) (opening_valid config app)
        (follows_leads config app [] (opening config app) events osek.0 osek.1)

    here : (before behind : List Stage) (opens : Stage) → run_stages config app events ≡ before ++ opens ∷ behind
        → Known config app opens × AllByRecursion (Known config app) behind
    here before behind opens is = (each_append (Known config app) before (opens ∷ behind) (subst (AllByRecursion (Known config app)) is known)).1

    entered : (before behind : List Stage) (opens : Stage) → run_stages config app events ≡ before ++ opens ∷ behind → at_entry k opens ≡ true → IsActive opens.next k
    entered before behind opens is entry =
        let own = (here before behind opens is).0 in
        entry_active config app k opens.stamped.event opens.found opens.next own.step own.valid entry

    which : (before behind : List Stage) (opens : Stage) → run_stages config app events ≡ before ++ opens ∷ behind → begins_next cuts k opens ≡ true
        → (at_entry k opens ≡ true) ⊎ (at_entry k opens ≡ false) → IsActive opens.next k
    which before behind opens is begun (inl entry) = entered before behind opens is entry
    which before behind opens is begun (inr away) =
        let own = (here before behind opens is).0 in
        let waits = (and_parts cuts (goes_on_waiting k opens.stamped.event)
        (sym (ap (λ b. (b && has_frames (task opens.found k).frames) || (cuts && goes_on_waiting k opens.stamped.event)) away) ∙ begun)).1 in
        stays_active config app k opens.stamped.event opens.found opens.next own.step own.valid (stays opens.stamped.event waits)
        (turn_active config app k opens own (waiting_turn k opens.stamped.event waits))
      where
        stays : (e : Event) → goes_on_waiting k e ≡ true → is_left k e ≡ false
        stays (event.Call u served status) waits = refl
        stays e waits = absurd (false≢true waits)

    whole : (before behind : List Stage) (opens : Stage) → run_stages config app events ≡ before ++ opens ∷ behind → IsActive opens.next k
        → if_entry k (activated j) opens + total (if_turn k (activated j)) (round_behind cuts k behind) ≤ 1
    whole before behind opens is active =
        let own = here before behind opens is in
        let none = no_acts config app j opens own.0 k in
        let shorter = within_round config app w cuts k (activated j) (end_of opens) opens.next behind links own.1 in
        let le = by out in
        omega (arith, none, shorter, le)
      where
        links : Linked (end_of opens) opens.next behind
        links =
            (linked_behind 0 (opening config app) before (opens ∷ behind)
            (subst (Linked 0 (opening config app)) is (stages_linked config app 0 (opening config app) events))).2

        anywhere : (xs : List Stage) → AllByRecursion (λ x. Unit {0}) xs
        anywhere [] = tt
        anywhere (x ∷ xs) = (tt, anywhere xs)

        by : StaysOut config app k j → total (if_turn k (activated j)) (round_of cuts k behind) + ready_count false j opens.next ≤ 1
        by (inl no_higher) =
            once config app w k j declared (λ s. Unit {0})
            (λ s v out active lt. let static = at_least_static config k (task s k) in let le = no_higher in omega (arith, static, le)) cuts (end_of opens) opens.next behind links
            (here before behind opens is).1 (anywhere behind) active
        by (inr steady) =
            let free = all_free config app w k declared steady 0 (opening config app) (run_stages config app events)
            (stages_linked config app 0 (opening config app) events) known (opening_placed config app)
            (ap (λ (own : Task). own.owed) (asleep_at config.tasks k)) in
            once config app w k j declared (IsFree config app w k declared steady) (λ s v out active lt. over_all config app k declared steady.non j s v out active lt) cuts
            (end_of opens) opens.next behind links (here before behind opens is).1
            (each_append (λ x. IsFree config app w k declared steady x.found) before (opens ∷ behind)
            (subst (AllByRecursion (λ x. IsFree config app w k declared steady x.found)) is free)).1.1 active
