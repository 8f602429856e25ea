-- Of the admissions in front of a service, those that made a task above its caller Ready came while the service was running.
use Rattle.std.proofs.Common.{◌≡◌, ℕ, ◌+◌, ◌-◌, ◌<◌, ◌≤◌, ◌⊎◌, not, List, [], ◌∷◌, ◌++◌, Bool, true, false, cond, length, refl, sym, ap, ◌∙◌, subst, arith, inl, inr, append_assoc, append-nil, is_some}
use Rattle.std.specs.Prelude.{AllPairs, IfSome}
use Rattle.std.specs.List.{AllByRecursion}
use Rattle.std.proofs.lemmas.Bool.{and_parts, and_right, not-true, cases_lt, false≢true}
use Rattle.std.proofs.lemmas.List.{get_or_past}
use Rattle.std.proofs.lemmas.List.Elements.{recursion_from_All}
use Rattle.sloth_base.specs.Events.{admitted_line}
use Rattle.sloth_base.specs.declared.config.Config.{Config}
use Rattle.sloth_base.specs.declared.app.App.{App}
use Rattle.sloth_base.specs.declared.service.Arrival.{Arrival}
use Rattle.sloth_base.specs.declared.service.Event.{Event}
use Rattle.sloth_base.specs.declared.service.Event.TheVariants as event
use Rattle.sloth_base.specs.declared.service.Stamped.{Stamped}
use Rattle.code_rules.specs.WellFormed.{WellFormed}
use Rattle.osek_scheduler.specs.declared.state.TaskState.{TaskState}
use Rattle.osek_scheduler.specs.declared.state.TaskState.TheVariants as mode
use Rattle.osek_scheduler.specs.State.{Task, System, sleeping_task, task, opening}
use Rattle.osek_scheduler.specs.Apart.{IsActive}
use Rattle.osek_scheduler.specs.InTime.{IsStamped, IsOrdered, StandsBefore, InTime, is_admit}
use Rattle.osek_scheduler.specs.Next.{is_ready}
use Rattle.osek_scheduler.specs.Runs.{AreStepsTo, AreStepsBehind, OsekRun, ReadySince, PassesOver, PassesOverArrivals}
use Rattle.osek_scheduler.specs.Services.{activated_state}
use Rattle.osek_scheduler.specs.Steps.{OsekStep, admitted_state}
use Rattle.osek_scheduler.proofs.Apart.{at_task, rank_active, rank_ready}
use Rattle.osek_scheduler.proofs.Facts.{facts}
use Rattle.osek_scheduler.proofs.Leading.{leads-parts, follows_leads, one_step, one_end}
use Rattle.osek_scheduler.proofs.Outcomes.{by_suspended}
use Rattle.osek_scheduler.proofs.Steps.{opening_valid}
use Rattle.osek_blocking.proofs.Effects.{IsReady}
use Rattle.osek_blocking.proofs.Ordering.{opening_ordered}
use Rattle.run_counts.specs.Rounds.{is_left}
use Rattle.run_counts.specs.Stages.{Stage, end_of, stage, stages, state_behind, run_stages}
use Rattle.run_counts.specs.OwnCounts.{IsOwn}
use Rattle.run_counts.proofs.Owned.{HasParts, run_owned}
use Rattle.response_laws.specs.Busy.{LeavesFirst}
use Rattle.osek_scheduler.specs.Priority.{NoTicks}
use Rattle.response_laws.specs.Turns.{makes_ready, comes_at, is_counter}
use Rattle.response_laws.proofs.Counters.{made_alone, calm_group, served_calm, left_calm}
use Rattle.response_laws.specs.Bounded.{EndsSoon}
use Rattle.response_laws.proofs.Ordering.{ahead}
use Rattle.response_laws.proofs.Linked.{Known, Linked, last_state, linked_front, linked_behind, each_append, each_joined, each_so, each_both, stages_linked, stages_known}
use Rattle.response_laws.proofs.Settled.{admit_active}
use Rattle.response_laws.proofs.Blocking.{IsLowService}

-- ---- two cuts of a list

-- what one cut is made at is that of the other cut, stands in front of it, or behind it
pub data Cut {X : Type 0} (a : List X) (x : X) (p b : List X) (y : X) (q : List X) : Type 0 where
  at_one : x ≡ y → Cut a x p b y q
  in_front : (mid : List X) → b ≡ a ++ x ∷ mid → p ≡ mid ++ y ∷ q → Cut a x p b y q
  behind_it : (mid : List X) → a ≡ b ++ y ∷ mid → q ≡ mid ++ x ∷ p → Cut a x p b y q

abbrev pub head_or : {X : Type 0} → X → List X → X
head_or d [] = d
head_or d (x ∷ xs) = x

abbrev pub tail_of : {X : Type 0} → List X → List X
tail_of [] = []
tail_of (x ∷ xs) = xs

pub cut : {X : Type 0} (a : List X) (x : X) (p b : List X) (y : X) (q : List X) → a ++ x ∷ p ≡ b ++ y ∷ q → Cut a x p b y q
cut [] x p [] y q e = at_one (ap (head_or x) e)
cut [] x p (z ∷ b) y q e = in_front b (ap (λ v. v ∷ b) (sym (ap (head_or x) e))) (ap tail_of e)
cut (w ∷ a) x p [] y q e = behind_it a (ap (λ v. v ∷ a) (ap (head_or w) e)) (sym (ap tail_of e))
cut (w ∷ a) x p (z ∷ b) y q e = by (cut a x p b y q (ap tail_of e))
  where
    by : Cut a x p b y q → Cut (w ∷ a) x p (z ∷ b) y q
    by (at_one same) = at_one same
    by (in_front mid is rest) = in_front mid (ap (λ v. v ∷ b) (sym (ap (head_or w) e)) ∙ ap (λ v. w ∷ v) is) rest
    by (behind_it mid is rest) = behind_it mid (ap (λ v. v ∷ a) (ap (head_or w) e) ∙ ap (λ v. z ∷ v) is) rest

-- ---- admissions

abbrev AreAdmits : List Stamped → Type 0
AreAdmits es = AllByRecursion (λ e. is_admit e ≡ true) es

abbrev pub AreAdmissions : List Stage → Type 0
AreAdmissions xs = AllByRecursion (λ x. is_admit x.stamped ≡ true) xs

never_both : (m : TaskState) → m ≡ mode.Ready → m ≡ mode.Suspended → ⊥
never_both m a b = apart (sym a ∙ b)
  where
    apart : mode.Ready ≡ mode.Suspended → ⊥
    apart e = cc

is_ready_state : (m : TaskState) → is_ready m ≡ true → m ≡ mode.Ready
is_ready_state mode.Suspended e = absurd (false≢true e)
is_ready_state mode.Ready e = refl
is_ready_state mode.Active e = absurd (false≢true e)
is_ready_state (mode.Waiting mask) e = absurd (false≢true e)

ready_declared : (config : Config) (s : System) (u : ℕ) → length s.tasks ≡ length config.tasks → IsReady s u → u < length config.tasks
ready_declared config s u count ready = by (cases_lt u (length config.tasks))
  where
    by : (u < length config.tasks) ⊎ (length config.tasks ≤ u) → u < length config.tasks
    by (inl lt) = lt
    by (inr past) =
        let none = ap (λ (k : Task). k.state) (get_or_past s.tasks u sleeping_task (subst (λ n. n ≤ u) (sym count) past)) in
        absurd (never_both (task s u).state ready none)

module _ (config : Config) (app : App) where
  -- a task that is Ready stays so with them, and one that is Active
  admit_ready : (e : Event) (s next : System) → OsekStep config app e s next → is_some (admitted_line e) ≡ true → (u : ℕ) → IsReady s u → IsReady next u
  admit_ready (event.Admit t) s next step admits u ready =
      subst (λ (x : System). IsReady x u) (sym step.2)
      (by_suspended (task s t).state (record (activated_state s t) { fresh = t ∷ s.fresh }) s (λ (x : System). IsReady x u)
      (λ _. at_task s t u (record (task s t) { state = mode.Ready }) (λ (k : Task). k.state ≡ mode.Ready) ready (λ _. refl)) (λ _. ready))
  admit_ready (event.Due c) s next step admits u ready = subst (λ (x : System). IsReady x u) (sym step.2) ready
  admit_ready e s next step admits u ready = absurd (false≢true admits)

  active_on : (h : ℕ) (e : Event) (s next : System) → OsekStep config app e s next → is_some (admitted_line e) ≡ true → IsActive s h → IsActive next h
  active_on h (event.Admit t) s next step admits active = subst (λ (x : System). IsActive x h) (sym step.2) (admit_active config app h s t h active)
  active_on h (event.Due c) s next step admits active = subst (λ (x : System). IsActive x h) (sym step.2) active
  active_on h e s next step admits active = absurd (false≢true admits)

  all_ready : (es : List Stamped) → AreAdmits es → (s end : System) → AreStepsTo config app es s end → (u : ℕ) → IsReady s u → IsReady end u
  all_ready [] admits s end leads u ready = subst (λ (x : System). IsReady x u) (sym leads) ready
  all_ready (e ∷ es) admits s end leads u ready = all_ready es admits.1 leads.0 end leads.2 u (admit_ready e.event s leads.0 leads.1 admits.0 u ready)

  -- where admissions stand behind what made a task Ready, that is the admission since which it has been Ready
  made_since : (past : List Stamped) (u k : ℕ) → ReadySince config app past u k → (before group : List Stamped) (made : Stamped) (found next : System)
      → past ≡ before ++ made ∷ group → AreStepsTo config app before (opening config app) found → OsekStep config app made.event found next
      → (IsReady found u → ⊥) → IsReady next u → AreAdmits group → k < made.stamp.at
  made_since past u k since before group made found next is leads step not_before ready admits =
      by (cut since.before since.admit since.behind before made group (sym since.is ∙ is))
    where
      by : Cut since.before since.admit since.behind before made group → k < made.stamp.at
      by (at_one same) = subst (λ (e : Stamped). k < e.stamp.at) same since.later
      by (in_front mid front rest) =
          let halves = leads-parts config app since.before (since.admit ∷ mid) (opening config app) found
          (subst (λ es. AreStepsTo config app es (opening config app) found) front leads) in
          let same = one_end config app since.before (opening config app) halves.0 since.found halves.1 since.leads in
          let own : OsekStep config app (event.Admit u) halves.0 halves.2.0 = subst (λ e. OsekStep config app e halves.0 halves.2.0) since.admits halves.2.1 in
          let to : halves.2.0 ≡ admitted_state u since.found = own.2 ∙ ap (admitted_state u) same in
          absurd (not_before (since.since mid (made ∷ group) found rest (subst (λ x. AreStepsTo config app mid x found) to halves.2.2)))
      by (behind_it mid front rest) =
          let halves = leads-parts config app before (made ∷ mid) (opening config app) since.found
          (subst (λ es. AreStepsTo config app es (opening config app) since.found) front since.leads) in
          let same = one_end config app before (opening config app) halves.0 found halves.1 leads in
          let to : halves.2.0 ≡ next = one_step config app made.event found halves.2.0 next (subst (λ x. OsekStep config app made.event x halves.2.0) same halves.2.1) step in
          let group_admits = (each_append (λ e. is_admit e ≡ true) mid (since.admit ∷ since.behind) (subst AreAdmits rest admits)).0 in
          let still = all_ready mid group_admits next since.found (subst (λ x. AreStepsTo config app mid x since.found) to halves.2.2) u ready in
          absurd (never_both (task since.found u).state still since.suspended)

  -- what a service of a run passes over
  passes_over : (past : List Stamped) (s : System) (before : List Stamped) (e : Stamped) (behind : List Stamped) (end found : System)
      → AreStepsBehind config app past s (before ++ e ∷ behind) end → AreStepsTo config app before s found
      → PassesOverArrivals config app (past ++ before) found e.stamp.from e.event
  passes_over past s [] e behind end found runs leads =
      subst (λ p. PassesOverArrivals config app p found e.stamp.from e.event) (sym (append-nil past))
      (subst (λ x. PassesOverArrivals config app past x e.stamp.from e.event) (sym leads) runs.2)
  passes_over past s (x ∷ before) e behind end found runs leads =
      let same = one_step config app x.event s runs.0 leads.0 runs.1 leads.1 in
      subst (λ p. PassesOverArrivals config app p found e.stamp.from e.event) (append_assoc past (x ∷ []) before)
      (passes_over (past ++ x ∷ []) leads.0 before e behind end found
      (subst (λ v. AreStepsBehind config app (past ++ x ∷ []) v (before ++ e ∷ behind) end) same runs.3) leads.2)

-- ---- the events of stages

abbrev names : List Stage → List Stamped
names [] = []
names (x ∷ xs) = x.stamped ∷ names xs

names-append : (xs ys : List Stage) → names (xs ++ ys) ≡ names xs ++ names ys
names-append [] ys = refl
names-append (x ∷ xs) ys = ap (λ es. x.stamped ∷ es) (names-append xs ys)

names_admit : (xs : List Stage) → AreAdmissions xs → AreAdmits (names xs)
names_admit [] admits = tt
names_admit (x ∷ xs) admits = (admits.0, names_admit xs admits.1)

of_names : (P : Stamped → Type 0) (xs : List Stage) → AllByRecursion P (names xs) → AllByRecursion (λ x. P x.stamped) xs
of_names P [] each = tt
of_names P (x ∷ xs) each = (each.0, of_names P xs each.1)

module _ (config : Config) (app : App) where
  names_are : (at : ℕ) (s : System) (es : List Stamped) → names (stages config app at s es) ≡ es
  names_are at s [] = refl
  names_are at s (e ∷ es) = ap (λ rest. e ∷ rest) (names_are (end_of (stage config app at s e)) (state_behind config app e.event s) es)

  leads_on : (at : ℕ) (s : System) (xs : List Stage) → Linked at s xs → AllByRecursion (Known config app) xs → AreStepsTo config app (names xs) s (last_state s xs)
  leads_on at s [] l k = refl
  leads_on at s (x ∷ xs) l k =
      (x.next, subst (λ v. OsekStep config app x.stamped.event v x.next) l.1 k.0.step, leads_on (end_of x) x.next xs l.2 k.1)

  -- admissions end where they begin
  group_end : (at : ℕ) (s : System) (xs ys : List Stage) (y : Stage) → Linked at s (xs ++ y ∷ ys) → AreAdmissions xs → y.start ≡ at
  group_end at s [] ys y l admits = l.0
  group_end at s (x ∷ xs) ys y l admits =
      group_end (end_of x) x.next xs ys y l.2 admits.1 ∙ ap (λ b. cond b x.start (x.stamped.stamp.at + 1)) admits.0 ∙ l.0

  -- with them no task becomes Ready that is Active
  none_made : (h at : ℕ) (s : System) (xs : List Stage) → Linked at s xs → AllByRecursion (Known config app) xs → AreAdmissions xs → IsActive s h
      → AllByRecursion (λ x. makes_ready h x ≡ true → ⊥) xs
  none_made h at s [] l k admits active = tt
  none_made h at s (x ∷ xs) l k admits active =
      let on = active_on config app h x.stamped.event x.found x.next k.0.step admits.0 (subst (λ (v : System). IsActive v h) (sym l.1) active) in (
        λ makes. false≢true (sym (and_right (not (is_ready (task x.found h).state)) (is_ready (task x.next h).state) (ap is_ready on)) ∙ makes),
        none_made h (end_of x) x.next xs l.2 k.1 admits.1 on,
      )

-- ---- what comes behind an event

pairs_behind : (before es : List Stamped) → AllPairs IsOrdered (before ++ es) → AllPairs IsOrdered es
pairs_behind [] es pairs = pairs
pairs_behind (e ∷ before) es pairs = pairs_behind before es (ahead e (before ++ es) pairs).1

from_on : (n : ℕ) (e : Stamped) (es : List Stamped) → is_admit e ≡ false → e.stamp.from ≤ e.stamp.at → AllByRecursion (IsOrdered e) es → AllByRecursion (IsStamped n) es
    → AllByRecursion (λ x. e.stamp.from ≤ x.stamp.at) es
from_on n e [] other le ordered stamped = tt
from_on n e (x ∷ es) other le ordered stamped =
    (by (is_admit x) (subst (λ b. StandsBefore b (is_admit x) e.stamp x.stamp) other ordered.0), from_on n e es other le ordered.1 stamped.1)
  where
    by : (b : Bool) → StandsBefore false b e.stamp x.stamp → e.stamp.from ≤ x.stamp.at
    by true behind = omega (arith, behind)
    by false behind = let own = stamped.0.ordered in omega (arith, behind, le, own)

-- ---- in a run

module _ (config : Config) (app : App) (n h : ℕ) (arrivals : List Arrival) (events : List Stamped) (wf : WellFormed config app) (osek : OsekRun config app events)
    (in_time : InTime config n arrivals events) where
  abbrev run : List Stage
  run = run_stages config app events

  leads : AreStepsTo config app events (opening config app) osek.0
  leads = follows_leads config app [] (opening config app) events osek.0 osek.1

  module _ (before behind : List Stage) (y : Stage) (is : run ≡ before ++ y ∷ behind) where
    links : Linked 0 (opening config app) (before ++ y ∷ behind)
    links = subst (Linked 0 (opening config app)) is (stages_linked config app 0 (opening config app) events)

    known : AllByRecursion (Known config app) (before ++ y ∷ behind)
    known =
        subst (AllByRecursion (Known config app)) is
        (stages_known config app (facts config app wf) 0 (opening config app) osek.0 events (opening_ordered config app) (opening_valid config app) leads)

    events_are : events ≡ names before ++ y.stamped ∷ names behind
    events_are = sym (names_are config app 0 (opening config app) events) ∙ ap names is ∙ names-append before (y ∷ behind)

    found_is : y.found ≡ last_state (opening config app) before
    found_is = (linked_behind 0 (opening config app) before (y ∷ behind) links).1

    passed : PassesOverArrivals config app (names before) y.found y.stamped.stamp.from y.stamped.event
    passed =
        passes_over config app [] (opening config app) (names before) y.stamped (names behind) osek.0 y.found
        (subst (λ es. AreStepsBehind config app [] (opening config app) es osek.0) events_are osek.1)
        (subst (λ v. AreStepsTo config app (names before) (opening config app) v) (sym found_is)
        (leads_on config app 0 (opening config app) before (linked_front 0 (opening config app) before (y ∷ behind) links)
        (each_append (Known config app) before (y ∷ behind) known).0))

    all_stamped : AllByRecursion (IsStamped n) (y.stamped ∷ names behind)
    all_stamped =
        (each_append (IsStamped n) (names before) (y.stamped ∷ names behind)
        (subst (AllByRecursion (IsStamped n)) events_are (recursion_from_All (IsStamped n) events in_time.stamped))).1

    -- the stage begins no later than its event, and that no later than those behind it end
    begins : is_admit y.stamped ≡ false → y.start ≤ y.stamped.stamp.from
    begins other =
        let parts = (each_append (λ x. IsOwn config h x × HasParts x) before (y ∷ behind)
        (subst (AllByRecursion (λ x. IsOwn config h x × HasParts x)) is
        (run_owned config app (facts config app wf) n h arrivals events osek.0 leads in_time))).1.0.1 in
        let a = ap (λ b. cond b 0 (y.stamped.stamp.at + 1 - y.start)) other in
        let b = ap (λ b. cond b 0 (y.stamped.stamp.from - y.start)) other in
        let c = ap (λ b. cond b 0 (y.stamped.stamp.at + 1 - y.stamped.stamp.from)) other in
        let le = all_stamped.0.ordered in
        omega (arith, parts, a, b, c, le)

    moments_behind : is_admit y.stamped ≡ false → AllByRecursion (λ x. y.stamped.stamp.from ≤ x.stamped.stamp.at) (y ∷ behind)
    moments_behind other =
        let le = all_stamped.0.ordered in
        let pairs = pairs_behind (names before) (y.stamped ∷ names behind) (subst (AllPairs IsOrdered) events_are in_time.placed) in (
          le,
          of_names (λ e. y.stamped.stamp.from ≤ e.stamp.at) behind
              (from_on n y.stamped (names behind) other le (ahead y.stamped (names behind) pairs).0 all_stamped.1),
        )

  -- ---- admissions in front of a service

  -- those that make h Ready come behind the count at which the service begins
  group_later : (zs group : List Stage) (y : Stage) (ys : List Stage) → run ≡ zs ++ (group ++ y ∷ ys) → AreAdmissions group → IsLowService config h y
      → AllByRecursion (λ x. makes_ready h x ≡ true → y.stamped.stamp.from < x.stamped.stamp.at) group
  group_later zs [] y ys is admits low = tt
  group_later zs (x ∷ group) y ys is admits low =
      (here, group_later (zs ++ x ∷ []) group y ys (is ∙ sym (append_assoc zs (x ∷ []) (group ++ y ∷ ys))) admits.1 low)
    where
      at_x : Linked 0 (opening config app) (zs ++ x ∷ (group ++ y ∷ ys)) × AllByRecursion (Known config app) (zs ++ x ∷ (group ++ y ∷ ys))
      at_x = (links zs (group ++ y ∷ ys) x is, known zs (group ++ y ∷ ys) x is)

      own : Known config app x
      own = (each_append (Known config app) zs (x ∷ (group ++ y ∷ ys)) at_x.1).1.0

      group_known : AllByRecursion (Known config app) group
      group_known = (each_append (Known config app) group (y ∷ ys) (each_append (Known config app) zs (x ∷ (group ++ y ∷ ys)) at_x.1).1.1).0

      further : Linked (end_of x) x.next (group ++ y ∷ ys)
      further = (linked_behind 0 (opening config app) zs (x ∷ (group ++ y ∷ ys)) at_x.0).2

      y_found : y.found ≡ last_state x.next group
      y_found = (linked_behind (end_of x) x.next group (y ∷ ys) further).1

      whole : run ≡ (zs ++ x ∷ group) ++ y ∷ ys
      whole = is ∙ sym (append_assoc zs (x ∷ group) (y ∷ ys))

      over : PassesOver config app (names (zs ++ x ∷ group)) y.found low.caller y.stamped.stamp.from
      over =
          subst (λ o. IfSome o (λ t. PassesOver config app (names (zs ++ x ∷ group)) y.found t y.stamped.stamp.from)) low.serves
          (passed (zs ++ x ∷ group) ys y whole)

      to_x : AreStepsTo config app (names zs) (opening config app) x.found
      to_x =
          subst (λ v. AreStepsTo config app (names zs) (opening config app) v) (sym (found_is zs (group ++ y ∷ ys) x is))
          (leads_on config app 0 (opening config app) zs (linked_front 0 (opening config app) zs (x ∷ (group ++ y ∷ ys)) at_x.0)
          (each_append (Known config app) zs (x ∷ (group ++ y ∷ ys)) at_x.1).0)

      to_y : AreStepsTo config app (names group) x.next y.found
      to_y =
          subst (λ v. AreStepsTo config app (names group) x.next v) (sym y_found)
          (leads_on config app (end_of x) x.next group (linked_front (end_of x) x.next group (y ∷ ys) further) group_known)

      here : makes_ready h x ≡ true → y.stamped.stamp.from < x.stamped.stamp.at
      here makes =
          let both = and_parts (not (is_ready (task x.found h).state)) (is_ready (task x.next h).state) makes in
          let ready = is_ready_state (task x.next h).state both.1 in
          let group_admits = names_admit group admits.1 in
          let still = all_ready config app (names group) group_admits x.next y.found to_y h ready in
          let y_known = (each_append (Known config app) (zs ++ x ∷ group) (y ∷ ys) (known (zs ++ x ∷ group) ys y whole)).1.0 in
          let high = rank_ready config y.found h still in
          let caller = rank_active config y.found low.caller low.active in
          let less = low.low in
          let since = over h (ready_declared config y.found h y_known.valid.count still) still (omega (arith, high, caller, less)) in
          made_since config app (names (zs ++ x ∷ group)) h y.stamped.stamp.from since (names zs) (names group) x.stamped x.found x.next (names-append zs (x ∷ group)) to_x own.step
          (λ was. false≢true (sym (not-true (is_ready (task x.found h).state) both.0) ∙ ap is_ready was)) ready group_admits

  -- ---- where the period's first event ends

  module _ (before : List Stage) (first : Stage) (group : List Stage) (y : Stage) (rest behind : List Stage)
      (part : run ≡ before ++ ((first ∷ (group ++ y ∷ rest)) ++ behind)) (admits : AreAdmissions (first ∷ group)) (other : is_admit y.stamped ≡ false) (lead : ℕ) where
    whole_is : run ≡ before ++ ((first ∷ group) ++ y ∷ (rest ++ behind))
    whole_is = part ∙ ap (λ zs. before ++ first ∷ zs) (append_assoc group (y ∷ rest) behind)

    at_y : run ≡ (before ++ first ∷ group) ++ y ∷ (rest ++ behind)
    at_y = whole_is ∙ sym (append_assoc before (first ∷ group) (y ∷ (rest ++ behind)))

    start_is : y.start ≡ end_of first
    start_is =
        group_end config app (end_of first) first.next group (rest ++ behind) y
        (linked_behind 0 (opening config app) before (first ∷ (group ++ y ∷ (rest ++ behind)))
        (subst (Linked 0 (opening config app)) whole_is (stages_linked config app 0 (opening config app) events))).2 admits.1

    y_known : Known config app y
    y_known = (each_append (Known config app) (before ++ first ∷ group) (y ∷ (rest ++ behind)) (known (before ++ first ∷ group) (rest ++ behind) y at_y)).1.0

    -- where no counter is due in front of it, none arrived with these
    no_arrivals : NoTicks config y.found → AllByRecursion (λ x. is_counter x.stamped.event ≡ false) (first ∷ group)
    no_arrivals calm = calm_group config app first.start first.found (first ∷ group) (refl, refl, group_links) group_known admits (subst (NoTicks config) y_found calm)
      where
        on : Linked first.start first.found (first ∷ (group ++ y ∷ (rest ++ behind)))
        on = (refl, refl, (linked_behind 0 (opening config app) before (first ∷ (group ++ y ∷ (rest ++ behind))) (subst (Linked 0 (opening config app)) whole_is (stages_linked config app 0 (opening config app) events))).2)

        group_links : Linked (end_of first) first.next group
        group_links = linked_front (end_of first) first.next group (y ∷ (rest ++ behind)) on.2

        y_found : y.found ≡ last_state first.found (first ∷ group)
        y_found = (linked_behind (end_of first) first.next group (y ∷ (rest ++ behind)) on.2).1

        group_known : AllByRecursion (Known config app) (first ∷ group)
        group_known =
            (each_append (Known config app) (first ∷ group) (y ∷ (rest ++ behind))
            (each_append (Known config app) before ((first ∷ group) ++ y ∷ (rest ++ behind))
            (subst (AllByRecursion (Known config app)) whole_is
            (stages_known config app (facts config app wf) 0 (opening config app) osek.0 events (opening_ordered config app) (opening_valid config app) leads))).1).0

    soon_from : end_of first ≤ y.stamped.stamp.from
    soon_from = let le = begins (before ++ first ∷ group) (rest ++ behind) y at_y other in let same = start_is in omega (arith, le, same)

    soon_behind : EndsSoon h lead first (y ∷ rest)
    soon_behind =
        each_so (λ x. y.stamped.stamp.from ≤ x.stamped.stamp.at) (λ x. comes_at h x ≡ true → end_of first ≤ x.stamped.stamp.at + lead)
        (λ x le makes. let from = soon_from in omega (arith, le, from)) (y ∷ rest)
        (each_append (λ x. y.stamped.stamp.from ≤ x.stamped.stamp.at) (y ∷ rest) behind (moments_behind (before ++ first ∷ group) (rest ++ behind) y at_y other)).0

    -- before a moment that makes h Ready, where a service behind admissions is of a task below h
    pub soon_served : IsLowService config h y → EndsSoon h lead first ((first ∷ group) ++ y ∷ rest)
    soon_served low =
        each_joined (λ x. comes_at h x ≡ true → end_of first ≤ x.stamped.stamp.at + lead) (first ∷ group) (y ∷ rest)
        (each_so (λ x. (makes_ready h x ≡ true → y.stamped.stamp.from < x.stamped.stamp.at) × (is_counter x.stamped.event ≡ false))
        (λ x. comes_at h x ≡ true → end_of first ≤ x.stamped.stamp.at + lead)
        (λ x both comes. let less = both.0 (made_alone (makes_ready h x) (is_counter x.stamped.event) both.1 comes) in let from = soon_from in omega (arith, less, from)) (first ∷ group)
        (each_both (λ x. makes_ready h x ≡ true → y.stamped.stamp.from < x.stamped.stamp.at) (λ x. is_counter x.stamped.event ≡ false) (first ∷ group)
        (group_later before (first ∷ group) y (rest ++ behind) whole_is admits low)
        (no_arrivals (served_calm config app y low.caller y_known.step low.serves)))) soon_behind

    -- or where h itself is Active as the period begins
    pub soon_active : is_left h y.stamped.event ≡ true → IsActive first.found h → EndsSoon h lead first ((first ∷ group) ++ y ∷ rest)
    soon_active left active =
        each_joined (λ x. comes_at h x ≡ true → end_of first ≤ x.stamped.stamp.at + lead) (first ∷ group) (y ∷ rest)
        (each_so (λ x. (makes_ready h x ≡ true → ⊥) × (is_counter x.stamped.event ≡ false)) (λ x. comes_at h x ≡ true → end_of first ≤ x.stamped.stamp.at + lead)
        (λ x both comes. absurd (both.0 (made_alone (makes_ready h x) (is_counter x.stamped.event) both.1 comes))) (first ∷ group)
        (each_both (λ x. makes_ready h x ≡ true → ⊥) (λ x. is_counter x.stamped.event ≡ false) (first ∷ group)
        (none_made config app h first.start first.found (first ∷ group) (refl, refl, links_on) known_on admits active) (no_arrivals (left_calm config app y h y_known.step left)))) soon_behind
      where
        links_on : Linked (end_of first) first.next group
        links_on =
            linked_front (end_of first) first.next group (y ∷ (rest ++ behind))
            (linked_behind 0 (opening config app) before (first ∷ (group ++ y ∷ (rest ++ behind)))
            (subst (Linked 0 (opening config app)) whole_is (stages_linked config app 0 (opening config app) events))).2

        known_on : AllByRecursion (Known config app) (first ∷ group)
        known_on =
            (each_append (Known config app) (first ∷ group) (y ∷ (rest ++ behind))
            (each_append (Known config app) before ((first ∷ group) ++ y ∷ (rest ++ behind))
            (subst (AllByRecursion (Known config app)) whole_is
            (stages_known config app (facts config app wf) 0 (opening config app) osek.0 events (opening_ordered config app) (opening_valid config app) leads))).1).0

-- ---- a leaving

-- a leaving is no admission
pub left_no_admit : (h : ℕ) (e : Event) → is_left h e ≡ true → is_some (admitted_line e) ≡ false
left_no_admit h (event.Left u served) is = refl
left_no_admit h event.Boot is = refl
left_no_admit h e is = absurd (false≢true is)

-- stages that begin with one: admissions, and the leaving behind them
pub record Leads (h : ℕ) (xs : List Stage) : Type 0 where
  pub group : List Stage
  pub left : Stage
  pub rest : List Stage
  pub are : xs ≡ group ++ left ∷ rest
  pub admits : AreAdmissions group
  pub leaves : is_left h left.stamped.event ≡ true

pub leaving_parts : (h : ℕ) (xs : List Stage) → LeavesFirst h xs → Leads h xs
leaving_parts h [] leaves = absurd leaves
leaving_parts h (x ∷ xs) (inl is) = record { group = []; left = x; rest = xs; are = refl; admits = tt; leaves = is }
leaving_parts h (x ∷ xs) (inr (admits, leaves)) =
    let further = leaving_parts h xs leaves in
    record {
      group = x ∷ further.group;
      left = further.left;
      rest = further.rest;
      are = ap (λ ys. x ∷ ys) further.are;
      admits = (admits, further.admits);
      leaves = further.leaves;
    }
