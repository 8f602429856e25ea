-- A task's own counts in each stage of a run are those that its events are charged with, and those of the item that it has begun as it is preempted.
use Rattle.std.proofs.Common.{◌≡◌, ◌∙◌, ℕ, suc, ◌+◌, ◌-◌, ◌==◌, ◌&&◌, ◌<◌, ◌≤◌, ◌⊎◌, List, [], ◌∷◌, Bool, true, false, cond, length, is_some, refl, sym, ap, subst, arith, inl, inr, AllPairs}
use Rattle.std.specs.List.{AllByRecursion}
use Rattle.std.proofs.lemmas.Bool.{cases_Bool, cases_eq, eq-eqb, ne_eqb, false≢true}
use Rattle.std.proofs.lemmas.List.Elements.{recursion_from_All}
use Rattle.sloth_base.specs.declared.config.Config.{Config}
use Rattle.sloth_base.specs.declared.app.App.{App}
use Rattle.sloth_base.specs.declared.service.Arrival.{Arrival}
use Rattle.sloth_base.specs.declared.service.Event.{Event}
use Rattle.sloth_base.specs.declared.service.Event.TheVariants as event
use Rattle.sloth_base.specs.declared.service.Stamped.{Stamped}
use Rattle.sloth_base.specs.Events.{admitted_line}
use Rattle.osek_scheduler.specs.State.{System, task, opening}
use Rattle.osek_scheduler.specs.InTime.{IsStamped, StandsBefore, IsOrdered, InTime, is_admit}
use Rattle.osek_scheduler.specs.Steps.{OsekStep}
use Rattle.osek_scheduler.specs.Runs.{AreStepsTo}
use Rattle.osek_scheduler.specs.Valid.{IsValid}
use Rattle.osek_scheduler.specs.Apart.{IsActive}
use Rattle.osek_scheduler.proofs.Apart.{Above}
use Rattle.osek_scheduler.proofs.Facts.{Facts, facts}
use Rattle.osek_scheduler.proofs.Leading.{follows_leads}
use Rattle.osek_scheduler.proofs.Steps.{step_valid, opening_valid}
use Rattle.osek_blocking.proofs.Effects.{Ordered}
use Rattle.osek_blocking.proofs.Ordering.{effect, step_ordered, opening_ordered}
use Rattle.osek_blocking.specs.Pace.{takes_line}
use Rattle.run_counts.specs.Stages.{Stage, is_running, is_turn, unseen, spanned, charged, end_of, stage, stages}
use Rattle.run_counts.specs.OwnCounts.{IsOwn, RunsOwnWhatIsCharged}
use Rattle.run_counts.proofs.Running.{others_rest, active_declared, above_runs, none_beside}
use Rattle.run_counts.proofs.Staged.{behind_is}
use Rattle.run_counts.proofs.States.{not_suspended}
use Rattle.run_counts.proofs.StepCases.{Outside, boot_event, idle_event, arrival_event, tick_event, outside_of}

nothing : (b : Bool) (u : ℕ) → u ≡ 0 → cond b u 0 ≡ 0
nothing true u e = e
nothing false u e = refl

-- ---- an event

module _ (config : Config) (app : App) where
  -- Of the counts u in front of an event and its own p, c in all. There are none in front of an admission.
  abbrev Owns : (t u p c : ℕ) → Event → System → Type 0
  Owns t u p c what s =
      cond (is_running config s t) u 0 + cond (is_turn t what) p 0 ≡ cond (is_turn t what) c 0 + cond (takes_line what && is_running config s t) u 0

  -- a task at rest
  rest_owns : (t u : ℕ) (s : System) → (IsActive s t → ⊥) → cond (is_running config s t) u 0 ≡ 0
  rest_owns t u s n = ap (λ b. cond b u 0) (others_rest config s t n)

  -- an event of task v, which runs
  turn_owns : (t v u p c : ℕ) (s : System) → Ordered config s → Above config v s → IsActive s v → v < length config.tasks → c ≡ u + p
      → cond (is_running config s t) u 0 + cond (v == t) p 0 ≡ cond (v == t) c 0 + 0
  turn_owns t v u p c s o above active declared parts = by (cases_eq v t)
    where
      by : (v ≡ t) ⊎ (v ≡ t → ⊥) → cond (is_running config s t) u 0 + cond (v == t) p 0 ≡ cond (v == t) c 0 + 0
      by (inl e) =
          let yes = eq-eqb v t e in
          let runs : is_running config s t ≡ true = subst (λ x. is_running config s x ≡ true) e (above_runs config s v above active) in
          let a = ap (λ b. cond b u 0) runs in
          let d = ap (λ b. cond b p 0) yes in
          let f = ap (λ b. cond b c 0) yes in
          omega (arith, a, d, f, parts)
      by (inr n) =
          let no = ne_eqb v t n in
          let rests = none_beside config s v t o.count above active declared n in
          let a = ap (λ b. cond b u 0) rests in
          let d = ap (λ b. cond b p 0) no in
          let f = ap (λ b. cond b c 0) no in
          omega (arith, a, d, f)

  -- an event that is no task's, and takes no line
  outside_owns : (t u : ℕ) (what : Event) (s next : System) → IsValid config app s → Ordered config s → takes_line what ≡ false
      → (is_some (admitted_line what) ≡ true → u ≡ 0) → Outside config s next what → cond (is_running config s t) u 0 ≡ 0
  outside_owns t u what s next valid o away none (boot_event is off gives) = rest_owns t u s (λ active. not_suspended (task s t).state active (valid.asleep off t))
  outside_owns t u what s next valid o away none (idle_event idle ticks gives) = rest_owns t u s (λ active. idle t (active_declared config s t o.count active) (inr active))
  outside_owns t u what s next valid o away none (arrival_event line is) = nothing (is_running config s t) u (none (ap is_some is))
  outside_owns t u what s next valid o away none (tick_event c is) = absurd (false≢true (sym away ∙ ap takes_line is))

  owns : (what : Event) (t u p c : ℕ) (s next : System) → IsValid config app s → Ordered config s → OsekStep config app what s next → c ≡ u + p
      → (is_some (admitted_line what) ≡ true → u ≡ 0) → Owns t u p c what s
  owns (event.Run v func item result) t u p c s next valid o step parts none =
      let f = effect config app s next o (event.Run v func item result) step in turn_owns t v u p c s o f.moves.acts.above f.was f.moves.top.declared parts
  owns (event.Call v served status) t u p c s next valid o step parts none =
      let f = effect config app s next o (event.Call v served status) step in turn_owns t v u p c s o f.moves.acts.above f.was f.moves.top.declared parts
  owns (event.Left v served) t u p c s next valid o step parts none =
      let f = effect config app s next o (event.Left v served) step in turn_owns t v u p c s o f.moves.acts.above f.was f.moves.top.declared parts
  owns (event.Back v) t u p c s next valid o step parts none =
      let f = effect config app s next o (event.Back v) step in turn_owns t v u p c s o f.moves.acts.above f.was f.moves.top.declared parts
  owns (event.Enter v) t u p c s next valid o step parts none = omega arith
  owns (event.Tick d) t u p c s next valid o step parts none = omega arith
  owns what t u p c s next valid o step parts none =
      let own = outside_owns t u what s next valid o refl none (outside_of config app what s next step refl refl) in omega (arith, own)

-- ---- a stage

-- the counts in front of an event and its own are all of its stage
abbrev pub HasParts : Stage → Type 0
HasParts x = charged x ≡ unseen x + spanned x

-- the event, if it is no admission, begins at count `start` or later
abbrev Later : (start : ℕ) → Stamped → Type 0
Later start e = is_admit e ≡ false → start ≤ e.stamp.from

parts : (x : Stage) → Later x.start x.stamped → x.stamped.stamp.from ≤ x.stamped.stamp.at → HasParts x
parts x later ordered = by (cases_Bool (is_admit x.stamped))
  where
    is_all : (b : Bool) → is_admit x.stamped ≡ b → charged x ≡ cond b 0 (x.stamped.stamp.at + 1 - x.start)
    is_all b e = ap (λ b. cond b 0 (x.stamped.stamp.at + 1 - x.start)) e

    is_unseen : (b : Bool) → is_admit x.stamped ≡ b → unseen x ≡ cond b 0 (x.stamped.stamp.from - x.start)
    is_unseen b e = ap (λ b. cond b 0 (x.stamped.stamp.from - x.start)) e

    is_spanned : (b : Bool) → is_admit x.stamped ≡ b → spanned x ≡ cond b 0 (x.stamped.stamp.at + 1 - x.stamped.stamp.from)
    is_spanned b e = ap (λ b. cond b 0 (x.stamped.stamp.at + 1 - x.stamped.stamp.from)) e

    by : (is_admit x.stamped ≡ true) ⊎ (is_admit x.stamped ≡ false) → HasParts x
    by (inl e) =
        let a = is_all true e in
        let b = is_unseen true e in
        let c = is_spanned true e in
        omega (arith, a, b, c)
    by (inr e) =
        let a = is_all false e in
        let b = is_unseen false e in
        let c = is_spanned false e in
        let d = later e in
        omega (arith, a, b, c, d, ordered)

-- behind an event later ones begin later
later_behind : (e : Stamped) (start : ℕ) (rest : List Stamped) → AllByRecursion (Later start) rest → AllByRecursion (IsOrdered e) rest
    → AllByRecursion (Later (cond (is_admit e) start (e.stamp.at + 1))) rest
later_behind e start [] later pairs = tt
later_behind e start (x ∷ rest) later pairs = (λ other. by other (cases_Bool (is_admit e)), later_behind e start rest later.1 pairs.1)
  where
    by : is_admit x ≡ false → (is_admit e ≡ true) ⊎ (is_admit e ≡ false) → cond (is_admit e) start (e.stamp.at + 1) ≤ x.stamp.from
    by other (inl is) =
        let to = ap (λ b. cond b start (e.stamp.at + 1)) is in
        let le = later.0 other in
        omega (arith, to, le)
    by other (inr is) =
        let to = ap (λ b. cond b start (e.stamp.at + 1)) is in
        let less : e.stamp.at < x.stamp.from =
        subst (λ b. StandsBefore b false e.stamp x.stamp) is (subst (λ b. StandsBefore (is_admit e) b e.stamp x.stamp) other pairs.0) in
        omega (arith, to, less)

-- a stamp's counts are in order
abbrev pub IsInOrder : Stamped → Type 0
IsInOrder e = e.stamp.from ≤ e.stamp.at

pub in_order : (n : ℕ) (events : List Stamped) → AllByRecursion (IsStamped n) events → AllByRecursion IsInOrder events
in_order n [] h = tt
in_order n (e ∷ events) h = (h.0.ordered, in_order n events h.1)

-- ---- the stages of a run

module _ (config : Config) (app : App) (w : Facts config app) (t : ℕ) where
  owned : (rest : List Stamped) (start : ℕ) (s end : System) → AreStepsTo config app rest s end → IsValid config app s → Ordered config s
      → AllByRecursion IsInOrder rest → AllPairs IsOrdered rest → AllByRecursion (Later start) rest
      → AllByRecursion (λ x. IsOwn config t x × HasParts x) (stages config app start s rest)
  owned [] start s end leads valid o ordered pairs later = tt
  owned (e ∷ rest) start s end leads valid o ordered pairs later = (
    here,
    subst (λ v. AllByRecursion (λ x. IsOwn config t x × HasParts x) (stages config app (end_of (stage config app start s e)) v rest))
        (sym (behind_is config app e.event s leads.0 leads.1))
        (owned rest (end_of (stage config app start s e)) leads.0 end leads.2 (step_valid config app e.event s leads.0 w leads.1 valid)
        (step_ordered config app s leads.0 o e.event leads.1) ordered.1
        (λ i j d lt within. pairs (suc i) (suc j) d (omega (arith, lt)) (omega (arith, within)))
        (later_behind e start rest later.1 (recursion_from_All (IsOrdered e) rest (λ j d lt. pairs 0 (suc j) d (omega arith) (omega (arith, lt)))))),
  )
    where
      has : HasParts (stage config app start s e)
      has = parts (stage config app start s e) later.0 ordered.0

      here : IsOwn config t (stage config app start s e) × HasParts (stage config app start s e)
      here = (
        owns config app e.event t (unseen (stage config app start s e)) (spanned (stage config app start s e)) (charged (stage config app start s e)) s leads.0 valid o leads.1 has
            (λ is. ap (λ b. cond b 0 (e.stamp.from - start)) is),
        has,
      )

all_later : (events : List Stamped) → AllByRecursion (Later 0) events
all_later [] = tt
all_later (e ∷ events) = (λ other. omega arith, all_later events)

pub run_owned : (config : Config) (app : App) → Facts config app → (n t : ℕ) (arrivals : List Arrival) (events : List Stamped) (end : System)
    → AreStepsTo config app events (opening config app) end → InTime config n arrivals events
    → AllByRecursion (λ x. IsOwn config t x × HasParts x) (stages config app 0 (opening config app) events)
run_owned config app w n t arrivals events end leads timed =
    owned config app w t events 0 (opening config app) end leads (opening_valid config app) (opening_ordered config app)
    (in_order n events (recursion_from_All (IsStamped n) events timed.stamped)) timed.placed (all_later events)

pub first_of : (P Q : Stage → Type 0) (xs : List Stage) → AllByRecursion (λ x. P x × Q x) xs → AllByRecursion P xs
first_of P Q [] h = tt
first_of P Q (x ∷ xs) h = (h.0.0, first_of P Q xs h.1)

pub own_what_is_charged : RunsOwnWhatIsCharged
own_what_is_charged config app n t arrivals events wf run timed =
    first_of (IsOwn config t) HasParts (stages config app 0 (opening config app) events)
    (run_owned config app (facts config app wf) n t arrivals events run.0 (follows_leads config app [] (opening config app) events run.0 run.1) timed)
