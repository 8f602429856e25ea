-- The order of the tasks that were entered is kept.
use Rattle.std.proofs.Common.{◌≡◌, ℕ, suc, ◌+◌, ◌*◌, ◌<◌, ◌≤◌, ◌==◌, ◌⊎◌, List, [], ◌∷◌, Bool, true, false, cond, length, get_or, max, refl, sym, ap, ◌∙◌, subst, arith, inl, inr, is_some}
use Rattle.std.specs.Prelude.{◌≢◌}
use Rattle.std.proofs.lemmas.Bool.{false≢true, cases_eq, or_cases, eqb-true}
use Rattle.std.proofs.lemmas.List.{get_or-set_same, get_or-set_other}
use Rattle.sloth_base.specs.declared.config.Config.{Config}
use Rattle.sloth_base.specs.declared.app.App.{App}
use Rattle.sloth_base.specs.declared.service.Event.{Event}
use Rattle.sloth_base.specs.declared.service.Event.TheVariants as event
use Rattle.sloth_base.specs.declared.service.Service.{Service}
use Rattle.osek_scheduler.specs.declared.state.TaskState.{TaskState}
use Rattle.osek_scheduler.specs.declared.state.TaskState.TheVariants as mode
use Rattle.osek_scheduler.specs.State.{Task, System, sleeping_task, task, with_task, opening}
use Rattle.sloth_base.specs.Named.{declaration}
use Rattle.sloth_base.specs.Events.{named_task}
use Rattle.code_rules.specs.Code.{is_in}
use Rattle.osek_scheduler.specs.Priority.{is_active, rank, IsTop}
use Rattle.osek_scheduler.specs.Services.{activated_state, with_events, ServiceOutcome, GoesOn, Leaves, started_task, ticked_state}
use Rattle.osek_scheduler.proofs.ServiceStates.{IsAfter}
use Rattle.osek_scheduler.specs.Outcomes.{decision, outcome}
use Rattle.osek_scheduler.proofs.Outcomes.{by_suspended, KeptByOthers, outcome_keeps_all}
use Rattle.osek_scheduler.proofs.Ticking.{parts_kept, ticked_keeps}
use Rattle.osek_scheduler.specs.Steps.{autostarted_tasks, admitted_state, OsekStep, IsItemStep, IsServiceStep}
use Rattle.osek_scheduler.specs.Apart.{priority_of, static_priority, AreTwo, TasksAreApart}
use Rattle.osek_scheduler.proofs.Going.{at_set}
use Rattle.osek_scheduler.proofs.Steps.{autostarted_at, asleep_at}

-- ---- priorities

max_left : (a b : ℕ) → a ≤ max a b
max_left a b = omega arith

pub at_least_static : (config : Config) (t : ℕ) (k : Task) → static_priority config t ≤ priority_of config t k
at_least_static config t k = max_left (static_priority config t) _

-- a fact on each task, where one record is written
pub at_task : (s : System) (t u : ℕ) (new : Task) (P : Task → Type 0) → P (task s u) → (u ≡ t → P new) → P (task (with_task s t new) u)
at_task s t u new P same here = at_set s.tasks t u new sleeping_task P same here

module _ (config : Config) where
  -- a task that is Active now was so before, at the same priority
  abbrev pub Same : ℕ → Task → Task → Type 0
  Same t old new = new.state ≡ mode.Active → (old.state ≡ mode.Active) × (priority_of config t new ≡ priority_of config t old)

  abbrev pub Calm : ℕ → System → System → Type 0
  Calm c s next = (u : ℕ) → u ≢ c → Same u (task s u) (task next u)

  pub itself : (u : ℕ) (k : Task) → Same u k k
  itself u k e = (e, refl)

  then : (c : ℕ) (s middle next : System) → Calm c s middle → Calm c middle next → Calm c s next
  then c s middle next f g u n e =
      let b = g u n e in
      let a = f u n b.0 in
      (a.0, b.1 ∙ a.1)

  own : (c : ℕ) (s : System) (new : Task) → Calm c s (with_task s c new)
  own c s new u n = at_task s c u new (Same u (task s u)) (itself u (task s u)) (λ e. absurd (n e))

  readied : (c : ℕ) (s : System) (t : ℕ) → Calm c s (activated_state s t)
  readied c s t u n = at_task s t u (record (task s t) { state = mode.Ready }) (Same u (task s u)) (itself u (task s u)) (λ e h. absurd cc)

  eventful : (c : ℕ) (s : System) (t events : ℕ) → Calm c s (with_events s t events)
  eventful c s t events u n =
      at_task s t u (record (task s t) { events = events }) (Same u (task s u)) (itself u (task s u))
      (λ e. let Q : ℕ → Type 0 = λ x. Same u (task s u) (record (task s x) { events = events }) in subst Q e (λ h. (h, refl)))

  calm_besides : (c : ℕ) (s : System) → KeptByOthers (Calm c s)
  calm_besides c s = record {
    activates = λ x t h. then c s x (activated_state x t) h (readied c x t);
    sets = λ x t events h. then c s x (with_events x t events) h (eventful c x t events);
    stores = λ x symbols h. h;
    sets_alarms = λ x a new h. h;
  }

  pub outcome_calm : (sv : Service) (o m c : ℕ) (s : System) → IsAfter (Calm c s) (outcome config sv o m c s)
  outcome_calm sv o m c s = outcome_keeps_all (Calm c s) (calm_besides c s) c s (own c s) (decision config sv o m c s)

  -- ---- the order

  pub rank_active : (s : System) (t : ℕ) → (task s t).state ≡ mode.Active → rank config s t ≡ 2 * priority_of config t (task s t) + 1
  rank_active s t e = ap (λ m. cond (is_active m) (2 * priority_of config t (task s t) + 1) (2 * static_priority config t)) e

  pub rank_ready : (s : System) (t : ℕ) → (task s t).state ≡ mode.Ready → rank config s t ≡ 2 * static_priority config t
  rank_ready s t e = ap (λ m. cond (is_active m) (2 * priority_of config t (task s t) + 1) (2 * static_priority config t)) e

  -- every other Active task is below c
  abbrev pub Above : ℕ → System → Type 0
  Above c s = (u : ℕ) → u < length config.tasks → u ≢ c → (task s u).state ≡ mode.Active → priority_of config u (task s u) < static_priority config c

  ranked : (s : System) (others : List ℕ) (c u : ℕ) → IsTop config s others c → ((t : ℕ) → is_in t others ≡ true → (task s t).state ≡ mode.Ready)
      → u < length config.tasks → (task s u).state ≡ mode.Active → rank config s u ≤ rank config s c
  ranked s others c u top ready lt active = top.is_greatest u lt (inr active) (by (is_in u others) refl)
    where
      no_both : (m : TaskState) → m ≡ mode.Active → m ≡ mode.Ready → ⊥
      no_both mode.Suspended a b = absurd cc
      no_both mode.Ready a b = absurd cc
      no_both mode.Active a b = absurd cc
      no_both (mode.Waiting x) a b = absurd cc

      by : (b : Bool) → is_in u others ≡ b → is_in u others ≡ false
      by false e = e
      by true e = absurd (no_both (task s u).state active (ready u e))

  pub top_above : (s : System) (others : List ℕ) (c : ℕ) → IsTop config s others c → ((t : ℕ) → is_in t others ≡ true → (task s t).state ≡ mode.Ready)
      → TasksAreApart config s → (task s c).state ≡ mode.Active → Above c s
  top_above s others c top ready a active u lt n other = by (a.apart u c (record { first = lt; second = top.declared; differ = n }) other active)
    where
      le : priority_of config u (task s u) ≤ priority_of config c (task s c)
      le = omega (arith, ranked s others c u top ready lt other, rank_active s u other, rank_active s c active)

      by : (priority_of config u (task s u) < static_priority config c) ⊎ (priority_of config c (task s c) < static_priority config u) → priority_of config u (task s u) < static_priority config c
      by (inl e) = e
      by (inr e) = absurd (omega (arith, e, le, at_least_static config u (task s u)))

  pub entered_above : (s : System) (c : ℕ) → IsTop config s [] c → (task s c).state ≡ mode.Ready → Above c s
  entered_above s c top ready u lt n other =
      omega (arith, ranked s [] c u top (λ t h. absurd (false≢true h)) lt other, rank_active s u other, rank_ready s c ready)

  -- c alone changed, all others that are Active are below it, and nothing is fresh any more
  pub record Acts (c : ℕ) (s next : System) : Type 0 where
    pub above : Above c s
    pub calm : Calm c s next
    pub settles : next.fresh ≡ []

  apart_of : (s next : System) (c : ℕ) → TasksAreApart config s → Acts c s next → TasksAreApart config next
  apart_of s next c a acts = record {
    fresh_ready = λ t h. absurd (false≢true (sym (ap (is_in t) acts.settles) ∙ h));
    apart = λ t u two at au. by t u two at au (cases_eq t c) (cases_eq u c);
  }
    where
      below : (t : ℕ) → t < length config.tasks → t ≢ c → (task next t).state ≡ mode.Active → priority_of config t (task next t) < static_priority config c
      below t lt n at = let old = acts.calm t n at in subst (λ p. p < static_priority config c) (sym old.1) (acts.above t lt n old.0)

      both : (t u : ℕ) → (priority_of config t (task s t) < static_priority config u) ⊎ (priority_of config u (task s u) < static_priority config t)
          → priority_of config t (task next t) ≡ priority_of config t (task s t) → priority_of config u (task next u) ≡ priority_of config u (task s u)
          → (priority_of config t (task next t) < static_priority config u) ⊎ (priority_of config u (task next u) < static_priority config t)
      both t u (inl h) e f = inl (subst (λ p. p < static_priority config u) (sym e) h)
      both t u (inr h) e f = inr (subst (λ p. p < static_priority config t) (sym f) h)

      by : (t u : ℕ) → AreTwo config t u → (task next t).state ≡ mode.Active → (task next u).state ≡ mode.Active
          → (t ≡ c) ⊎ (t ≡ c → ⊥) → (u ≡ c) ⊎ (u ≡ c → ⊥)
          → (priority_of config t (task next t) < static_priority config u) ⊎ (priority_of config u (task next u) < static_priority config t)
      by t u two at au (inl e) (inl f) = absurd (two.differ (e ∙ sym f))
      by t u two at au (inl e) (inr f) = inr (subst (λ x. priority_of config u (task next u) < static_priority config x) (sym e) (below u two.second f au))
      by t u two at au (inr e) (inl f) = inl (subst (λ x. priority_of config t (task next t) < static_priority config x) (sym f) (below t two.first e at))
      by t u two at au (inr e) (inr f) =
          let x = acts.calm t e at in
          let y = acts.calm u f au in
          both t u (a.apart t u two x.0 y.0) x.1 y.1

  -- no task changed that is Active
  pub apart_kept : (s next : System) → TasksAreApart config s → ((u : ℕ) → Same u (task s u) (task next u))
      → ((t : ℕ) → is_in t next.fresh ≡ true → (task next t).state ≡ mode.Ready) → TasksAreApart config next
  apart_kept s next a calm fresh = record {
    fresh_ready = fresh;
    apart = λ t u two at au.
        let x = calm t at in
        let y = calm u au in
        by t u (a.apart t u two x.0 y.0) x.1 y.1;
  }
    where
      by : (t u : ℕ) → (priority_of config t (task s t) < static_priority config u) ⊎ (priority_of config u (task s u) < static_priority config t)
          → priority_of config t (task next t) ≡ priority_of config t (task s t) → priority_of config u (task next u) ≡ priority_of config u (task s u)
          → (priority_of config t (task next t) < static_priority config u) ⊎ (priority_of config u (task next u) < static_priority config t)
      by t u (inl h) e f = inl (subst (λ p. p < static_priority config u) (sym e) h)
      by t u (inr h) e f = inr (subst (λ p. p < static_priority config t) (sym f) h)

  -- ---- what an event leaves

  run_calm : (app : App) (t func item result : ℕ) (s next : System) → IsItemStep config app t func item result s next → Calm t s next
  run_calm app t func item result s next h =
      subst (Calm t s) (sym h.is) (own t s (record (task s t) { registers = h.meant.registers; frames = h.meant.frames }))

  answer_calm : (app : App) (t : ℕ) (served : Service) (s : System) (answer : ServiceOutcome) → IsServiceStep config app t served s answer → IsAfter (Calm t s) answer
  answer_calm app t served s answer h = subst (IsAfter (Calm t s)) h.is (outcome_calm served h.call.object h.call.mask t s)

  pub boot_calm : (s : System) (u : ℕ) → Same u (task s u) (get_or (autostarted_tasks config.tasks s.tasks) u sleeping_task)
  boot_calm s u = autostarted_at (Same u (task s u)) config.tasks s.tasks u (itself u (task s u)) (λ e. absurd cc)

  pub admit_calm : (s : System) (t u : ℕ) → Same u (task s u) (task (admitted_state t s) u)
  admit_calm s t u =
      by_suspended (task s t).state (record (activated_state s t) { fresh = t ∷ s.fresh }) s (λ (x : System). Same u (task s u) (task x u))
      (λ _. at_task s t u (record (task s t) { state = mode.Ready }) (Same u (task s u)) (itself u (task s u)) (λ e h. absurd cc))
      (λ _. itself u (task s u))

  -- a tick changes no task that is Active
  pub tick_calm : (s : System) (c : ℕ) → c < length config.counters → (u : ℕ) → Same u (task s u) (task (ticked_state config c s) u)
  tick_calm s c lt u =
      let P = Calm (suc u) s in
      ticked_keeps P config (parts_kept P config (calm_besides (suc u) s) (λ x d new h. h)) s c lt (λ v n. itself v (task s v)) u (λ e. absurd (omega (arith, e)))

  admit_fresh : (s : System) (t : ℕ) → TasksAreApart config s → t < length s.tasks → (u : ℕ) → is_in u (admitted_state t s).fresh ≡ true
      → (task (admitted_state t s) u).state ≡ mode.Ready
  admit_fresh s t a lt =
      by_suspended (task s t).state (record (activated_state s t) { fresh = t ∷ s.fresh }) s
      (λ (x : System). (u : ℕ) → is_in u x.fresh ≡ true → (task x u).state ≡ mode.Ready)
      (λ _ u h. fresh u (cases_eq u t) (or_cases _ _ h)) (λ _. a.fresh_ready)
    where
      fresh : (u : ℕ) → (u ≡ t) ⊎ (u ≡ t → ⊥) → ((t == u) ≡ true) ⊎ (is_in u s.fresh ≡ true) → (task (activated_state s t) u).state ≡ mode.Ready
      fresh u (inl e) h =
          let P : ℕ → Type 0 = λ x. (task (activated_state s t) x).state ≡ mode.Ready in
          subst P (sym e) (ap (λ k. k.state) (get_or-set_same s.tasks t (record (task s t) { state = mode.Ready }) sleeping_task lt))
      fresh u (inr n) (inl e) = absurd (n (sym (eqb-true t u e)))
      fresh u (inr n) (inr e) =
          ap (λ k. k.state) (get_or-set_other s.tasks t u (record (task s t) { state = mode.Ready }) sleeping_task n) ∙ a.fresh_ready u e

  -- ---- events of a task

  pub enter_acts : (app : App) (t : ℕ) (s next : System) → OsekStep config app (event.Enter t) s next → Acts t s next
  enter_acts app t s next h =
      subst (Acts t s) (sym h.4)
      (record {
        above = entered_above s t h.1 h.2;
        calm = own t s (record (started_task app t (task s t).frames (task s t)) { state = mode.Active; raised = (declaration config t).non });
        settles = refl;
      })

  pub run_acts : (app : App) (t func item result : ℕ) (s next : System) → OsekStep config app (event.Run t func item result) s next → TasksAreApart config s → Acts t s next
  run_acts app t func item result s next h a = record {
    above = top_above s [] t h.1.top (λ u x. absurd (false≢true x)) a h.1.at.active;
    calm = run_calm app t func item result s next h.1;
    settles = ap (λ x. x.fresh) h.1.is;
  }

  pub call_acts : (app : App) (t status : ℕ) (served : Service) (s next : System) → OsekStep config app (event.Call t served status) s next → TasksAreApart config s
      → Acts t s next
  call_acts app t status served s next h a =
      subst (Acts t s) (sym h.1.2)
      (record {
        above = top_above s s.fresh t h.1.1.top a.fresh_ready a h.1.1.at.active;
        calm = answer_calm app t served s (GoesOn status h.1.0) h.1.1;
        settles = refl;
      })

  pub left_acts : (app : App) (t : ℕ) (served : Service) (s next : System) → OsekStep config app (event.Left t served) s next → TasksAreApart config s → Acts t s next
  left_acts app t served s next h a =
      subst (Acts t s) (sym h.1.2)
      (record {
        above = top_above s s.fresh t h.1.1.top a.fresh_ready a h.1.1.at.active;
        calm = answer_calm app t served s (Leaves h.1.0) h.1.1;
        settles = refl;
      })

  pub back_acts : (app : App) (t : ℕ) (s next : System) → OsekStep config app (event.Back t) s next → TasksAreApart config s → Acts t s next
  back_acts app t s next h a =
      subst (Acts t s) (sym h.4)
      (record {
        above = top_above s [] t h.1 (λ u x. absurd (false≢true x)) a h.2;
        calm = own t s (record (task s t) { owed = false; raised = (declaration config t).non });
        settles = refl;
      })

  pub task_apart : (app : App) (e : Event) (s next : System) → OsekStep config app e s next → is_some (named_task e) ≡ true → length s.tasks ≡ length config.tasks
      → TasksAreApart config s → TasksAreApart config next
  task_apart app (event.Admit t) s next h named count a =
      subst (TasksAreApart config) (sym h.2)
      (apart_kept s (admitted_state t s) a (admit_calm s t) (admit_fresh s t a (subst (λ n. t < n) (sym count) h.1)))
  task_apart app (event.Enter t) s next h named count a = apart_of s next t a (enter_acts app t s next h)
  task_apart app (event.Run t func item result) s next h named count a = apart_of s next t a (run_acts app t func item result s next h a)
  task_apart app (event.Call t served status) s next h named count a = apart_of s next t a (call_acts app t status served s next h a)
  task_apart app (event.Left t served) s next h named count a = apart_of s next t a (left_acts app t served s next h a)
  task_apart app (event.Back t) s next h named count a = apart_of s next t a (back_acts app t s next h a)
  task_apart app e s next h named count a = absurd (false≢true named)

  pub opening_apart : (app : App) → TasksAreApart config (opening config app)
  opening_apart app = record {
    fresh_ready = λ u x. absurd (false≢true x);
    apart = λ t u two at au. absurd (asleep (opening config app) t (ap (λ k. k.state) (asleep_at config.tasks t)) at);
  }
    where
      asleep : (s : System) (t : ℕ) → (task s t).state ≡ mode.Suspended → (task s t).state ≡ mode.Active → ⊥
      asleep s t a b = clash (task s t).state a b
        where
          clash : (m : TaskState) → m ≡ mode.Suspended → m ≡ mode.Active → ⊥
          clash mode.Suspended a b = absurd cc
          clash mode.Ready a b = absurd cc
          clash mode.Active a b = absurd cc
          clash (mode.Waiting x) a b = absurd cc
