-- Arrivals inside a stretch, and the tasks that its event passes over.
use Rattle.std.proofs.Common.{◌≡◌, ◌≤◌, ℕ, ◌+◌, ◌*◌, List, [], ◌∷◌, ◌++◌, length, refl, sym, ap, ◌∙◌, subst, arith, ⊎_elim, inl, inr, append_assoc, true, false, cond, get_or, get_or-set_other}
use Rattle.std.specs.Prelude.{◌⊎◌, ◌||◌, ◌==◌, map}
use Rattle.std.proofs.lemmas.Bool.{cases_eq, or_parts, eqb-false, ne_eqb}
use Rattle.sloth_base.specs.declared.config.Config.{Config}
use Rattle.sloth_base.specs.declared.app.App.{App}
use Rattle.sloth_base.specs.declared.service.Arrival.{Arrival}
use Rattle.sloth_base.specs.declared.service.Event.TheVariants as event
use Rattle.sloth_base.specs.declared.service.Stamped.{Stamped}
use Rattle.sloth_base.specs.Owners.{first_counter_line, owners_in, AreTasks}
use Rattle.sloth_base.proofs.Owners.{task_owned}
use Rattle.osek_scheduler.specs.declared.state.TaskState.{TaskState}
use Rattle.osek_scheduler.specs.declared.state.TaskState.TheVariants as mode
use Rattle.osek_scheduler.specs.State.{Task, Clock, System, task, with_task, sleeping_task, no_counter, opening}
use Rattle.sloth_base.specs.Named.{declaration}
use Rattle.osek_scheduler.specs.Priority.{IsTop, IsDue, rank, is_active, current_priority}
use Rattle.code_rules.specs.Code.{is_in}
use Rattle.osek_scheduler.specs.Services.{if_suspended, activated_state}
use Rattle.osek_scheduler.specs.Steps.{OsekStep, admitted_state}
use Rattle.osek_scheduler.specs.Runs.{AreStepsTo, ReadySince, PassesOver}
use Rattle.osek_scheduler.proofs.Apart.{at_task}
use Rattle.sim_induction.specs.Mirror.{priority_of, IsRunningTask, NoneIsActive}
use Rattle.masked_code.specs.Trace.{Trace, early_arrivals}
use Rattle.sim_induction.specs.Admits.{line_event, with_arrival, with_admits, admit_event, arrivals_before_event}
use Rattle.sim_induction.proofs.Follow.{leads-append, booted_arrival}
use Rattle.sim_induction.proofs.Lines.{task_event, task_arrival, arrival_cases, arrival_steps, step_arrives, tasks_below}
use Rattle.sim_induction.proofs.Events.{IsFrom, before_within}
use Rattle.std.specs.List.{AllByRecursion}
use Rattle.sim_induction.proofs.Traces.{lines_before}

is_suspended : (t : TaskState) → (t ≡ mode.Suspended) ⊎ (t ≡ mode.Suspended → ⊥)
is_suspended mode.Suspended = inl refl
is_suspended mode.Ready = inr (λ e. cc)
is_suspended mode.Active = inr (λ e. cc)
is_suspended (mode.Waiting m) = inr (λ e. cc)

is_ready : (t : TaskState) → (t ≡ mode.Ready) ⊎ (t ≡ mode.Ready → ⊥)
is_ready mode.Ready = inl refl
is_ready mode.Suspended = inr (λ e. cc)
is_ready mode.Active = inr (λ e. cc)
is_ready (mode.Waiting m) = inr (λ e. cc)

second : (t : TaskState) (a b : System) → (t ≡ mode.Suspended → ⊥) → if_suspended t a b ≡ b
second mode.Suspended a b n = absurd (n refl)
second mode.Ready a b n = refl
second mode.Active a b n = refl
second (mode.Waiting m) a b n = refl

-- the two cases of an admit
pub admit_cases : (P : System → Type 0) (t : ℕ) (s : System) → ((task s t).state ≡ mode.Suspended → P (record (activated_state s t) { fresh = t ∷ s.fresh })) → (((task s t).state ≡ mode.Suspended → ⊥) → P s) → P (admitted_state t s)
admit_cases P t s a b =
    ⊎_elim
    (λ (e : (task s t).state ≡ mode.Suspended). subst P (sym (ap (λ x. if_suspended x (record (activated_state s t) { fresh = t ∷ s.fresh }) s) e)) (a e))
    (λ (n : (task s t).state ≡ mode.Suspended → ⊥). subst P (sym (second (task s t).state (record (activated_state s t) { fresh = t ∷ s.fresh }) s n)) (b n))
    (is_suspended (task s t).state)

other_task : (s : System) (t u : ℕ) (new : Task) → (u ≡ t → ⊥) → task (with_task s t new) u ≡ task s u
other_task s t u new h = get_or-set_other s.tasks t u new sleeping_task h

-- a task that is not Suspended stays as it is
pub kept_admitted : (t u : ℕ) (s : System) → ((task s u).state ≡ mode.Suspended → ⊥) → task (admitted_state t s) u ≡ task s u
kept_admitted t u s n =
    admit_cases (λ z. task z u ≡ task s u) t s
    (λ e. other_task s t u (record (task s t) { state = mode.Ready }) (λ h. n (subst (λ x. (task s x).state ≡ mode.Suspended) (sym h) e)))
    (λ _. refl)

pub kept_arrival : (line u : ℕ) (s : System) → ((task s u).state ≡ mode.Suspended → ⊥) → task (with_arrival line s) u ≡ task s u
kept_arrival line u s n = arrival_cases (λ z. task z u ≡ task s u) line s (kept_admitted line u s n) (λ c. refl)

pub kept_admits : (lines : List ℕ) (u : ℕ) (s : System) → ((task s u).state ≡ mode.Suspended → ⊥) → task (with_admits lines s) u ≡ task s u
kept_admits [] u s n = refl
kept_admits (line ∷ lines) u s n =
    let e = kept_arrival line u s n in
    kept_admits lines u (with_arrival line s) (λ h. n (subst (λ v. v.state ≡ mode.Suspended) e h)) ∙ e

kept_one : (t : ℕ) (s : System) (u : ℕ) → is_in u (admitted_state t s).fresh ≡ false → (task (admitted_state t s) u ≡ task s u) × (is_in u s.fresh ≡ false)
kept_one t s u =
    admit_cases (λ z. is_in u z.fresh ≡ false → (task z u ≡ task s u) × (is_in u s.fresh ≡ false)) t s
    (λ e f.
    let g = or_parts (t == u) (is_in u s.fresh) f in
    (other_task s t u (record (task s t) { state = mode.Ready }) (λ x. eqb-false t u g.0 (sym x)), g.1))
    (λ _ f. (refl, f))

kept_fresh : (line : ℕ) (s : System) (u : ℕ) → is_in u (with_arrival line s).fresh ≡ false → (task (with_arrival line s) u ≡ task s u) × (is_in u s.fresh ≡ false)
kept_fresh line s u = arrival_cases (λ z. is_in u z.fresh ≡ false → (task z u ≡ task s u) × (is_in u s.fresh ≡ false)) line s (kept_one line s u) (λ c f. (refl, f))

kept_all : (lines : List ℕ) (s : System) (u : ℕ) → is_in u (with_admits lines s).fresh ≡ false → (task (with_admits lines s) u ≡ task s u) × (is_in u s.fresh ≡ false)
kept_all [] s u f = (refl, f)
kept_all (line ∷ lines) s u f = let r = kept_all lines (with_arrival line s) u f in let q = kept_fresh line s u r.1 in (r.0 ∙ q.0, q.1)

-- activations leave the counters and the alarms as they are
clock_one : (t : ℕ) (s : System) → (admitted_state t s).clock ≡ s.clock
clock_one t s = admit_cases (λ z. z.clock ≡ s.clock) t s (λ e. refl) (λ n. refl)

-- arrivals of tasks leave counters and alarms as they are
pub same_clock : (c : Config) (lines : List ℕ) (s : System) → length c.tasks ≤ first_counter_line → AreTasks (owners_in c) lines → (with_admits lines s).clock ≡ s.clock
same_clock c [] s few h = refl
same_clock c (line ∷ lines) s few h =
    same_clock c lines (with_arrival line s) few h.1 ∙ ap (λ (z : System). z.clock) (task_arrival line s (tasks_below c line few h.0)) ∙ clock_one line s

-- an Active task does not become fresh
active_one : (t u : ℕ) (s : System) → (task s u).state ≡ mode.Active → is_in u s.fresh ≡ false → is_in u (admitted_state t s).fresh ≡ false
active_one t u s a f =
    admit_cases (λ z. is_in u z.fresh ≡ false) t s
    (λ e. ap (λ b. b || is_in u s.fresh) (ne_eqb t u (λ x. differs s t u x a e)) ∙ f)
    (λ _. f)
  where
    differs : (s : System) (t u : ℕ) → t ≡ u → (task s u).state ≡ mode.Active → (task s t).state ≡ mode.Suspended → ⊥
    differs s t u x a e = let q : (task s u).state ≡ mode.Suspended = subst (λ v. (task s v).state ≡ mode.Suspended) x e in cc

pub not_suspended : (x : TaskState) → x ≡ mode.Active → x ≡ mode.Suspended → ⊥
not_suspended x a e = cc

ready_not_suspended : (x : TaskState) → x ≡ mode.Ready → x ≡ mode.Suspended → ⊥
ready_not_suspended x a e = cc

pub active_fresh : (lines : List ℕ) (u : ℕ) (s : System) → (task s u).state ≡ mode.Active → is_in u s.fresh ≡ false → is_in u (with_admits lines s).fresh ≡ false
active_fresh [] u s a f = f
active_fresh (t ∷ lines) u s a f =
    active_fresh lines u (with_arrival t s) (ap (λ v. v.state) (kept_arrival t u s (not_suspended (task s u).state a)) ∙ a)
    (arrival_cases (λ z. is_in u z.fresh ≡ false) t s (active_one t u s a f) (λ c. f))

-- ---- the task that runs

-- an admit makes no task Active
active_admitted : (t u : ℕ) (s : System) → (task (admitted_state t s) u).state ≡ mode.Active → (task s u).state ≡ mode.Active
active_admitted t u s =
    admit_cases (λ z. (task z u).state ≡ mode.Active → (task s u).state ≡ mode.Active) t s
    (λ _. at_task s t u (record (task s t) { state = mode.Ready }) (λ k. k.state ≡ mode.Active → (task s u).state ≡ mode.Active) (λ a. a) (λ e a. absurd cc))
    (λ _ a. a)

active_admits : (lines : List ℕ) (u : ℕ) (s : System) → (task (with_admits lines s) u).state ≡ mode.Active → (task s u).state ≡ mode.Active
active_admits [] u s a = a
active_admits (line ∷ lines) u s a =
    arrival_cases (λ z. (task z u).state ≡ mode.Active → (task s u).state ≡ mode.Active) line s (active_admitted line u s) (λ c h. h)
    (active_admits lines u (with_arrival line s) a)

same_priority : (c : Config) (s z : System) (u : ℕ) → task z u ≡ task s u → priority_of c z u ≡ priority_of c s u
same_priority c s z u e = ap (current_priority c (declaration c u)) e

-- a task that runs behind arrivals ran before them, with the same record
pub ran_before : (c : Config) (lines : List ℕ) (t : ℕ) (s : System) → IsRunningTask c (with_admits lines s) t → IsRunningTask c s t × (task (with_admits lines s) t ≡ task s t)
ran_before c lines t s runs =
    let z = with_admits lines s in
    let active = active_admits lines t s runs.active in
    let same : task z t ≡ task s t = kept_admits lines t s (not_suspended (task s t).state active) in (
      record {
        declared = runs.declared;
        active = active;
        is_greatest = λ u l a.
            let k : task z u ≡ task s u = kept_admits lines u s (not_suspended (task s u).state a) in
            let r = runs.is_greatest u l (ap (λ (v : Task). v.state) k ∙ a) in
            let p = same_priority c s z u k in
            let q = same_priority c s z t same in
            omega (arith, r, p, q);
      },
      same,
    )

-- where none is Active behind arrivals, none was before them
pub rested_before : (c : Config) (lines : List ℕ) (s : System) → NoneIsActive c (with_admits lines s) → NoneIsActive c s
rested_before c lines s rests t l active =
    rests t l (ap (λ (v : Task). v.state) (kept_admits lines t s (not_suspended (task s t).state active)) ∙ active)

-- ---- a task that arrivals made Ready

-- any admits leave a Ready task Ready
leads_ready : (c : Config) (app : App) (a : List Arrival) (front rest : List Stamped) (u : ℕ) (s x : System) → map admit_event a ≡ front ++ rest → AreStepsTo c app front s x → (task s u).state ≡ mode.Ready → (task x u).state ≡ mode.Ready
leads_ready c app a [] rest u s x e h r = subst (λ v. (task v u).state ≡ mode.Ready) (sym h) r
leads_ready c app [] (f ∷ front) rest u s x e h r = cc
leads_ready c app (y ∷ a) (f ∷ front) rest u s x e h r =
    let e0 : f ≡ admit_event y = cc in
    let e1 : map admit_event a ≡ front ++ rest = cc in
    let o : OsekStep c app (line_event y.line) s h.0 = subst (λ (v : Stamped). OsekStep c app v.event s h.0) e0 h.1 in
    let w : task (with_arrival y.line s) u ≡ task s u = kept_arrival y.line u s (ready_not_suspended (task s u).state r) in
    let v : (task h.0 u).state ≡ mode.Ready = subst (λ q. (task q u).state ≡ mode.Ready) (sym (step_arrives c app y.line s h.0 o)) (ap (λ t. t.state) w ∙ r) in
    leads_ready c app a front rest u h.0 x e1 h.2 v

made : (t u : ℕ) (s : System) → ((task s u).state ≡ mode.Ready → ⊥) → (task (admitted_state t s) u).state ≡ mode.Ready → (u ≡ t) × ((task s u).state ≡ mode.Suspended)
made t u s n =
    admit_cases (λ z. (task z u).state ≡ mode.Ready → (u ≡ t) × ((task s u).state ≡ mode.Suspended)) t s
    (λ e r.
    ⊎_elim (λ (h : u ≡ t). (h, subst (λ v. (task s v).state ≡ mode.Suspended) (sym h) e))
    (λ (h : u ≡ t → ⊥). absurd (n (ap (λ v. v.state) (sym (other_task s t u (record (task s t) { state = mode.Ready }) h)) ∙ r)))
    (cases_eq u t))
    (λ _ r. absurd (n r))

-- an arrival makes the task of its line Ready, and no other
made_arrival : (line u : ℕ) (s : System) → ((task s u).state ≡ mode.Ready → ⊥) → (task (with_arrival line s) u).state ≡ mode.Ready → (u ≡ line) × ((task s u).state ≡ mode.Suspended)
made_arrival line u s n = arrival_cases (λ z. (task z u).state ≡ mode.Ready → (u ≡ line) × ((task s u).state ≡ mode.Suspended)) line s (made line u s n) (λ c r. absurd (n r))

pub made_ready : (c : Config) (app : App) (past : List Stamped) (k to u : ℕ) (a : List Arrival) (s : System) → length c.tasks ≤ first_counter_line → AreStepsTo c app past (opening c app) s → s.booted ≡ true → AreTasks (owners_in c) (map (λ x. x.line) a) → AllByRecursion (IsFrom (k + 1) to) a
    → ((task s u).state ≡ mode.Ready → ⊥) → (task (with_admits (map (λ x. x.line) a) s) u).state ≡ mode.Ready → ReadySince c app (past ++ map admit_event a) u k
made_ready c app past k to u [] s few h b l m n r = absurd (n r)
made_ready c app past k to u (x ∷ a) s few h b l m n r =
    let below = tasks_below c x.line few l.0 in
    let next : System = with_arrival x.line s in
    ⊎_elim
    (λ (t : (task next u).state ≡ mode.Ready).
    let on : (u ≡ x.line) × ((task s u).state ≡ mode.Suspended) = made_arrival x.line u s n t in
    let activated : (task (admitted_state u s) u).state ≡ mode.Ready =
    subst (λ v. (task (admitted_state v s) u).state ≡ mode.Ready) (sym on.0) (subst (λ (z : System). (task z u).state ≡ mode.Ready) (task_arrival x.line s below) t) in
    record {
      before = past;
      admit = admit_event x;
      behind = map admit_event a;
      is = refl;
      admits = task_event x.line below ∙ ap event.Admit (sym on.0);
      later = (let q = m.0.0 in omega arith);
      found = s;
      leads = h;
      suspended = on.1;
      since = λ front rest y e g. leads_ready c app a front rest u (admitted_state u s) y e g activated;
    })
    (λ (t : (task next u).state ≡ mode.Ready → ⊥).
    subst (λ p. ReadySince c app p u k) (append_assoc past (admit_event x ∷ []) (map admit_event a))
    (made_ready c app (past ++ admit_event x ∷ []) k to u a next few
    (leads-append c app past (admit_event x ∷ []) (opening c app) s next h (next, arrival_steps c app x.line s few (task_owned (owners_in c) x.line l.0) b, refl))
    (booted_arrival x.line s ∙ b) l.1 m.1 t r))
    (is_ready (task next u).state)

-- ---- the top task of a stretch

same_rank : (c : Config) (s z : System) (u : ℕ) → task z u ≡ task s u → rank c z u ≡ rank c s u
same_rank c s z u e = ap (λ (t : Task). cond (is_active t.state) (2 * current_priority c (declaration c u) t + 1) (2 * (declaration c u).priority)) e

-- Where an Active task is the top one at the first count of a stretch, it still is with the early arrivals left out that are
-- fresh, and passes over only tasks that were admitted inside the stretch.
pub still_top : (c : Config) (s : System) (t : ℕ) (lines : List ℕ) → length c.tasks ≤ first_counter_line → AreTasks (owners_in c) lines → IsTop c s [] t → (task s t).state ≡ mode.Active → is_in t s.fresh ≡ false → IsTop c (with_admits lines s) (with_admits lines s).fresh t
still_top c s t lines few tasks top active fresh =
    let z = with_admits lines s in
    let same : task z t ≡ task s t = kept_admits lines t s (not_suspended (task s t).state active) in
    record {
      declared = top.declared;
      due = inr (ap (λ v. v.state) same ∙ active);
      is_greatest = λ u l due out.
          let k = kept_all lines s u out in
          let d : IsDue s u = subst (λ (v : Task). (v.state ≡ mode.Ready) ⊎ (v.state ≡ mode.Active)) k.0 due in
          let r = top.is_greatest u l d refl in
          let a = same_rank c s z u k.0 in
          let b = same_rank c s z t same in
          omega arith;
      is_not_left_out = active_fresh lines t s active fresh;
      no_ticks = λ n declared. ap (λ (clock : Clock). (get_or clock.counters n no_counter).due) (same_clock c lines s few tasks) ∙ top.no_ticks n declared;
    }

pub passes_over : (c : Config) (app : App) (past : List Stamped) (k to t : ℕ) (a : List Arrival) (s : System) → length c.tasks ≤ first_counter_line → AreStepsTo c app past (opening c app) s → s.booted ≡ true
    → AreTasks (owners_in c) (map (λ x. x.line) a) → AllByRecursion (IsFrom (k + 1) to) a → IsTop c s [] t → (task s t).state ≡ mode.Active
    → PassesOver c app (past ++ map admit_event a) (with_admits (map (λ x. x.line) a) s) t k
passes_over c app past k to t a s few h b l m top active u declared ready above =
    made_ready c app past k to u a s few h b l m
    (λ was.
    let z = with_admits (map (λ x. x.line) a) s in
    let r = top.is_greatest u declared (inl was) refl in
    let x = same_rank c s z u (kept_admits (map (λ x. x.line) a) u s (ready_not_suspended (task s u).state was)) in
    let y = same_rank c s z t (kept_admits (map (λ x. x.line) a) t s (not_suspended (task s t).state active)) in
    omega arith)
    ready

pub passes_inner : (c : Config) (app : App) (past : List Stamped) (k t : ℕ) (s : System) (trace : Trace) → length c.tasks ≤ first_counter_line → AreStepsTo c app past (opening c app) s → s.booted ≡ true
    → AreTasks (owners_in c) (early_arrivals trace) → IsTop c s [] t → (task s t).state ≡ mode.Active
    → PassesOver c app (past ++ map admit_event (arrivals_before_event (k + 1) trace)) (with_admits (early_arrivals trace) s) t k
passes_inner c app past k t s trace few h b l top active =
    let e = lines_before (k + 1) trace in
    subst (λ lines. PassesOver c app (past ++ map admit_event (arrivals_before_event (k + 1) trace)) (with_admits lines s) t k) e
    (passes_over c app past k (k + 1 + length trace) t (arrivals_before_event (k + 1) trace) s few h b (subst (AreTasks (owners_in c)) (sym e) l)
    (before_within (k + 1) (k + 1 + length trace) (k + 1) trace (omega arith) (omega arith)) top active)
