-- Each step keeps a state valid, and the system is valid as it starts.
use Rattle.std.proofs.Common.{◌≡◌, ℕ, zero, suc, ◌+◌, ◌<◌, ◌≤◌, ◌==◌, List, [], ◌∷◌, Bool, true, false, cond, length, get_or, map, refl, sym, ap, ◌∙◌, subst, arith}
use Rattle.std.proofs.lemmas.Bool.{true≢false, false≢true, eqb-false, cond_both}
use Rattle.std.proofs.lemmas.List.{length-map}
use Rattle.sloth_base.specs.declared.config.Config.{Config}
use Rattle.sloth_base.specs.declared.config.TaskDecl.{TaskDecl}
use Rattle.sloth_base.specs.declared.app.App.{App}
use Rattle.sloth_base.specs.declared.app.Symbol.{Symbol}
use Rattle.sloth_base.specs.declared.service.Event.{Event}
use Rattle.sloth_base.specs.declared.service.Event.TheVariants as event
use Rattle.sloth_base.specs.declared.config.Action.{Action}
use Rattle.sloth_base.specs.declared.config.Action.TheVariants as action
use Rattle.sloth_base.specs.ConfigRange.{IsAction}
use Rattle.osek_scheduler.specs.declared.state.Counter.{Counter}
use Rattle.osek_scheduler.specs.declared.state.TaskState.TheVariants as mode
use Rattle.osek_scheduler.specs.State.{Task, System, sleeping_task, task, no_counter, counter, alarm, opening}
use Rattle.sloth_base.specs.Named.{declaration, counter_declaration, undeclared_alarm, alarm_declaration}
use Rattle.osek_scheduler.specs.Services.{activated_state, set_events, acted_state, next_value, ticked_state}
use Rattle.osek_scheduler.specs.Steps.{settled_state, autostarted_tasks, due_state, OsekStep}
use Rattle.osek_scheduler.proofs.Facts.{Facts}
use Rattle.osek_scheduler.specs.Valid.{IsValidTask, IsValid}
use Rattle.osek_scheduler.proofs.Going.{settles, counter_kept, alarm_kept}
use Rattle.osek_scheduler.proofs.Outcomes.{by_suspended, KeptByOthers, sets_keep}
use Rattle.osek_scheduler.proofs.Ticking.{acted_keeps, ticked_keeps}
use Rattle.osek_scheduler.proofs.Serving.{covers_none, ready_task, activated_valid, set_events_valid}
use Rattle.osek_scheduler.proofs.TaskSteps.{task_step_valid}

-- ---- the opening

-- each thing of a list is the same
same_at : {A B : Type 0} (xs : List A) (same : B) (t : ℕ) → get_or (map (λ _. same) xs) t same ≡ same
same_at [] same t = refl
same_at (x ∷ xs) same zero = refl
same_at (x ∷ xs) same (suc t) = same_at xs same t

pub asleep_at : (ds : List TaskDecl) (t : ℕ) → get_or (map (λ _. sleeping_task) ds) t sleeping_task ≡ sleeping_task
asleep_at ds t = same_at ds sleeping_task t

sizes_kept : (ys : List Symbol) → map length (map (λ y. y.bytes) ys) ≡ map (λ y. length y.bytes) ys
sizes_kept [] = refl
sizes_kept (y ∷ ys) = ap (λ l. length y.bytes ∷ l) (sizes_kept ys)

pub opening_valid : (config : Config) (app : App) → IsValid config app (opening config app)
opening_valid config app = record {
  count = length-map config.tasks (λ _. sleeping_task);
  each = λ t lt. subst (IsValidTask config app t) (sym (asleep_at config.tasks t)) (record {
    registers = refl;
    calls = tt;
    held = refl;
    listed = λ r h. absurd (false≢true h);
    distinct = tt;
    events = covers_none (declaration config t).events;
    in_state = (record { holds = refl; not_owed = refl; not_raised = refl }, refl, refl);
  });
  sizes = sizes_kept app.symbols;
  asleep = λ e t. ap (λ k. k.state) (asleep_at config.tasks t);
  clock = record {
    counters = length-map config.counters (λ _. no_counter);
    alarms = length-map config.alarms (λ d. record { left = d.time; cycle = d.cycle });
    values = λ c. subst (λ (k : Counter). k.value ≤ (counter_declaration config c).max) (sym (same_at config.counters no_counter c)) (omega arith);
  };
}

-- ---- boot

pub length-autostarted : (ds : List TaskDecl) (ts : List Task) → length (autostarted_tasks ds ts) ≡ length ts
length-autostarted [] ts = refl
length-autostarted (d ∷ ds) [] = refl
length-autostarted (d ∷ ds) (t ∷ ts) = ap suc (length-autostarted ds ts)

pub autostarted_at : (P : Task → Type 0) (ds : List TaskDecl) (ts : List Task) (t : ℕ) → P (get_or ts t sleeping_task)
    → P (record (get_or ts t sleeping_task) { state = mode.Ready }) → P (get_or (autostarted_tasks ds ts) t sleeping_task)
autostarted_at P [] ts t same ready = same
autostarted_at P (d ∷ ds) [] t same ready = same
autostarted_at P (d ∷ ds) (k ∷ ts) zero same ready = by d.autostart
  where
    by : (b : Bool) → P (cond b (record k { state = mode.Ready }) k)
    by true = ready
    by false = same
autostarted_at P (d ∷ ds) (k ∷ ts) (suc t) same ready = autostarted_at P ds ts t same ready

boot_valid : (config : Config) (app : App) (s : System) → IsValid config app s → s.booted ≡ false
    → IsValid config app (settled_state (record s { tasks = autostarted_tasks config.tasks s.tasks; booted = true }))
boot_valid config app s v asleep = record {
  count = length-autostarted config.tasks s.tasks ∙ v.count;
  each = λ t lt. autostarted_at (IsValidTask config app t) config.tasks s.tasks t (v.each t lt)
      (ready_task config app t (task s t) (v.each t lt) (v.asleep asleep t));
  sizes = v.sizes;
  asleep = λ e. absurd (true≢false e);
  clock = v.clock;
}

-- ---- ticks

-- what an alarm does keeps a state valid
acts_valid : (config : Config) (app : App) (s : System) (does : Action) → IsAction config does → IsValid config app s → s.booted ≡ true
    → IsValid config app (acted_state does s)
acts_valid config app s (action.Activate t) declared v booted =
    by_suspended (task s t).state (activated_state s t) s (IsValid config app) (λ asleep. activated_valid config app s t v booted declared asleep) (λ _. v)
acts_valid config app s (action.Set t mask) h v booted =
    by_suspended (task s t).state s (set_events t mask s) (IsValid config app) (λ _. v)
    (λ awake. set_events_valid config app s t mask v booted h.0 awake h.2)

-- and leaves it booted
abbrev IsBooted : System → Type 0
IsBooted s = s.booted ≡ true

booted_besides : KeptByOthers IsBooted
booted_besides = record { activates = λ s t h. h; sets = λ s t events h. h; stores = λ s symbols h. h; sets_alarms = λ s a new h. h }

still_booted : (s : System) (does : Action) → IsBooted s → IsBooted (acted_state does s)
still_booted s does = acted_keeps IsBooted (λ x t h. h) (sets_keep IsBooted booted_besides) s does

due_valid : (config : Config) (app : App) (s : System) (c : ℕ) → IsValid config app s → IsValid config app (due_state c s)
due_valid config app s c v = counter_kept config app s c (record (counter s c) { due = true }) v (v.clock.values c)

next_small : (max value : ℕ) → value ≤ max → next_value max value ≤ max
next_small max value le =
    cond_both (value == max) 0 (value + 1) (λ n. n ≤ max) (λ _. omega arith) (λ e. let n = eqb-false value max e in omega (arith, le, n))

tick_valid : (config : Config) (app : App) → Facts config app → (s : System) (c : ℕ) → c < length config.counters → IsValid config app s → s.booted ≡ true
    → IsValid config app (ticked_state config c s)
tick_valid config app w s c lt v booted =
    (ticked_keeps (λ (x : System). IsValid config app x × IsBooted x) config
    (record {
      counts = λ x d l h. (counter_kept config app x d _ h.0 (next_small (counter_declaration config d).max (counter x d).value (h.0.clock.values d)), h.1);
      leaves = λ x a left h. (alarm_kept config app x a (record (alarm x a) { left = left }) h.0, h.1);
      acts = λ x a l h.
          let does = (alarm_declaration config a).action in
          (acts_valid config app x does (w.in_range.configuration.alarms a undeclared_alarm l).action h.0 h.1, still_booted x does h.1);
    }) s c lt (v, booted)).0

-- ---- each event

pub step_valid : (config : Config) (app : App) (e : Event) (s next : System) → Facts config app → OsekStep config app e s next → IsValid config app s
    → IsValid config app next
step_valid config app event.Boot s next w h v = subst (IsValid config app) (sym h.1) (boot_valid config app s v h.0)
step_valid config app event.Idle s next w h v = subst (IsValid config app) (sym h.3) (settles config app s v)
step_valid config app event.Stray s next w h v = absurd h
step_valid config app (event.Due c) s next w h v = subst (IsValid config app) (sym h.2) (due_valid config app s c v)
step_valid config app (event.Tick c) s next w h v =
    subst (IsValid config app) (sym h.2) (settles config app _ (tick_valid config app w s c h.1.declared v h.0))
step_valid config app e s next w h v = task_step_valid config app e s next w h refl v
