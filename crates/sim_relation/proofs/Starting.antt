-- The relation stands where boot has started the system.
use Rattle.std.proofs.Common.{◌≡◌, ℕ, zero, suc, ◌+◌, ◌<◌, ◌≤◌, List, [], ◌∷◌, length, get_or, refl, sym, ap, subst, arith, ⊎_elim, inl, inr, Bool, true, false, cond}
use Rattle.std.specs.Prelude.{◌≢◌, map, slice_index}
use Rattle.sloth_base.specs.Machine.{State}
use Rattle.sloth_base.specs.declared.config.TaskDecl.{TaskDecl}
use Rattle.sloth_base.specs.declared.config.CounterDecl.{CounterDecl}
use Rattle.sloth_region.specs.Layout.{cur, active, events, counter_value, below_word, resume, idle_context}
use Rattle.rv32_instr.specs.Ram.{word_at}
use Rattle.osek_scheduler.specs.declared.state.TaskState.TheVariants as mode
use Rattle.osek_scheduler.specs.State.{Task, System, sleeping_task, no_counter, task}
use Rattle.sloth_base.specs.Named.{declaration, undeclared_task}
use Rattle.sloth_base.specs.Limits.{ceiling_count}
use Rattle.osek_scheduler.specs.Steps.{autostarted_tasks}
use Rattle.sim_relation.specs.Build.{Build, HasFittingPlaces}
use Rattle.sim_relation.specs.ClockStands.{CounterLineStands}
use Rattle.sim_relation.specs.ServiceWords.{AreServiceWords}
use Rattle.sim_relation.specs.Stands.{Stands, AreLineBytes, IsAlive, IsTidyTask}
use Rattle.sim_relation.specs.Start.{Starts, started_system}

-- a task as the start leaves it
abbrev pub awake : Bool → Task
awake autostart = cond autostart (record sleeping_task { state = mode.Ready }) sleeping_task

autostarted_at : (ds : List TaskDecl) (t : ℕ) → t < length ds
    → get_or (autostarted_tasks ds (map (λ (_ : TaskDecl). sleeping_task) ds)) t sleeping_task ≡ awake (get_or ds t undeclared_task).autostart
autostarted_at [] t l = absurd (omega arith)
autostarted_at (d ∷ ds) zero l = refl
autostarted_at (d ∷ ds) (suc t) l = autostarted_at ds t (omega arith)

length-autostarted : (ds : List TaskDecl) → length (autostarted_tasks ds (map (λ (_ : TaskDecl). sleeping_task) ds)) ≡ length ds
length-autostarted [] = refl
length-autostarted (d ∷ ds) = ap suc (length-autostarted ds)

-- a word of zeros is 0
pub zero_word : (ram : List ℕ) (p : ℕ) → ((i : ℕ) → p ≤ i → i < p + 4 → slice_index ram i ≡ 0) → word_at ram p ≡ 0
unfolding word_at
zero_word ram p h =
    let a = h p (omega arith) (omega arith) in
    let c = h (p + 1) (omega arith) (omega arith) in
    let d = h (p + 2) (omega arith) (omega arith) in
    let e = h (p + 3) (omega arith) (omega arith) in
    omega arith

-- no counter is due at the start
none_due : (ds : List CounterDecl) (c : ℕ) → get_or (map (λ (_ : CounterDecl). no_counter) ds) c no_counter ≡ no_counter
none_due [] c = refl
none_due (d ∷ ds) zero = refl
none_due (d ∷ ds) (suc c) = none_due ds c

-- what holds of a task that the start leaves
line_of : (autostart : Bool) (pending enabled : ℕ) → pending ≡ cond autostart 1 0 → enabled ≡ 1 → AreLineBytes (awake autostart).state pending enabled
line_of true p e a c = (a, c)
line_of false p e a c = (a, c)

rests : (autostart : Bool) → ((awake autostart).state ≡ mode.Active → ⊥) × ((awake autostart).frames ≡ [])
rests true = ((λ e. cc), refl)
rests false = ((λ e. cc), refl)

few : (r : ℕ) → false ≡ true → r < ceiling_count
few r e = cc

tidy_of : (autostart : Bool) → IsTidyTask (awake autostart)
tidy_of true = record { registers = refl; at_rest = λ _. (refl, refl, refl); asleep = λ e. (refl, refl); few = few }
tidy_of false = record { registers = refl; at_rest = λ _. (refl, refl, refl); asleep = λ e. (refl, refl); few = few }

words_of : (b : Build) (ram : List ℕ) (t : ℕ) (autostart : Bool) → word_at ram (active t) ≡ 0 → word_at ram (events t) ≡ 0 → word_at ram (resume t) ≡ 0
    → AreServiceWords b ram t (awake autostart)
words_of b ram t true a e r = record { activity = a; event_mask = e; wait_mask = tt; resumption = r; held = tt }
words_of b ram t false a e r = record { activity = a; event_mask = e; wait_mask = tt; resumption = r; held = tt }

module _ (b : Build) (state : State) (fits : HasFittingPlaces b) (start : Starts b state) where
  abbrev s : System
  s = started_system b

  task_is : (t : ℕ) → t < length b.config.tasks → task s t ≡ awake (declaration b.config t).autostart
  task_is t h = autostarted_at b.config.tasks t h

  by_awake : (P : ℕ → Task → Type 0) → ((t : ℕ) → t < length b.config.tasks → P t (awake (declaration b.config t).autostart)) → (t : ℕ) → t < length b.config.tasks → P t (task s t)
  by_awake P f t h = subst (P t) (sym (task_is t h)) (f t h)

  not_active : (t : ℕ) → t < length b.config.tasks → (task s t).state ≡ mode.Active → ⊥
  not_active = by_awake (λ t v. v.state ≡ mode.Active → ⊥) (λ t h. (rests (declaration b.config t).autostart).0)

  not_alive : (t : ℕ) → t < length b.config.tasks → IsAlive (task s t) → ⊥
  not_alive t h a =
      ⊎_elim (λ (x : (task s t).state ≡ mode.Active). not_active t h x)
      (λ (x : (task s t).frames ≢ []). x (by_awake (λ t v. v.frames ≡ []) (λ t h. (rests (declaration b.config t).autostart).1) t h)) a

  low_word : (p : ℕ) → p + 4 ≤ counter_value 0 → word_at state.core.ram p ≡ 0
  low_word p h = zero_word state.core.ram p (λ i from to. start.service_words i (omega (arith, h, to)) (inl (omega (arith, h, to))))

  high_word : (p : ℕ) → below_word ≤ p → p + 4 ≤ idle_context → word_at state.core.ram p ≡ 0
  high_word p l h = zero_word state.core.ram p (λ i from to. start.service_words i (omega (arith, h, to)) (inr (omega (arith, l, from))))

  small : (x : Bool) (p : ℕ) → p ≡ cond x 1 0 → p < 2
  small true p e = omega arith
  small false p e = omega arith

  pub starts_stand : Stands b state s
  starts_stand = record {
    stack = [];
    active = record { falling = tt; all = λ t h a. absurd (not_active t h a) };
    lines = record {
      each = by_awake (λ t v. AreLineBytes v.state (slice_index state.core.pending t) (slice_index state.core.enabled t))
          (λ t h. line_of (declaration b.config t).autostart (slice_index state.core.pending t) (slice_index state.core.enabled t) (start.pending t h) (start.enabled t h));
      bits = λ t h. small (declaration b.config t).autostart (slice_index state.core.pending t) (start.pending t h);
      levels = start.levels;
      counters = λ c h. subst (λ x. CounterLineStands b.config state.core c x.due) (sym (none_due b.config.counters c)) (start.counters c h);
      others = start.other_enabled;
    };
    running = record { level = start.level; current = low_word cur (omega arith); pc = start.pc; x2 = start.x2 };
    words = by_awake (λ t v. AreServiceWords b state.core.ram t v)
        (λ t h. let n = fits.few_tasks in
        words_of b state.core.ram t (declaration b.config t).autostart (low_word (active t) (omega (arith, n, h))) (low_word (events t) (omega (arith, n, h)))
        (high_word (resume t) (omega arith) (omega (arith, n, h))));
    clock = start.clock;
    data_stands = start.data_stands;
    apart = λ t u h i n x y. absurd (not_alive t h x);
    tidy = record { booted = refl; tasks = length-autostarted b.config.tasks; each = by_awake (λ t v. IsTidyTask v) (λ t h. tidy_of (declaration b.config t).autostart) };
    fixed = start.fixed;
  }
