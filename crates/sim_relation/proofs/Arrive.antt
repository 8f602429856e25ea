-- An arrival at a count that finds MIE 1 is the admit of its task.
use Rattle.std.proofs.Common.{◌≡◌, ℕ, ◌-◌, ◌<◌, ◌≤◌, List, [], ◌∷◌, length, set, get_or, refl, sym, ap, ◌∙◌, subst, arith, ⊎_elim, inl, inr, true, false, cond}
use Rattle.std.specs.Prelude.{◌⊎◌, ◌≢◌, slice_index}
use Rattle.std.proofs.lemmas.Bool.{le-ltb}
use Rattle.std.proofs.lemmas.List.{set-get_or, get_or-set_same, get_or-set_other, length-set}
use Rattle.sloth_base.specs.Machine.{State}
use Rattle.sloth_region.specs.Layout.{counter_value}
use Rattle.rv32_instr.specs.Ram.{word_at}
use Rattle.sloth_base.specs.Arrive.{state_arrive}
use Rattle.sloth_base.specs.Owners.{first_counter_line, counter_line, owners_in, AreOwned}
use Rattle.sloth_base.specs.Limits.{task_limit}
use Rattle.sloth_base.specs.MemoryMap.{line_count}
use Rattle.sloth_base.proofs.Owners.{IsCounterLine, owned_cases}
use Rattle.osek_scheduler.specs.declared.state.Counter.{Counter}
use Rattle.osek_scheduler.specs.declared.state.TaskState.{TaskState}
use Rattle.osek_scheduler.specs.declared.state.TaskState.TheVariants as mode
use Rattle.osek_scheduler.specs.State.{Task, System, Clock, sleeping_task, task, with_task, counter, no_counter}
use Rattle.code_rules.specs.Code.{is_in}
use Rattle.osek_scheduler.specs.Priority.{is_active}
use Rattle.osek_scheduler.specs.Services.{if_suspended, activated_state}
use Rattle.osek_scheduler.specs.Steps.{admitted_state, due_state}
use Rattle.sim_induction.specs.Admits.{with_arrival, with_admits}
use Rattle.sim_induction.proofs.Lines.{task_arrival}
use Rattle.sim_relation.specs.Build.{Build}
use Rattle.sim_relation.specs.ClockStands.{CounterLineStands}
use Rattle.sim_relation.specs.ServiceWords.{AreServiceWords, active_word}
use Rattle.sim_relation.specs.Stands.{Stands, AreLineBytes, IsAlive, IsTidyTask}
use Rattle.sim_relation.proofs.Tops.{falling_active}
use Rattle.sim_relation.specs.Moves.{changed_system, WholeMachine}
use Rattle.sim_relation.proofs.Parts.{other_task, by_element, by_task, falling_kept, running_tasks, rests, anew}
use Rattle.sim_relation.proofs.Rebuilt.{among, rebuilt}
use Rattle.sim_relation.proofs.Aside.{aside}
use Rattle.sim_relation.proofs.Machines.{changed_machine}
use Rattle.sim_relation.proofs.ClockKept.{line_stands, no_task, in_range}

-- the arrival of a counter's line makes the counter due
counter_arrival : (c : ℕ) (s : System) → with_arrival (counter_line c) s ≡ due_state c s
counter_arrival c s =
    let back : counter_line c - first_counter_line ≡ c = omega arith in
    ap (λ v. cond v (admitted_state (counter_line c) s) (due_state (counter_line c - first_counter_line) s))
    (le-ltb (counter_line c) first_counter_line (omega arith))
    ∙ ap (λ d. due_state d s) back

-- the line of a task that is not Suspended
more_pending : (m : TaskState) (p e : ℕ) → (m ≡ mode.Suspended → ⊥) → AreLineBytes m p e → AreLineBytes m 1 e
more_pending mode.Suspended p e n h = absurd (n refl)
more_pending mode.Ready p e n h = (refl, h.1)
more_pending mode.Active p e n h = h
more_pending (mode.Waiting w) p e n h = h

line_ready : (m : TaskState) (p e : ℕ) → m ≡ mode.Suspended → AreLineBytes m p e → AreLineBytes mode.Ready 1 e
line_ready mode.Suspended p e n h = (refl, h.1)
line_ready mode.Ready p e n h = cc
line_ready mode.Active p e n h = cc
line_ready (mode.Waiting w) p e n h = cc

line_pending : (m : TaskState) (p q e : ℕ) → q ≡ p → AreLineBytes m p e → AreLineBytes m q e
line_pending m p q e k h = subst (λ x. AreLineBytes m x e) (sym k) h

-- a task is Suspended or not
pub is_suspended : (m : TaskState) → (m ≡ mode.Suspended) ⊎ (m ≡ mode.Suspended → ⊥)
is_suspended mode.Suspended = inl refl
is_suspended mode.Ready = inr (λ e. cc)
is_suspended mode.Active = inr (λ e. cc)
is_suspended (mode.Waiting w) = inr (λ e. cc)

-- of a task that is not, the second case of a choice holds
pub not_suspended : (m : TaskState) (x y : System) → (m ≡ mode.Suspended → ⊥) → if_suspended m x y ≡ y
not_suspended mode.Suspended x y n = absurd (n refl)
not_suspended mode.Ready x y n = refl
not_suspended mode.Active x y n = refl
not_suspended (mode.Waiting w) x y n = refl

-- an arrival leaves of the machine all but a pending byte
arrived_machine : (b : Build) (state : State) (s : System) → Stands b state s → (l : ℕ) → WholeMachine state (state_arrive (l ∷ []) state)
arrived_machine b state s k l =
    changed_machine b state k.fixed state.pc state.core.ram (set state.core.pending l 1) state.core.enabled refl (length-set state.core.pending l 1) refl

module _ (b : Build) (state : State) (s : System) (l : ℕ) (k : Stands b state s) (inside : l < length b.config.tasks) (few : length b.config.tasks ≤ line_count) where
  abbrev now : State
  now = state_arrive (l ∷ []) state

  here_pending : slice_index (set state.core.pending l 1) l ≡ 1
  here_pending = let f = k.fixed.pending in get_or-set_same state.core.pending l 1 0 (omega arith)

  -- the task has this record now, and is Active or alive only where it was so
  module _ (own : Task) (fresh : List ℕ) (own_line : AreLineBytes own.state 1 (slice_index state.core.enabled l)) (own_words : AreServiceWords b state.core.ram l own) (own_tidy : IsTidyTask own)
      (in_stack : (u : ℕ) → is_in u k.stack ≡ true → task (with_task s l own) u ≡ task s u)
      (was_active : own.state ≡ mode.Active → (task s l).state ≡ mode.Active) (was_alive : IsAlive own → IsAlive (task s l)) where
    abbrev next : System
    next = changed_system s l own s.symbols fresh

    raised : Stands b now next
    raised = rebuilt b state now s k l own s.symbols fresh k.stack
        (record {
          declared = inside;
          machine = arrived_machine b state s k l;
          code = λ i x. refl;
          active = record {
            falling = falling_kept b s next k.stack in_stack k.active.falling;
            all = by_task (λ u t. u < length b.config.tasks → t.state ≡ mode.Active → is_in u k.stack ≡ true) s l own (among b state s l k inside)
                (λ h a. k.active.all l h (was_active a)) (λ u n h a. k.active.all u h a);
          };
          running = running_tasks b state now s next k.stack refl refl refl refl in_stack k.running;
          own_bit = let h = here_pending in omega arith;
          own_line = line_pending own.state 1 (slice_index (set state.core.pending l 1) l) (slice_index state.core.enabled l) here_pending own_line;
          other_pending = λ line n. get_or-set_other state.core.pending l line 1 0 n;
          other_enabled = λ line n. refl;
          own_words = own_words;
          other_words = λ u h n. k.words u h;
          clock = k.clock;
          data_stands = k.data_stands;
          apart = λ u h n a c. k.apart l u inside h (λ e. n (sym e)) (was_alive c) a;
          tidy = own_tidy;
        })

  -- a task that is not Suspended: nothing but its pending byte
  lost : ((task s l).state ≡ mode.Suspended → ⊥) → Stands b now s
  lost n =
      let same : set s.tasks l (task s l) ≡ s.tasks = set-get_or s.tasks l sleeping_task in
      subst (λ (ts : List Task). Stands b now (record s { tasks = ts })) same
      (raised (task s l) s.fresh (more_pending (task s l).state (slice_index state.core.pending l) (slice_index state.core.enabled l) n (k.lines.each l inside))
      (k.words l inside) (k.tidy.each l inside) (λ u h. ap (λ (ts : List Task). get_or ts u sleeping_task) same) (λ a. a) (λ a. a))

  -- a Suspended task becomes Ready
  module _ (e : (task s l).state ≡ mode.Suspended) where
    abbrev as_ready : Task
    as_ready = record (task s l) { state = mode.Ready }

    rest : (frames : (task s l).frames ≡ []) × ((task s l).events ≡ 0)
    rest = (k.tidy.each l inside).asleep e

    not_active : (u : ℕ) → (task s u).state ≡ mode.Active → u ≢ l
    not_active u a h = let c : (task s l).state ≡ mode.Active = subst (λ x. (task s x).state ≡ mode.Active) h a in cc

    in_stack : (u : ℕ) → is_in u k.stack ≡ true → task (with_task s l as_ready) u ≡ task s u
    in_stack u h = other_task s l u as_ready (not_active u (falling_active b s k.stack k.active.falling u h).active)

    ready_words : AreServiceWords b state.core.ram l as_ready
    ready_words =
        let w = k.words l inside in
        record {
          activity = w.activity ∙ ap active_word e;
          event_mask = w.event_mask;
          wait_mask = tt;
          resumption = anew b state.core.ram l as_ready false (task s l).frames rest.0
              (rests b state.core.ram l (task s l) (is_active (task s l).state) (task s l).frames rest.0 w.resumption);
          held = w.held;
        }

    ready_tidy : IsTidyTask as_ready
    ready_tidy =
        let y = k.tidy.each l inside in
        record { registers = y.registers; at_rest = λ _. y.at_rest (ap is_active e); asleep = λ a. cc; few = y.few }

    woken : Stands b now (admitted_state l s)
    woken = subst (λ z. Stands b now z) (sym (ap (λ x. if_suspended x (record (activated_state s l) { fresh = l ∷ s.fresh }) s) e))
        (raised as_ready (l ∷ s.fresh) (line_ready (task s l).state (slice_index state.core.pending l) (slice_index state.core.enabled l) e (k.lines.each l inside))
        ready_words ready_tidy in_stack (λ a. absurd cc)
        (λ a. ⊎_elim (λ (x : mode.Ready ≡ mode.Active). absurd cc) (λ (x : (task s l).frames ≢ []). inr x) a))

  -- the relation stands with the line pending and the arrival admitted
  pub arrived_one : Stands b now (admitted_state l s)
  arrived_one =
      ⊎_elim
      woken
      (λ (n : (task s l).state ≡ mode.Suspended → ⊥).
      subst (λ z. Stands b now z) (sym (not_suspended (task s l).state (record (activated_state s l) { fresh = l ∷ s.fresh }) s n)) (lost n))
      (is_suspended (task s l).state)

-- nothing here speaks of `fresh`
pub stands_fresh : (b : Build) (state : State) (s : System) (fresh : List ℕ) → Stands b state s → Stands b state (record s { fresh = fresh })
stands_fresh b state s fresh k =
    aside b state state s k s.clock fresh
    (record {
      machine = changed_machine b state k.fixed state.pc state.core.ram state.core.pending state.core.enabled refl refl refl;
      code = λ i x. refl;
      running = k.running;
      pending = λ t h. refl;
      enabled = refl;
      words = k.words;
      data_stands = k.data_stands;
      counters = k.lines.counters;
      clock_stands = k.clock;
    })

-- ---- a counter's line

module _ (b : Build) (state : State) (s : System) (c : ℕ) (k : Stands b state s) (declared : c < length b.config.counters) where
  abbrev ticking : State
  ticking = state_arrive (counter_line c ∷ []) state

  abbrev is_due : Counter
  is_due = record (counter s c) { due = true }

  abbrev with_due : Clock
  with_due = (due_state c s).clock

  is_there : c < length s.clock.counters
  is_there = let l = k.clock.counters in omega (arith, l, declared)

  here_set : slice_index ticking.core.pending (counter_line c) ≡ 1
  here_set = let f = k.fixed.pending in let l = in_range b state s k c declared in get_or-set_same state.core.pending (counter_line c) 1 0 (omega (arith, f, l))

  -- the relation stands with the line pending and the counter due
  pub arrived_counter : Stands b ticking (due_state c s)
  arrived_counter =
      aside b state ticking s k with_due s.fresh
      (record {
        machine = arrived_machine b state s k (counter_line c);
        code = λ i x. refl;
        running = running_tasks b state ticking s s k.stack refl refl refl refl (λ u h. refl) k.running;
        pending = λ t h. get_or-set_other state.core.pending (counter_line c) t 1 0 (λ e. no_task b state s k c declared t h (sym e));
        enabled = refl;
        words = k.words;
        data_stands = k.data_stands;
        counters = by_element (λ d (x : Counter). d < length b.config.counters → CounterLineStands b.config ticking.core d x.due) s.clock.counters c is_due no_counter is_there
            (λ h. let l = k.lines.counters c h in record { enabled = l.enabled; pending = here_set; level = l.level })
            (λ d n h. line_stands b.config state.core ticking.core d _ refl
            (get_or-set_other state.core.pending (counter_line c) (counter_line d) 1 0 (λ e. n (omega (arith, e)))) refl (k.lines.counters d h));
        clock_stands = record {
          counters = length-set s.clock.counters c is_due ∙ k.clock.counters;
          alarms = k.clock.alarms;
          values = by_element (λ d (x : Counter). d < length b.config.counters → word_at state.core.ram (counter_value d) ≡ x.value) s.clock.counters c is_due no_counter is_there
              (λ h. k.clock.values c h) (λ d n h. k.clock.values d h);
          left = k.clock.left;
          cycles = k.clock.cycles;
        };
      })

-- Arrivals at a count that finds MIE 1 are the admits of their tasks, and make their counters due.
pub stands_arrived : (b : Build) (lines : List ℕ) (state : State) (s : System) → length b.config.tasks ≤ task_limit → AreOwned (owners_in b.config) lines
    → Stands b state s → Stands b (state_arrive lines state) (with_admits lines s)
stands_arrived b [] state s few h k = k
stands_arrived b (l ∷ lines) state s few h k =
    stands_arrived b lines (state_arrive (l ∷ []) state) (with_arrival l s) few h.1
    (⊎_elim
    (λ (declared : l < length b.config.tasks).
    subst (Stands b (state_arrive (l ∷ []) state)) (sym (task_arrival l s (omega (arith, declared, few)))) (arrived_one b state s l k declared (omega (arith, few))))
    (λ (found : (c : ℕ) × IsCounterLine (owners_in b.config) l c).
    subst (λ x. Stands b (state_arrive (x ∷ []) state) (with_arrival x s)) (sym found.1.is)
    (subst (Stands b (state_arrive (counter_line found.0 ∷ []) state)) (sym (counter_arrival found.0 s)) (arrived_counter b state s found.0 k found.1.declared)))
    (owned_cases (owners_in b.config) l h.0))
