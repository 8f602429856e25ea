-- The entry of a task: where it leaves the machine so, the relation stands again.
use Rattle.std.proofs.Common.{◌≡◌, ℕ, ◌+◌, ◌<◌, ◌≤◌, List, [], ◌∷◌, length, sym, ap, ◌∙◌, subst, arith, ⊎_elim, inl, inr, true, false, cond, max, Some, eqb}
use Rattle.std.specs.Prelude.{◌≢◌, slice_index}
use Rattle.std.proofs.lemmas.Bool.{cases_Bool, ne_eqb}
use Rattle.std.proofs.lemmas.List.{get_or-set_other, length-set, get_or-set_same}
use Rattle.sloth_base.specs.Machine.{State}
use Rattle.sloth_base.specs.Choose.{choose}
use Rattle.sloth_region.specs.Layout.{cur, events, wait, idle_context}
use Rattle.rv32_instr.specs.Ram.{word_at}
use Rattle.osek_scheduler.specs.declared.state.TaskState.{TaskState}
use Rattle.osek_scheduler.specs.declared.state.TaskState.TheVariants as mode
use Rattle.osek_scheduler.specs.State.{Task, System, task, with_task}
use Rattle.sloth_base.specs.Named.{declaration}
use Rattle.code_rules.specs.Code.{is_in}
use Rattle.osek_scheduler.specs.Priority.{is_active, highest_priority, current_priority}
use Rattle.osek_scheduler.specs.Steps.{settled_state}
use Rattle.sloth_base.specs.PriorityLevels.{level_of}
use Rattle.sloth_base.specs.Limits.{task_limit}
use Rattle.sloth_base.specs.MemoryMap.{line_count}
use Rattle.sim_relation.specs.Build.{Build, HasFittingPlaces, IsElsewhere}
use Rattle.sim_relation.specs.Position.{thread_of, thread_at}
use Rattle.sim_relation.specs.Context.{IsContext, IsContextChain, RunsFirst, RunsTask}
use Rattle.sim_relation.specs.Progress.{passed_count_of, HasPassed}
use Rattle.sim_relation.specs.ServiceWords.{AreServiceWords, AreHeldWords, IsWaitWord, active_word}
use Rattle.sim_relation.specs.Stands.{Stands, AreFalling, AreLineBytes, IsAlive, IsTidyTask}
use Rattle.sim_relation.specs.Framing.{AreSameBytes, AreOtherWordsSame}
use Rattle.sim_relation.proofs.Alike.{SameThread, SamePart}
use Rattle.sim_relation.specs.Entry.{TaskEntry}
use Rattle.sim_relation.specs.Moves.{WholeMachine}
use Rattle.sim_relation.proofs.ClockKept.{clock_named}
use Rattle.sim_relation.proofs.Contexts.{context_same, chain_kept, data_kept}
use Rattle.sim_relation.proofs.Parts.{other_task, this_task, by_task, falling_kept, each_from}
use Rattle.sim_relation.proofs.Rebuilt.{other_kept, among, rebuilt}
use Rattle.sim_relation.proofs.Tops.{falling_head, falling_active, below_other, is_in-head, is_in-tail}
use Rattle.sim_relation.proofs.Choice.{taken_ready, taken_above}
use Rattle.sim_relation.proofs.TaskSteps.{resumes_active}
use Rattle.sim_relation.proofs.Fresh.{start_priority, falling_cons}
use Rattle.sim_relation.proofs.Spot.{is_first, is_first_in, Spot, spot}

enabled_ready : (m : TaskState) (p e : ℕ) → m ≡ mode.Ready → AreLineBytes m p e → e ≡ 1
enabled_ready mode.Ready p e q h = h.1
enabled_ready mode.Suspended p e q h = cc
enabled_ready mode.Active p e q h = cc
enabled_ready (mode.Waiting v) p e q h = cc

not_first : (b : Build) (s : System) (t : ℕ) (below : List ℕ) → AreFalling b s (t ∷ below) → (u : ℕ) → is_in u below ≡ true → eqb t u ≡ false
not_first b s t below f u h = ne_eqb t u (λ e. below_other b s t below f u h (sym e))

module _ (b : Build) (old now : State) (s : System) (k : Stands b old s) (fits : HasFittingPlaces b) (t : ℕ) (declared : t < length b.config.tasks) (e : choose old.core ≡ Some t)
    (own : Task) (place : ℕ) (ran : HasPassed b old s) (entry : TaskEntry b old now s t own place) where
  few : length b.config.tasks ≤ line_count
  few = let f = fits.few_tasks in omega arith

  ready : (task s t).state ≡ mode.Ready
  ready = taken_ready b old s k few t declared e

  few30 : t < task_limit
  few30 = let g = fits.few_tasks in let l = declared in omega arith

  abbrev next : System
  next = settled_state (with_task s t own)

  here_now : t < length s.tasks
  here_now = among b old s t k declared

  not_t : (u : ℕ) → (task s u).state ≡ mode.Active → u ≢ t
  not_t u a h = let r = ready in let c : (task s t).state ≡ mode.Active = subst (λ x. (task s x).state ≡ mode.Active) h a in cc

  in_stack : (u : ℕ) → is_in u k.stack ≡ true → task next u ≡ task s u
  in_stack u h = other_task s t u own (not_t u (falling_active b s k.stack k.active.falling u h).active)

  place_is : Spot b s k.stack place
  place_is = spot b old s k.stack place fits k.apart k.active.falling entry.x2 k.running

  -- a task of another state than Active is not the preempted one
  off_first : (u : ℕ) → ((task s u).state ≡ mode.Active → ⊥) → is_first k.stack u ≡ false
  off_first u h =
      ⊎_elim
      (λ (a : is_first k.stack u ≡ true). absurd (h (falling_active b s k.stack k.active.falling u (is_first_in k.stack u a)).active))
      (λ (a : is_first k.stack u ≡ false). a)
      (cases_Bool (is_first k.stack u))

  abbrev old_ram : List ℕ
  old_ram = old.core.ram

  abbrev new_ram : List ℕ
  new_ram = now.core.ram

  -- a task that is neither this one nor the preempted one keeps its stack
  part : (u : ℕ) → u < length b.config.tasks → u ≢ t → IsAlive (task s u) → is_first k.stack u ≡ false → AreSameBytes old_ram new_ram (b.low u) (b.top u)
  part u l n a f i x h =
      let v = fits.from u l in
      entry.ram.outside i (omega arith)
      (⊎_elim (λ (y : b.top u ≤ place). inl (omega arith)) (λ (y : place + 128 ≤ b.low u). inr (omega arith)) (place_is.apart u l a f))
      (⊎_elim (λ (y : b.top t ≤ b.low u). inr (omega arith)) (λ (y : b.top u ≤ b.low t). inl (omega arith)) (entry.apart u l n a))

  -- code and data
  elsewhere_kept : (i : ℕ) → IsElsewhere b i → slice_index new_ram i ≡ slice_index old_ram i
  elsewhere_kept i g = entry.ram.outside i (let w = fits.elsewhere i g in omega arith) (place_is.clear i g) (fits.outside t i declared g)

  -- ---- the chain behind the task

  same_thread : word_at old_ram cur ≢ 0 → SameThread (thread_of old) (thread_at new_ram place)
  same_thread some = record { pc = entry.ram.pc_word; x2 = sym entry.x2; x = entry.ram.register_words some }

  chain_of : (stack : List ℕ) → AreFalling b s stack → ((u : ℕ) → is_in u stack ≡ true → task next u ≡ task s u)
      → ((u : ℕ) → u < length b.config.tasks → u ≢ t → IsAlive (task s u) → is_first stack u ≡ false → AreSameBytes old_ram new_ram (b.low u) (b.top u))
      → RunsFirst b old s stack → IsContextChain b new_ram next stack place
  chain_of [] fl same pt run =
      let x = run.x2 in
      let y = entry.x2 in
      let p : place ≡ idle_context = omega arith in
      record {
        is = p;
        pc = ap (word_at new_ram) (sym p) ∙ entry.ram.pc_word ∙ run.pc;
        level = ap (λ j. word_at new_ram (j + 4)) (sym p) ∙ entry.ram.level_word ∙ run.level;
        current = ap (λ j. word_at new_ram (j + 8)) (sym p) ∙ entry.ram.current_word ∙ run.current;
      }
  chain_of (a ∷ below) fl same pt run =
      let here = falling_head b s a below fl in
      let same_a = same a (is_in-head a below) in
      let frame : run.place ≡ place + 128 = let x = run.context.x2 in let y = entry.x2 in omega arith in
      let low = run.context.room in
      let v = fits.from a here.declared in
      let n = not_t a here.active in
      let least = ran a run.current in
      let left : passed_count_of b.app b.places (word_at new_ram place) (task next a) ≡ passed_count_of b.app b.places old.pc (task s a) =
      ap (λ v. passed_count_of b.app b.places v (task next a)) entry.ram.pc_word ∙ ap (passed_count_of b.app b.places old.pc) same_a in (
        record {
          level = entry.ram.level_word ∙ run.level ∙ sym (ap (λ x. level_of b.config (current_priority b.config (declaration b.config a) x)) same_a);
          current = entry.ram.current_word ∙ run.current;
          context = subst (λ p. IsContext b new_ram a (task next a) (thread_at new_ram place) p) frame
              (context_same b old_ram new_ram a (task s a) (task next a) (thread_of old) (thread_at new_ram place) run.place same_a
              (same_thread (λ z. let c = run.current in absurd (omega (arith, z, c))))
              (λ i x y. entry.ram.outside i (omega arith) (inr (omega arith))
              (⊎_elim (λ (h : b.top t ≤ b.low a). inr (omega arith)) (λ (h : b.top a ≤ b.low t). inl (omega arith)) (entry.apart a here.declared n (inl here.active))))
              run.context);
          passed = omega (arith, least, left);
        },
        (
          run.next,
          entry.ram.link_word ∙ run.link,
          chain_kept b old_ram new_ram s next
              (λ i x y. let u = fits.from t declared in
              entry.ram.outside i x (inl (let c = beyond in omega arith)) (inl (omega arith)))
              below run.next
              (each_from (SamePart b old_ram new_ram s next) below
              (λ u h.
              let in_all = is_in-tail a u below h in
              let act = falling_active b s (a ∷ below) fl u in_all in
              record { tasks = same u in_all; bytes = pt u act.declared (not_t u act.active) (inl act.active) (not_first b s a below fl u h) }))
              run.chain,
        ),
      )
    where
      beyond : 1024 ≤ place
      beyond =
          let x = run.context.x2 in
          let y = entry.x2 in
          let low = run.context.room in
          let v = fits.from a (falling_head b s a below fl).declared in
          omega arith

  held_nil : (task s t).held ≡ []
  held_nil = ((k.tidy.each t declared).at_rest (ap is_active ready)).0

  this : task next t ≡ own
  this = this_task s t own here_now

  runs : RunsTask b now next t k.stack
  runs = record {
    level = entry.machine.level ∙ sym (ap (level_of b.config) (start_priority b.config t own (entry.held ∙ held_nil) entry.raised))
        ∙ sym (ap (λ x. level_of b.config (current_priority b.config (declaration b.config t) x)) this);
    current = entry.ram.current;
    place = entry.frame;
    context = subst (λ x. IsContext b new_ram t x (thread_of now) entry.frame) (sym this) entry.context;
    next = place;
    link = entry.ram.link;
    chain = chain_of k.stack k.active.falling in_stack part k.running;
  }

  -- ---- the rest

  own_line : AreLineBytes own.state (slice_index now.core.pending t) (slice_index now.core.enabled t)
  own_line = subst (λ a. AreLineBytes a (slice_index now.core.pending t) (slice_index now.core.enabled t)) (sym entry.state)
      (ap (λ l. slice_index l t) entry.machine.enabled
      ∙ enabled_ready (task s t).state (slice_index old.core.pending t) (slice_index old.core.enabled t) ready (k.lines.each t declared))

  own_bit : slice_index now.core.pending t < 2
  own_bit =
      let f = k.fixed.pending in
      let g = few30 in
      let zero = ap (λ q. slice_index q t) entry.machine.pending ∙ get_or-set_same old.core.pending t 0 0 (omega arith) in
      omega arith

  all : (u : ℕ) → u < length b.config.tasks → (task next u).state ≡ mode.Active → is_in u (t ∷ k.stack) ≡ true
  all = by_task (λ u x. u < length b.config.tasks → x.state ≡ mode.Active → is_in u (t ∷ k.stack) ≡ true) s t own here_now
      (λ h a. is_in-head t k.stack) (λ u n h a. is_in-tail t u k.stack (k.active.all u h a))

  named : AreOtherWordsSame old_ram new_ram t
  named p h a n0 n1 n2 n3 n4 n5 = entry.ram.named p h a n0 n1 n2 n5

  own_words : AreServiceWords b new_ram t own
  own_words =
      let v = k.words t declared in
      let g = few30 in
      record {
        activity = entry.ram.activity ∙ sym (ap active_word entry.state);
        event_mask = entry.ram.named (events t) (omega arith) (omega arith) (omega arith) (λ a. omega arith) (λ a. omega arith) (λ a. omega arith) ∙ v.event_mask ∙ sym entry.events;
        wait_mask = subst (λ a. IsWaitWord a (word_at new_ram (wait t))) (sym entry.state) tt;
        resumption = resumes_active b new_ram t own (is_active own.state) own.frames (ap is_active entry.state) entry.ram.resumption;
        held = subst (λ x. AreHeldWords b new_ram (max (declaration b.config t).priority (cond own.raised (highest_priority b.config) 0)) x) (sym (entry.held ∙ held_nil)) tt;
      }

  tidy : IsTidyTask own
  tidy = record {
    registers = entry.registers;
    at_rest = λ a. let c = ap is_active entry.state in cc;
    asleep = λ a. let c = entry.state in cc;
    few = λ x a. (k.tidy.each t declared).few x (subst (λ l. is_in x l ≡ true) entry.held a);
  }

  whole : WholeMachine old now
  whole =
      let m = entry.machine in
      record {
        ram = entry.ram.long ∙ sym k.fixed.ram;
        registers = m.registers;
        zero = m.zero;
        pending = ap length m.pending ∙ length-set old.core.pending t 0;
        enabled = ap length m.enabled;
        levels = m.levels;
        controller = m.controller;
        open_to_lines = m.open_to_lines;
        previous = m.previous;
        same_level = m.same_level;
        bases = m.bases;
      }

  -- the states stand
  pub entry_stands : Stands b now next
  entry_stands = rebuilt b old now s k t own s.symbols [] (t ∷ k.stack)
      (record {
        declared = declared;
        machine = whole;
        code = λ i x. elsewhere_kept i (inl x);
        active = record {
          falling = falling_cons b next t k.stack (record { declared = declared; active = ap (λ x. x.state) this ∙ entry.state })
              (λ u h. subst (λ x. current_priority b.config (declaration b.config u) x < (declaration b.config t).priority) (sym (in_stack u h)) (taken_above b old s k few t declared e u h))
              (falling_kept b s next k.stack in_stack k.active.falling);
          all = all;
        };
        running = runs;
        own_line = own_line;
        own_bit = own_bit;
        other_pending = λ l m. ap (λ q. slice_index q l) entry.machine.pending ∙ get_or-set_other old.core.pending t l 0 0 m;
        other_enabled = λ l m. ap (λ q. slice_index q l) entry.machine.enabled;
        own_words = own_words;
        other_words = λ u h m. other_kept b old_ram new_ram s t u fits declared h m (k.tidy.each u h) named
            (λ a f. part u h m (inr f) (off_first u (λ x. let y = ap is_active x in cc))) (k.words u h);
        clock = clock_named b old_ram new_ram s.clock t fits declared named k.clock;
        data_stands = data_kept b old_ram new_ram s.symbols (λ i x. elsewhere_kept i (inr x)) k.data_stands;
        apart = λ u h m a c. entry.apart u h m a;
        tidy = tidy;
      })
