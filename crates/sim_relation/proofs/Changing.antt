-- A task's events, state and line change, and what runs goes on: the relation stands again.
use Rattle.std.proofs.Common.{◌≡◌, ℕ, ◌+◌, ◌<◌, ◌≤◌, List, [], ◌∷◌, length, refl, sym, ap, ◌∙◌, subst, arith, ⊎_elim, inl, inr, Bool, true, false, cond}
use Rattle.std.specs.Prelude.{◌≢◌, slice_index}
use Rattle.sloth_base.specs.Machine.{State}
use Rattle.sloth_base.specs.declared.config.Config.{Config}
use Rattle.sloth_base.specs.declared.config.TaskDecl.{TaskDecl}
use Rattle.sloth_base.specs.PriorityLevels.{level_of}
use Rattle.sloth_region.specs.Layout.{cur, below_word, active, events, wait, resume, saved_level, idle_context, context_bytes}
use Rattle.rv32_instr.specs.Ram.{word_at}
use Rattle.osek_scheduler.specs.declared.state.TaskState.{TaskState}
use Rattle.osek_scheduler.specs.declared.state.TaskState.TheVariants as mode
use Rattle.osek_scheduler.specs.State.{Frame, Task, System, task}
use Rattle.sloth_base.specs.Named.{declaration}
use Rattle.sloth_base.specs.Limits.{task_limit}
use Rattle.code_rules.specs.Code.{is_in}
use Rattle.osek_scheduler.specs.Priority.{is_active, current_priority}
use Rattle.sim_relation.specs.Build.{Build, HasFittingPlaces}
use Rattle.sim_relation.specs.Position.{Thread, thread_of, thread_at}
use Rattle.sim_relation.specs.Context.{IsContext, IsSaved, IsContextChain, RunsFirst, HasOwnContext}
use Rattle.sim_relation.specs.ServiceWords.{AreServiceWords, base_priority}
use Rattle.sim_relation.specs.Stands.{Stands, IsActiveTask, AreFalling}
use Rattle.sim_relation.specs.Framing.{AreSameBytes}
use Rattle.sim_relation.proofs.Alike.{SamePart}
use Rattle.sim_relation.specs.Changes.{changed_task, system_with_task_state, TaskChange}
use Rattle.sim_relation.proofs.ClockKept.{clock_kept}
use Rattle.sim_relation.proofs.Contexts.{passed_as, context_same, chain_kept, data_kept}
use Rattle.sim_relation.proofs.Framing.{position_task}
use Rattle.sim_relation.proofs.Parts.{by_task, each_from, service_kept, held_kept, resumes_kept}
use Rattle.sim_relation.proofs.Rebuilt.{among, rebuilt}
use Rattle.sim_relation.proofs.TaskSteps.{same_current}
use Rattle.sim_relation.proofs.Tops.{is_in-head, is_in-tail, falling_active}

-- the same but for events, and for states that are both not Active
record IsLike (old new : Task) : Type 0 where
  registers : new.registers ≡ old.registers
  frames : new.frames ≡ old.frames
  held : new.held ≡ old.held
  raised : new.raised ≡ old.raised
  owed : new.owed ≡ old.owed
  active : is_active new.state ≡ is_active old.state

active_is : (m : TaskState) → is_active m ≡ true → m ≡ mode.Active
active_is mode.Active h = refl
active_is mode.Suspended h = cc
active_is mode.Ready h = cc
active_is (mode.Waiting w) h = cc

like_active : (old new : Task) → IsLike old new → new.state ≡ mode.Active → old.state ≡ mode.Active
like_active old new l h = active_is old.state (sym l.active ∙ ap is_active h)

like_still : (old new : Task) → IsLike old new → old.state ≡ mode.Active → new.state ≡ mode.Active
like_still old new l h = active_is new.state (l.active ∙ ap is_active h)

like_priority : (config : Config) (d : TaskDecl) (old new : Task) → IsLike old new → current_priority config d new ≡ current_priority config d old
like_priority config d old new l = same_current config d old new l.held l.raised

context_like : (b : Build) (ram : List ℕ) (t : ℕ) (old new : Task) (th : Thread) (place : ℕ) → IsLike old new → IsContext b ram t old th place → IsContext b ram t new th place
context_like b ram t old new th place l k = record {
  x2 = k.x2;
  registers = λ i h. ap (λ x. slice_index x i) l.registers ∙ k.registers i h;
  position = position_task b ram t old new th place l.registers l.frames l.owed k.position;
  room = k.room;
  aligned = k.aligned;
}

saved_like : (b : Build) (ram : List ℕ) (s next : System) (t place : ℕ) → IsLike (task s t) (task next t) → IsSaved b ram s t place → IsSaved b ram next t place
saved_like b ram s next t place l k =
    let same = passed_as b (word_at ram place) (task s t) (task next t) l.owed l.frames in
    let few = k.passed in
    record {
      level = k.level ∙ sym (ap (level_of b.config) (like_priority b.config (declaration b.config t) (task s t) (task next t) l));
      current = k.current;
      context = context_like b ram t (task s t) (task next t) (thread_at ram place) (place + context_bytes) l k.context;
      passed = omega (arith, same, few);
    }

chain_like : (b : Build) (ram : List ℕ) (s next : System) → ((u : ℕ) → IsLike (task s u) (task next u)) → (stack : List ℕ) (place : ℕ)
    → IsContextChain b ram s stack place → IsContextChain b ram next stack place
chain_like b ram s next l [] place k = k
chain_like b ram s next l (t ∷ below) place k = (saved_like b ram s next t place (l t) k.0, (k.1.0, k.1.1, chain_like b ram s next l below k.1.0 k.1.2))

active_like : (b : Build) (s next : System) (t : ℕ) → IsLike (task s t) (task next t) → IsActiveTask b s t → IsActiveTask b next t
active_like b s next t l a = record { declared = a.declared; active = like_still (task s t) (task next t) l a.active }

falling_like : (b : Build) (s next : System) → ((u : ℕ) → IsLike (task s u) (task next u)) → (stack : List ℕ) → AreFalling b s stack → AreFalling b next stack
falling_like b s next l [] f = tt
falling_like b s next l (t ∷ []) f = active_like b s next t (l t) f
falling_like b s next l (t ∷ u ∷ below) f = (
  active_like b s next t (l t) f.0,
  subst (λ (v : ℕ). v < (declaration b.config t).priority) (sym (like_priority b.config (declaration b.config u) (task s u) (task next u) (l u))) f.1,
  falling_like b s next l (u ∷ below) f.2,
)

-- what runs, where the RAM behind the service words and two of these words are the same
running_like : (b : Build) (old now : State) (s next : System) → ((u : ℕ) → IsLike (task s u) (task next u)) → ((t : ℕ) → t < length b.config.tasks → 1024 ≤ b.low t)
    → now.pc ≡ old.pc → now.core.registers ≡ old.core.registers → now.core.ilevel ≡ old.core.ilevel
    → ((i : ℕ) → idle_context ≤ i → slice_index now.core.ram i ≡ slice_index old.core.ram i)
    → word_at now.core.ram cur ≡ word_at old.core.ram cur → word_at now.core.ram below_word ≡ word_at old.core.ram below_word
    → (stack : List ℕ) → ((u : ℕ) → is_in u stack ≡ true → u < length b.config.tasks) → RunsFirst b old s stack → RunsFirst b now next stack
running_like b old now s next l low p x v high current link [] inside k = record {
  level = v ∙ k.level;
  current = current ∙ k.current;
  pc = p ∙ k.pc;
  x2 = ap (λ q. slice_index q 2) x ∙ k.x2;
}
running_like b old now s next l low p x v high current link (t ∷ below) inside k =
    let from = low t (inside t (is_in-head t below)) in
    let room = k.context.room in
    record {
      level = v ∙ k.level ∙ sym (ap (level_of b.config) (like_priority b.config (declaration b.config t) (task s t) (task next t) (l t)));
      current = current ∙ k.current;
      place = k.place;
      context = context_like b now.core.ram t (task s t) (task next t) (thread_of now) k.place (l t)
          (context_same b old.core.ram now.core.ram t (task s t) (task s t) (thread_of old) (thread_of now) k.place refl
          (record { pc = p; x2 = ap (λ q. slice_index q 2) x; x = λ i a c. ap (λ q. slice_index q i) x })
          (λ i a c. high i (omega arith)) k.context);
      next = k.next;
      link = link ∙ k.link;
      chain = chain_like b now.core.ram s next l below k.next
          (chain_kept b old.core.ram now.core.ram s s (λ i a c. high i a) below k.next
          (each_from (SamePart b old.core.ram now.core.ram s s) below
          (λ u h. record { tasks = refl; bytes = λ i a c. high i (let f = low u (inside u (is_in-tail t u below h)) in omega arith) }))
          k.chain);
    }

resumes_like : (b : Build) (ram : List ℕ) (t : ℕ) (old new : Task) (a : Bool) (frames : List Frame) → new.registers ≡ old.registers
    → HasOwnContext b ram t old a frames → HasOwnContext b ram t new a frames
resumes_like b ram t old new true frames e k = k
resumes_like b ram t old new false [] e k = k
resumes_like b ram t old new false (frame ∷ outer) e k = (
  k.0,
  record {
    link = k.1.link;
    inside = k.1.inside;
    pc = k.1.pc;
    registers = λ i h. ap (λ x. slice_index x i) e ∙ k.1.registers i h;
    frames = k.1.frames;
    room = k.1.room;
    aligned = k.1.aligned;
  },
)

module _ (b : Build) (old now : State) (s : System) (k : Stands b old s) (fits : HasFittingPlaces b) (t : ℕ) (declared : t < length b.config.tasks)
    (m : TaskState) (set : ℕ) (change : TaskChange b old now s t m set) where
  abbrev own : Task
  own = changed_task s t m set

  abbrev next : System
  next = system_with_task_state s t m set

  here : t < length s.tasks
  here = among b old s t k declared

  few : t < task_limit
  few = let g = fits.few_tasks in omega arith

  own_like : IsLike (task s t) own
  own_like = record { registers = refl; frames = refl; held = refl; raised = refl; owed = refl; active = change.same_active }

  like : (u : ℕ) → IsLike (task s u) (task next u)
  like = by_task (λ u v. IsLike (task s u) v) s t own here own_like
      (λ u n. record { registers = refl; frames = refl; held = refl; raised = refl; owed = refl; active = refl })

  in_stack : (u : ℕ) → is_in u k.stack ≡ true → u < length b.config.tasks
  in_stack u h = (falling_active b s k.stack k.active.falling u h).declared

  held_word : (u : ℕ) → u < length b.config.tasks → (r : ℕ) → is_in r (task s u).held ≡ true → word_at now.core.ram (saved_level r) ≡ word_at old.core.ram (saved_level r)
  held_word u h r a =
      let g = few in
      let l = (k.tidy.each u h).few r a in
      change.named (saved_level r) (omega arith) (omega arith) (λ c. omega arith)

  part : (u : ℕ) → u < length b.config.tasks → AreSameBytes old.core.ram now.core.ram (b.low u) (b.top u)
  part u h i x y = change.high i (let f = fits.from u h in omega arith)

  own_words : AreServiceWords b now.core.ram t own
  own_words =
      let g = few in
      let w = k.words t declared in
      record {
        activity = change.named (active t) (omega arith) (omega arith) (λ c. omega arith) ∙ w.activity ∙ ap (λ (x : Bool). cond x 1 0) (sym change.same_active);
        event_mask = change.event_word;
        wait_mask = change.wait_word;
        resumption = subst (λ a. HasOwnContext b now.core.ram t own a (task s t).frames) (sym change.same_active)
            (resumes_like b now.core.ram t (task s t) own (is_active (task s t).state) (task s t).frames refl
            (resumes_kept b old.core.ram now.core.ram t (task s t) (is_active (task s t).state) (task s t).frames
            (change.named (resume t) (omega arith) (omega arith) (λ c. omega arith)) (λ a f. part t declared) w.resumption));
        held = held_kept b old.core.ram now.core.ram (base_priority b t (task s t)) (task s t).held (held_word t declared) w.held;
      }

  other_words : (u : ℕ) → u < length b.config.tasks → u ≢ t → AreServiceWords b now.core.ram u (task s u)
  other_words u h n =
      let g = few in
      let c = fits.few_tasks in
      service_kept b old.core.ram now.core.ram u (task s u)
      (change.named (active u) (omega arith) (omega arith) (λ a. omega arith))
      (change.named (events u) (omega arith) (omega arith) (λ a. n (omega arith)))
      (change.named (wait u) (omega arith) (omega arith) (λ a. omega arith))
      (change.named (resume u) (omega arith) (omega arith) (λ a. omega arith))
      (held_word u h) (λ a f. part u h) (k.words u h)

  -- the states stand
  pub change_stands : Stands b now next
  change_stands =
      let y = k.tidy.each t declared in
      rebuilt b old now s k t own s.symbols [] k.stack
      (record {
        declared = declared;
        machine = change.machine;
        code = λ i x. change.high i (let w = fits.elsewhere i (inl x) in omega arith);
        active = record {
          falling = falling_like b s next like k.stack k.active.falling;
          all = λ u h a. k.active.all u h (like_active (task s u) (task next u) (like u) a);
        };
        running = running_like b old now s next like fits.from change.pc change.registers change.level change.high
            (change.named cur (omega arith) (omega arith) (λ c. omega arith)) (let g = few in change.named below_word (omega arith) (omega arith) (λ c. omega arith))
            k.stack in_stack k.running;
        own_line = change.own_line;
        own_bit = change.own_bit;
        other_pending = change.other_pending;
        other_enabled = change.other_enabled;
        own_words = own_words;
        other_words = other_words;
        clock = clock_kept b old.core.ram now.core.ram s.clock fits (λ p from to a. let g = few in change.named p (omega arith) a (λ c. omega arith)) k.clock;
        data_stands = data_kept b old.core.ram now.core.ram s.symbols (λ i x. change.high i (let w = fits.elsewhere i (inr x) in omega arith)) k.data_stands;
        apart = λ u h n a c. k.apart t u declared h (λ e. n (sym e))
            (⊎_elim (λ (x : own.state ≡ mode.Active). inl (like_active (task s t) own own_like x)) (λ (x : own.frames ≢ []). inr x) c) a;
        tidy = record {
          registers = y.registers;
          at_rest = λ a. y.at_rest (sym change.same_active ∙ a);
          asleep = λ a. absurd (change.awake a);
          few = y.few;
        };
      })
