-- Where scratch registers, the words of the clock and the lines of counters have changed alone, the relation stands.
use Rattle.std.proofs.Common.{◌≡◌, ℕ, ◌%◌, ◌<◌, ◌≤◌, List, [], ◌∷◌, length, refl, ◌∙◌, arith, inl, inr, true}
use Rattle.std.specs.Prelude.{slice_index}
use Rattle.sloth_base.specs.Machine.{State}
use Rattle.sloth_region.specs.Layout.{cur, below_word, active, events, wait, resume, saved_level, idle_context}
use Rattle.rv32_instr.specs.Ram.{word_at}
use Rattle.osek_scheduler.specs.State.{Clock, System, task}
use Rattle.code_rules.specs.Code.{is_in}
use Rattle.sim_relation.specs.Build.{Build, HasFittingPlaces}
use Rattle.sim_relation.specs.ClockStands.{CountersStand, ClockStands, IsBesideClock}
use Rattle.sim_relation.specs.Position.{thread_of}
use Rattle.sim_relation.specs.Context.{RunsFirst}
use Rattle.sim_relation.specs.ServiceWords.{AreServiceWords}
use Rattle.sim_relation.specs.Stands.{Stands}
use Rattle.sim_relation.proofs.Alike.{SamePart}
use Rattle.sim_relation.specs.Moves.{WholeMachine}
use Rattle.sim_relation.proofs.Aside.{timed_system, aside}
use Rattle.sim_relation.proofs.Contexts.{context_same, chain_kept, data_kept}
use Rattle.sim_relation.proofs.Parts.{each_from, service_kept}
use Rattle.sim_relation.proofs.Tops.{is_in-head, is_in-tail, falling_active}

-- what stays beside them
pub record IsBeside (b : Build) (old now : State) : Type 0 where
  pub machine : WholeMachine old now
  pub pc : now.pc ≡ old.pc
  pub x2 : slice_index now.core.registers 2 ≡ slice_index old.core.registers 2
  pub x : (i : ℕ) → 5 ≤ i → slice_index now.core.registers i ≡ slice_index old.core.registers i
  pub level : now.core.ilevel ≡ old.core.ilevel
  pub pending : (t : ℕ) → t < length b.config.tasks → slice_index now.core.pending t ≡ slice_index old.core.pending t
  pub enabled : now.core.enabled ≡ old.core.enabled
  pub high : (i : ℕ) → idle_context ≤ i → slice_index now.core.ram i ≡ slice_index old.core.ram i
  pub named : (p : ℕ) → p % 4 ≡ 0 → IsBesideClock p → word_at now.core.ram p ≡ word_at old.core.ram p

module _ (b : Build) (old now : State) (s : System) (k : Stands b old s) (fits : HasFittingPlaces b) (m : IsBeside b old now) where
  in_stack : (u : ℕ) → is_in u k.stack ≡ true → u < length b.config.tasks
  in_stack u h = (falling_active b s k.stack k.active.falling u h).declared

  running : (stack : List ℕ) → ((u : ℕ) → is_in u stack ≡ true → u < length b.config.tasks) → RunsFirst b old s stack → RunsFirst b now s stack
  running [] inside r = record {
    level = m.level ∙ r.level;
    current = m.named cur (omega arith) (inl (omega arith)) ∙ r.current;
    pc = m.pc ∙ r.pc;
    x2 = m.x2 ∙ r.x2;
  }
  running (t ∷ below) inside r =
      let from = fits.from t (inside t (is_in-head t below)) in
      let room = r.context.room in
      record {
        level = m.level ∙ r.level;
        current = m.named cur (omega arith) (inl (omega arith)) ∙ r.current;
        place = r.place;
        context = context_same b old.core.ram now.core.ram t (task s t) (task s t) (thread_of old) (thread_of now) r.place refl
            (record { pc = m.pc; x2 = m.x2; x = λ i a c. m.x i a })
            (λ i a c. m.high i (omega arith)) r.context;
        next = r.next;
        link = m.named below_word (omega arith) (inr (omega arith)) ∙ r.link;
        chain = chain_kept b old.core.ram now.core.ram s s (λ i a c. m.high i a) below r.next
            (each_from (SamePart b old.core.ram now.core.ram s s) below
            (λ u h. record { tasks = refl; bytes = λ i a c. m.high i (let f = fits.from u (inside u (is_in-tail t u below h)) in omega arith) }))
            r.chain;
      }

  words : (t : ℕ) → t < length b.config.tasks → AreServiceWords b now.core.ram t (task s t)
  words t h =
      let few = fits.few_tasks in
      service_kept b old.core.ram now.core.ram t (task s t)
      (m.named (active t) (omega arith) (inl (omega arith)))
      (m.named (events t) (omega arith) (inl (omega arith)))
      (m.named (wait t) (omega arith) (inl (omega arith)))
      (m.named (resume t) (omega arith) (inr (omega arith)))
      (λ r i. m.named (saved_level r) (omega arith) (inr (omega arith)))
      (λ a f i x y. m.high i (let g = fits.from t h in omega arith))
      (k.words t h)

  -- the relation stands with this clock
  pub beside : (clock : Clock) (fresh : List ℕ) → CountersStand b.config now.core clock → ClockStands b.config now.core.ram clock → Stands b now (timed_system s clock fresh)
  beside clock fresh counters clock_stands =
      aside b old now s k clock fresh
      (record {
        machine = m.machine;
        code = λ i x. m.high i (let w = fits.elsewhere i (inl x) in omega arith);
        running = running k.stack in_stack k.running;
        pending = m.pending;
        enabled = m.enabled;
        words = words;
        data_stands = data_kept b old.core.ram now.core.ram s.symbols (λ i x. m.high i (let w = fits.elsewhere i (inr x) in omega arith)) k.data_stands;
        counters = counters;
        clock_stands = clock_stands;
      })
