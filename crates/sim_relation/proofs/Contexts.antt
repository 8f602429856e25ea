-- What a task's context, and the chain of contexts, say stands as long as their bytes stay.
use Rattle.std.specs.Prelude.{slice_index}
use Rattle.std.proofs.Common.{true, ◌≡◌, ℕ, ◌+◌, ◌*◌, ◌≤◌, List, [], ◌∷◌, refl, sym, ap, ◌∙◌, subst, arith, cond}
use Rattle.sloth_region.specs.Layout.{idle_context}
use Rattle.rv32_instr.specs.Ram.{word_at}
use Rattle.osek_scheduler.specs.State.{Task, System, task}
use Rattle.sloth_base.specs.Named.{declaration}
use Rattle.osek_scheduler.specs.Priority.{current_priority}
use Rattle.sloth_base.specs.PriorityLevels.{level_of}
use Rattle.sim_relation.specs.Build.{Build}
use Rattle.sim_relation.specs.Position.{Thread, thread_at}
use Rattle.sim_relation.specs.Context.{IsContext, IsSaved, IsContextChain}
use Rattle.sim_relation.specs.Progress.{passed_count_in, passed_count_of}
use Rattle.sim_relation.specs.DataStands.{DataStands}
use Rattle.sim_relation.specs.Framing.{AreSameBytes, IsSameIdle}
use Rattle.sim_relation.proofs.Alike.{SameThread, SamePart}
use Rattle.std.specs.List.{AllByRecursion}
use Rattle.sim_relation.proofs.Framing.{word_kept, position_kept, position_below}

-- what a task has passed is read off its frames, and off whether it owes the way back
pub passed_as : (b : Build) (pc : ℕ) (old new : Task) → new.owed ≡ old.owed → new.frames ≡ old.frames → passed_count_of b.app b.places pc new ≡ passed_count_of b.app b.places pc old
passed_as b pc old new owed frames =
    ap {B = ℕ} (λ o. cond o 0 (passed_count_in b.app b.places pc new.frames)) owed ∙ ap {B = ℕ} (λ f. cond old.owed 0 (passed_count_in b.app b.places pc f)) frames

-- a context lies below the top of its task's part of the stacks
pub context_below : (b : Build) (ram : List ℕ) (t : ℕ) (own : Task) (th : Thread) (place : ℕ) → IsContext b ram t own th place → place ≤ b.top t
context_below b ram t own th place k = position_below b ram t own th place k.position

-- a context stands where its task, its thread and its bytes are the same
pub context_same : (b : Build) (old new : List ℕ) (t : ℕ) (own next : Task) (th now : Thread) (place : ℕ)
    → next ≡ own → SameThread th now → AreSameBytes old new place (b.top t) → IsContext b old t own th place → IsContext b new t next now place
context_same b old new t own next th now place e s g k =
    subst (λ v. IsContext b new t v now place) (sym e)
    (record {
      x2 = s.x2 ∙ k.x2;
      registers = λ i l. k.registers i l ∙ sym (s.x (i + 5) (omega arith) (omega arith));
      position = position_kept b old new t own th now place
          (record { pc = s.pc; x30 = s.x 30 (omega arith) (omega arith); x31 = s.x 31 (omega arith) (omega arith) })
          g k.position;
      room = k.room;
      aligned = k.aligned;
    })

-- the thread of a saved context
pub saved_same : (old new : List ℕ) (place : ℕ) → AreSameBytes old new place (place + 128) → SameThread (thread_at old place) (thread_at new place)
saved_same old new place a = record {
  pc = word_kept old new place (place + 128) place a (omega arith) (omega arith);
  x2 = refl;
  x = λ i l h. word_kept old new place (place + 128) (place + 4 * i) a (omega arith) (omega arith);
}

-- the same of the context of a task below another, and its thread as the context has it
pub context_kept : (b : Build) (old new : List ℕ) (s next : System) (t place : ℕ) → SamePart b old new s next t
    → IsContext b old t (task s t) (thread_at old place) (place + 128) → IsContext b new t (task next t) (thread_at new place) (place + 128)
context_kept b old new s next t place p k =
    let low = k.room in
    let top = context_below b old t (task s t) (thread_at old place) (place + 128) k in
    context_same b old new t (task s t) (task next t) (thread_at old place) (thread_at new place) (place + 128) p.tasks
    (saved_same old new place (λ i l h. p.bytes i (omega arith) (omega arith)))
    (λ i l h. p.bytes i (omega arith) (omega arith)) k

-- and so does a context that is saved, or none
pub saved_kept : (b : Build) (old new : List ℕ) (s next : System) (t place : ℕ) → SamePart b old new s next t → IsSaved b old s t place → IsSaved b new next t place
saved_kept b old new s next t place p k =
    let low = k.context.room in
    let top = context_below b old t (task s t) (thread_at old place) (place + 128) k.context in
    let e4 = word_kept old new (b.low t) (b.top t) (place + 4) p.bytes (omega arith) (omega arith) in
    let e8 = word_kept old new (b.low t) (b.top t) (place + 8) p.bytes (omega arith) (omega arith) in
    let e0 = word_kept old new (b.low t) (b.top t) place p.bytes (omega arith) (omega arith) in
    let same : passed_count_of b.app b.places (word_at new place) (task next t) ≡ passed_count_of b.app b.places (word_at old place) (task s t) =
    ap (λ v. passed_count_of b.app b.places v (task next t)) e0 ∙ ap (passed_count_of b.app b.places (word_at old place)) p.tasks in
    let few = k.passed in
    record {
      level = e4 ∙ k.level ∙ sym (ap (λ v. level_of b.config (current_priority b.config (declaration b.config t) v)) p.tasks);
      current = e8 ∙ k.current;
      context = context_kept b old new s next t place p k.context;
      passed = omega (arith, same, few);
    }

-- the chain stands as long as each task's part does, and the idle loop's context
pub chain_kept : (b : Build) (old new : List ℕ) (s next : System) → IsSameIdle old new → (stack : List ℕ) (place : ℕ)
    → AllByRecursion (SamePart b old new s next) stack → IsContextChain b old s stack place → IsContextChain b new next stack place
chain_kept b old new s next idle [] place e k = record {
  is = k.is;
  pc = word_kept old new idle_context (idle_context + 12) idle_context idle (omega arith) (omega arith) ∙ k.pc;
  level = word_kept old new idle_context (idle_context + 12) (idle_context + 4) idle (omega arith) (omega arith) ∙ k.level;
  current = word_kept old new idle_context (idle_context + 12) (idle_context + 8) idle (omega arith) (omega arith) ∙ k.current;
}
chain_kept b old new s next idle (t ∷ below) place e k =
    let low = k.0.context.room in
    let top = context_below b old t (task s t) (thread_at old place) (place + 128) k.0.context in (
      saved_kept b old new s next t place e.0 k.0,
      (
        k.1.0,
        word_kept old new (b.low t) (b.top t) (place + 12) e.0.bytes (omega arith) (omega arith) ∙ k.1.1,
        chain_kept b old new s next idle below k.1.0 e.1 k.1.2,
      ),
    )

pub data_kept : (b : Build) (old new : List ℕ) (symbols : List (List ℕ)) → ((i : ℕ) → b.is_data i ≡ true → slice_index new i ≡ slice_index old i)
    → DataStands b old symbols → DataStands b new symbols
data_kept b old new symbols a d y k l = let w = d y k l in record { from = w.from; is_data = w.is_data; holds = a _ w.is_data ∙ w.holds }
