-- Where one task's record has changed, the relation stands again: from what has changed beside it.
use Rattle.std.proofs.Common.{◌≡◌, ℕ, ◌<◌, ◌≤◌, List, [], ◌∷◌, length, sym, ap, ◌∙◌, subst, arith, ⊎_elim, inl, inr, true, false}
use Rattle.std.specs.Prelude.{◌≢◌, slice_index}
use Rattle.std.proofs.lemmas.Bool.{cases_eq}
use Rattle.std.proofs.lemmas.List.{length-set}
use Rattle.sloth_base.specs.Machine.{State}
use Rattle.sloth_base.specs.Owners.{owners_in, counter_line}
use Rattle.sloth_base.proofs.Owners.{unused_behind}
use Rattle.sloth_region.specs.Layout.{active, events, wait, resume, saved_level}
use Rattle.osek_scheduler.specs.State.{Task, System, task}
use Rattle.code_rules.specs.Code.{is_in}
use Rattle.osek_scheduler.specs.Priority.{is_active}
use Rattle.sim_relation.specs.Build.{Build, HasFittingPlaces}
use Rattle.sim_relation.specs.Context.{RunsFirst}
use Rattle.sim_relation.specs.ServiceWords.{AreServiceWords}
use Rattle.sim_relation.specs.ClockStands.{ClockStands}
use Rattle.sim_relation.specs.DataStands.{DataStands}
use Rattle.sim_relation.specs.Stands.{Stands, AreFalling, AreActive, AreLineBytes, IsAlive, AreStacksApart, IsTidyTask, IsFixed}
use Rattle.sim_relation.specs.Framing.{AreSameBytes, AreOtherWordsSame}
use Rattle.sim_relation.proofs.Alike.{SamePart}
use Rattle.sim_relation.specs.Moves.{changed_system, moved_system, WholeMachine, AreOthersSame}
use Rattle.sim_relation.proofs.ClockKept.{line_stands, no_task}
use Rattle.sim_relation.proofs.Parts.{other_task, by_task, line_same, service_kept}
use Rattle.sim_relation.proofs.Tops.{falling_active, below_other, is_in-tail}

-- ---- the other tasks

-- those below the running one keep their records and stacks
pub below_parts : (b : Build) (old new : List ℕ) (s : System) (t : ℕ) (below : List ℕ) (own : Task) (symbols : List (List ℕ)) → AreFalling b s (t ∷ below)
    → AreOthersSame b old new s t → (u : ℕ) → is_in u below ≡ true → SamePart b old new s (moved_system s t own symbols) u
below_parts b old new s t below own symbols f kept u h =
    let a = falling_active b s (t ∷ below) f u (is_in-tail t u below h) in
    let n = below_other b s t below f u h in
    record { tasks = other_task s t u own n; bytes = kept u a.declared n (inl a.active) }

-- a task keeps its service words, where of those only another task's have changed
pub other_kept : (b : Build) (old new : List ℕ) (s : System) (t u : ℕ) → HasFittingPlaces b → t < length b.config.tasks → u < length b.config.tasks → u ≢ t → IsTidyTask (task s u)
    → AreOtherWordsSame old new t → (is_active (task s u).state ≡ false → (task s u).frames ≢ [] → AreSameBytes old new (b.low u) (b.top u))
    → AreServiceWords b old u (task s u) → AreServiceWords b new u (task s u)
other_kept b old new s t u fits declared h n tidy named stack k =
    let c = fits.few_tasks in
    service_kept b old new u (task s u)
    (named (active u) (omega arith) (omega arith) (omega arith) (λ a. omega arith) (λ a. n (omega arith)) (λ a. omega arith) (λ a. omega arith) (λ a. omega arith))
    (named (events u) (omega arith) (omega arith) (omega arith) (λ a. omega arith) (λ a. omega arith) (λ a. n (omega arith)) (λ a. omega arith) (λ a. omega arith))
    (named (wait u) (omega arith) (omega arith) (omega arith) (λ a. omega arith) (λ a. omega arith) (λ a. omega arith) (λ a. n (omega arith)) (λ a. omega arith))
    (named (resume u) (omega arith) (omega arith) (omega arith) (λ a. omega arith) (λ a. omega arith) (λ a. omega arith) (λ a. omega arith) (λ a. n (omega arith)))
    (λ r i.
    let l = tidy.few r i in
    named (saved_level r) (omega arith) (omega arith) (omega arith) (λ a. omega arith) (λ a. omega arith) (λ a. omega arith) (λ a. omega arith) (λ a. omega arith))
    stack k

-- ---- the relation

-- a task that is declared has a record
pub among : (b : Build) (state : State) (s : System) (t : ℕ) → Stands b state s → t < length b.config.tasks → t < length s.tasks
among b state s t k h = let v = k.tidy.tasks in omega arith

-- Task t has this record now, and these are the Active tasks: all that the relation says of either, and that the rest has stayed.
pub record Rebuilds (b : Build) (old now : State) (s : System) (t : ℕ) (own : Task) (symbols : List (List ℕ)) (fresh stack : List ℕ) : Type 0 where
  pub declared : t < length b.config.tasks
  pub machine : WholeMachine old now
  pub code : (i : ℕ) → b.is_code i ≡ true → slice_index now.core.ram i ≡ slice_index old.core.ram i
  -- the Active tasks
  pub active : AreActive b (changed_system s t own symbols fresh) stack
  pub running : RunsFirst b now (changed_system s t own symbols fresh) stack
  -- the lines
  pub own_line : AreLineBytes own.state (slice_index now.core.pending t) (slice_index now.core.enabled t)
  pub own_bit : slice_index now.core.pending t < 2
  pub other_pending : (line : ℕ) → line ≢ t → slice_index now.core.pending line ≡ slice_index old.core.pending line
  pub other_enabled : (line : ℕ) → line ≢ t → slice_index now.core.enabled line ≡ slice_index old.core.enabled line
  -- RAM
  pub own_words : AreServiceWords b now.core.ram t own
  pub other_words : (u : ℕ) → u < length b.config.tasks → u ≢ t → AreServiceWords b now.core.ram u (task s u)
  pub clock : ClockStands b.config now.core.ram s.clock
  pub data_stands : DataStands b now.core.ram symbols
  pub apart : (u : ℕ) → u < length b.config.tasks → u ≢ t → IsAlive (task s u) → IsAlive own → AreStacksApart b t u
  -- the task
  pub tidy : IsTidyTask own

-- sizes, code and what never changes
pub fixed_kept : (b : Build) (old now : State) → WholeMachine old now → ((i : ℕ) → b.is_code i ≡ true → slice_index now.core.ram i ≡ slice_index old.core.ram i)
    → IsFixed b old.core → IsFixed b now.core
fixed_kept b old now m code f = record {
  open_to_lines = m.open_to_lines;
  previous = m.previous;
  same_level = m.same_level;
  bases = m.bases;
  controller = m.controller ∙ f.controller;
  registers = m.registers ∙ f.registers;
  zero = m.zero ∙ f.zero;
  pending = m.pending ∙ f.pending;
  enabled = m.enabled ∙ f.enabled;
  levels = ap length m.levels ∙ f.levels;
  ram = m.ram ∙ f.ram;
  code = λ i x. code i x ∙ f.code i x;
}

swapped : (b : Build) (t u : ℕ) → AreStacksApart b t u → AreStacksApart b u t
swapped b t u h = ⊎_elim (λ (y : b.top t ≤ b.low u). inr y) (λ (y : b.top u ≤ b.low t). inl y) h

module _ (b : Build) (old now : State) (s : System) (k : Stands b old s) (t : ℕ) (own : Task) (symbols : List (List ℕ)) (fresh stack : List ℕ)
    (r : Rebuilds b old now s t own symbols fresh stack) where
  abbrev next : System
  next = changed_system s t own symbols fresh

  here : t < length s.tasks
  here = among b old s t k r.declared

  was_alive : (u : ℕ) → u ≢ t → IsAlive (task next u) → IsAlive (task s u)
  was_alive u n a = subst IsAlive (other_task s t u own n) a

  apart : (x u : ℕ) → x < length b.config.tasks → u < length b.config.tasks → x ≢ u → IsAlive (task next x) → IsAlive (task next u) → AreStacksApart b x u
  apart = by_task (λ x v. (u : ℕ) → x < length b.config.tasks → u < length b.config.tasks → x ≢ u → IsAlive v → IsAlive (task next u) → AreStacksApart b x u) s t own here
      (λ u h l n a c. r.apart u l (λ z. n (sym z)) (was_alive u (λ z. n (sym z)) c) a)
      (λ x m u h l n a. by_task (λ u v. u < length b.config.tasks → x ≢ u → IsAlive v → AreStacksApart b x u) s t own here
      (λ i z c. swapped b t x (r.apart x h m a c))
      (λ v o i z c. k.apart x v h i z a c) u l n)

  -- the relation, from its parts
  pub rebuilt : Stands b now next
  rebuilt = record {
    stack = stack;
    active = r.active;
    lines = record {
      each = by_task (λ u v. u < length b.config.tasks → AreLineBytes v.state (slice_index now.core.pending u) (slice_index now.core.enabled u)) s t own here
          (λ h. r.own_line)
          (λ u m h. line_same (task s u).state (slice_index old.core.pending u) (slice_index now.core.pending u) (slice_index old.core.enabled u)
          (slice_index now.core.enabled u) (r.other_pending u m) (r.other_enabled u m) (k.lines.each u h));
      bits = λ u h.
          ⊎_elim (λ (e : u ≡ t). subst (λ l. slice_index now.core.pending l < 2) (sym e) r.own_bit)
          (λ (n : u ≡ t → ⊥). subst (λ p. p < 2) (sym (r.other_pending u n)) (k.lines.bits u h)) (cases_eq u t);
      levels = λ u h. ap (λ l. slice_index l u) r.machine.levels ∙ k.lines.levels u h;
      counters = λ c h.
          let beyond = no_task b old s k c h t r.declared in
          line_stands b.config old.core now.core c _ (r.other_enabled (counter_line c) beyond) (r.other_pending (counter_line c) beyond) r.machine.levels (k.lines.counters c h);
      others = λ l h. r.other_enabled l (λ e. let c = r.declared in let f = unused_behind (owners_in b.config) l h in omega arith) ∙ k.lines.others l h;
    };
    running = r.running;
    words = by_task (λ u v. u < length b.config.tasks → AreServiceWords b now.core.ram u v) s t own here (λ h. r.own_words) (λ u m h. r.other_words u h m);
    clock = r.clock;
    data_stands = r.data_stands;
    apart = apart;
    tidy = record {
      booted = k.tidy.booted;
      tasks = length-set s.tasks t own ∙ k.tidy.tasks;
      each = by_task (λ u w. u < length b.config.tasks → IsTidyTask w) s t own here (λ h. r.tidy) (λ u m h. k.tidy.each u h);
    };
    fixed = fixed_kept b old now r.machine r.code k.fixed;
  }
