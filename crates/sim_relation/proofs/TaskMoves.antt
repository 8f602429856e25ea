-- A move of the running task: it stays Active.
use Rattle.std.proofs.Common.{◌≡◌, ℕ, ◌<◌, List, [], ◌∷◌, length, sym, ap, ◌∙◌, subst, inl, true}
use Rattle.std.specs.Prelude.{slice_index}
use Rattle.sloth_base.specs.Machine.{State}
use Rattle.osek_scheduler.specs.declared.state.TaskState.TheVariants as mode
use Rattle.osek_scheduler.specs.State.{Task, System, task}
use Rattle.sloth_base.specs.Named.{declaration}
use Rattle.code_rules.specs.Code.{is_in}
use Rattle.osek_scheduler.specs.Priority.{current_priority}
use Rattle.sloth_base.specs.PriorityLevels.{level_of}
use Rattle.sim_relation.specs.Build.{Build}
use Rattle.sim_relation.specs.Position.{thread_of}
use Rattle.sim_relation.specs.Context.{IsContext, RunsFirst, RunsTask}
use Rattle.sim_relation.specs.Stands.{Stands, IsActiveTask, AreFalling, AreActive, AreLineBytes}
use Rattle.sim_relation.proofs.Alike.{SamePart}
use Rattle.sim_relation.specs.Moves.{moved_system, TaskMove}
use Rattle.sim_relation.proofs.Contexts.{chain_kept}
use Rattle.sim_relation.proofs.Parts.{this_task, by_task, falling_kept, each_from, line_same, line_active}
use Rattle.sim_relation.proofs.Rebuilt.{below_parts, among, rebuilt}
use Rattle.sim_relation.proofs.Tops.{falling_head, is_in-head}

falling_current : (b : Build) (s next : System) (t : ℕ) (below : List ℕ) → (task next t).state ≡ mode.Active
    → ((u : ℕ) → is_in u below ≡ true → task next u ≡ task s u) → AreFalling b s (t ∷ below) → AreFalling b next (t ∷ below)
falling_current b s next t [] a e f = record { declared = f.declared; active = a }
falling_current b s next t (u ∷ below) a e f = (
  record { declared = f.0.declared; active = a },
  subst (λ v. current_priority b.config (declaration b.config u) v < (declaration b.config t).priority) (sym (e u (is_in-head u below))) f.1,
  falling_kept b s next (u ∷ below) e f.2,
)

module _ (b : Build) (old now : State) (s : System) (k : Stands b old s) (t : ℕ) (below : List ℕ) (stack_is : k.stack ≡ t ∷ below)
    (own : Task) (symbols : List (List ℕ)) (step : TaskMove b old now s t own symbols) where
  abbrev next : System
  next = moved_system s t own symbols

  stack : AreActive b s (t ∷ below)
  stack = subst (AreActive b s) stack_is k.active

  run : RunsTask b old s t below
  run = subst (RunsFirst b old s) stack_is k.running

  here : IsActiveTask b s t
  here = falling_head b s t below stack.falling

  here_now : t < length s.tasks
  here_now = among b old s t k here.declared

  this : task next t ≡ own
  this = this_task s t own here_now

  part : (u : ℕ) → is_in u below ≡ true → SamePart b old.core.ram now.core.ram s next u
  part = below_parts b old.core.ram now.core.ram s t below own symbols stack.falling step.others

  runs : RunsTask b now next t below
  runs = record {
    level = step.level ∙ sym (ap (λ v. level_of b.config (current_priority b.config (declaration b.config t) v)) this);
    current = step.current ∙ run.current;
    place = step.place;
    context = subst (λ v. IsContext b now.core.ram t v (thread_of now) step.place) (sym this) step.context;
    next = run.next;
    link = step.link ∙ run.link;
    chain = chain_kept b old.core.ram now.core.ram s next step.idle below run.next
        (each_from (SamePart b old.core.ram now.core.ram s next) below part)
        run.chain;
  }

  own_line : AreLineBytes own.state (slice_index now.core.pending t) (slice_index now.core.enabled t)
  own_line = subst (λ m. AreLineBytes m (slice_index now.core.pending t) (slice_index now.core.enabled t)) (sym step.active)
      (line_same mode.Active (slice_index old.core.pending t) (slice_index now.core.pending t) (slice_index old.core.enabled t) (slice_index now.core.enabled t)
      (ap (λ l. slice_index l t) step.machine.pending) (ap (λ l. slice_index l t) step.machine.enabled)
      (line_active (task s t).state (slice_index old.core.pending t) (slice_index old.core.enabled t) here.active (k.lines.each t here.declared)))

  pub task_moves : Stands b now next
  task_moves =
      let g = step.machine in
      rebuilt b old now s k t own symbols [] (t ∷ below)
      (record {
        declared = here.declared;
        machine = record {
          ram = g.ram;
          registers = g.registers;
          zero = g.zero;
          pending = ap length g.pending;
          enabled = ap length g.enabled;
          levels = g.levels;
          controller = g.controller;
          open_to_lines = g.open_to_lines;
          previous = g.previous;
          same_level = g.same_level;
          bases = g.bases;
        };
        code = step.code;
        active = record {
          falling = falling_current b s next t below (ap (λ w. w.state) this ∙ step.active) (λ u h. (part u h).tasks) stack.falling;
          all = by_task (λ u w. u < length b.config.tasks → w.state ≡ mode.Active → is_in u (t ∷ below) ≡ true) s t own here_now
              (λ h a. is_in-head t below) (λ u m h a. stack.all u h a);
        };
        running = runs;
        own_line = own_line;
        own_bit = subst (λ (p : List ℕ). slice_index p t < 2) (sym g.pending) (k.lines.bits t here.declared);
        other_pending = λ l m. ap (λ w. slice_index w l) g.pending;
        other_enabled = λ l m. ap (λ w. slice_index w l) g.enabled;
        own_words = step.own_words;
        other_words = step.other_words;
        clock = step.clock;
        data_stands = step.data_stands;
        apart = λ u h m a c. k.apart t u here.declared h (λ e. m (sym e)) (inl here.active) a;
        tidy = step.tidy;
      })
