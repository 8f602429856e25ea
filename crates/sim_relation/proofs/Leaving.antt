-- The running task ends or waits: where it leaves the machine so, the relation stands again.
use Rattle.std.proofs.Common.{◌≡◌, ℕ, List, [], ◌∷◌, sym, ap, subst, arith, inl, inr, true}
use Rattle.std.specs.Prelude.{◌≢◌}
use Rattle.sloth_base.specs.Machine.{State}
use Rattle.osek_scheduler.specs.declared.state.TaskState.TheVariants as mode
use Rattle.osek_scheduler.specs.State.{Task, System, task, with_task}
use Rattle.code_rules.specs.Code.{is_in}
use Rattle.osek_scheduler.specs.Priority.{is_active}
use Rattle.osek_scheduler.specs.Steps.{settled_state}
use Rattle.sim_relation.specs.Build.{Build, HasFittingPlaces}
use Rattle.sim_relation.specs.Context.{IsContextChain, RunsFirst, RunsTask}
use Rattle.sim_relation.specs.Progress.{HasPassed}
use Rattle.sim_relation.specs.Stands.{Stands, IsActiveTask, AreActive}
use Rattle.sim_relation.proofs.Alike.{SamePart}
use Rattle.sim_relation.specs.Moves.{TaskLeave}
use Rattle.sim_relation.proofs.ClockKept.{clock_named}
use Rattle.sim_relation.proofs.Contexts.{data_kept}
use Rattle.sim_relation.proofs.Leave.{leave_runs, leave_passed, stack_tail}
use Rattle.sim_relation.proofs.Parts.{by_task}
use Rattle.sim_relation.proofs.Rebuilt.{below_parts, other_kept, among, rebuilt}
use Rattle.sim_relation.proofs.Tops.{falling_head}

module _ (b : Build) (old now : State) (s : System) (k : Stands b old s) (fits : HasFittingPlaces b) (t : ℕ) (below : List ℕ) (stack_is : k.stack ≡ t ∷ below)
    (own : Task) (place : ℕ) (leave : TaskLeave b old now s t own place) where
  abbrev next : System
  next = settled_state (with_task s t own)

  stack : AreActive b s (t ∷ below)
  stack = subst (AreActive b s) stack_is k.active

  run : RunsTask b old s t below
  run = subst (RunsFirst b old s) stack_is k.running

  here : IsActiveTask b s t
  here = falling_head b s t below stack.falling

  part : (u : ℕ) → is_in u below ≡ true → SamePart b old.core.ram now.core.ram s next u
  part = below_parts b old.core.ram now.core.ram s t below own s.symbols stack.falling leave.others

  next_is : run.next ≡ place
  next_is = let a = run.link in let c = leave.link in omega arith

  runs : RunsFirst b now next below
  runs = leave_runs b old.core.ram now.core.ram s next now place below leave.left leave.idle part
      (subst (IsContextChain b old.core.ram s below) next_is run.chain)

  -- what goes on has passed at least what was said of it
  pub still_passed : HasPassed b now next
  still_passed = leave_passed b old.core.ram now.core.ram s next now place below leave.left (λ u h. (part u h).tasks)
      (subst (IsContextChain b old.core.ram s below) next_is run.chain)

  -- who is Active now was so, and is another task
  still : (u : ℕ) → (task next u).state ≡ mode.Active → (u ≢ t) × ((task s u).state ≡ mode.Active)
  still = by_task (λ u v. v.state ≡ mode.Active → (u ≢ t) × ((task s u).state ≡ mode.Active)) s t own (among b old s t k here.declared)
      (λ a. let c = ap is_active a in let d = leave.at_rest in cc)
      (λ u m a. (m, a))

  -- the states stand
  pub leave_stands : Stands b now next
  leave_stands = rebuilt b old now s k t own s.symbols [] below
      (record {
        declared = here.declared;
        machine = leave.machine;
        code = λ i x. leave.elsewhere i (inl x);
        active = stack_tail b s next t below stack (λ u h. (part u h).tasks) (λ u h a. still u a);
        running = runs;
        own_line = leave.own_line;
        own_bit = leave.own_bit;
        other_pending = leave.other_pending;
        other_enabled = leave.other_enabled;
        own_words = leave.own_words;
        other_words = λ u h m. other_kept b old.core.ram now.core.ram s t u fits here.declared h m (k.tidy.each u h) leave.named (λ a f. leave.others u h m (inr f)) (k.words u h);
        clock = clock_named b old.core.ram now.core.ram s.clock t fits here.declared leave.named k.clock;
        data_stands = data_kept b old.core.ram now.core.ram s.symbols (λ i x. leave.elsewhere i (inr x)) k.data_stands;
        apart = λ u h m a c. k.apart t u here.declared h (λ e. m (sym e)) (inl here.active) a;
        tidy = leave.tidy;
      })
