-- The running task is the first of the stack.
use Rattle.std.proofs.Common.{◌≡◌, ℕ, List, [], ◌∷◌, refl, ap, ◌∙◌, subst}
use Rattle.std.proofs.lemmas.Bool.{false≢true}
use Rattle.sloth_base.specs.Machine.{State}
use Rattle.masked_code.specs.Kernel.{IsContextBelow}
use Rattle.osek_scheduler.specs.State.{Task, System, with_task}
use Rattle.osek_scheduler.specs.Steps.{settled_state}
use Rattle.sim_induction.specs.Mirror.{IsRunningTask}
use Rattle.sim_relation.specs.Build.{Build, HasFittingPlaces}
use Rattle.sim_relation.specs.Context.{RunsFirst, RunsTask}
use Rattle.sim_relation.specs.Progress.{HasPassed}
use Rattle.sim_relation.specs.Stands.{Stands, AreActive}
use Rattle.sim_relation.specs.Moves.{moved_system, TaskStep, TaskMove, TaskLeave}
use Rattle.sim_relation.proofs.Below.{is_below}
use Rattle.sim_relation.proofs.Leaving.{leave_stands, still_passed}
use Rattle.sim_relation.proofs.MirrorOf.{first_is}
use Rattle.sim_relation.proofs.TaskMoves.{task_moves}
use Rattle.sim_relation.proofs.TaskSteps.{task_steps}

module _ (b : Build) (state : State) (s : System) (t : ℕ) (fits : HasFittingPlaces b) (k : Stands b state s) (r : IsRunningTask b.config s t) where
  by_stack : (stack : List ℕ) → k.stack ≡ stack → (below : List ℕ) × (k.stack ≡ t ∷ below)
  by_stack [] is = let a : AreActive b s [] = subst (AreActive b s) is k.active in absurd (false≢true (a.all t r.declared r.active))
  by_stack (u ∷ below) is =
      let a : AreActive b s (u ∷ below) = subst (AreActive b s) is k.active in
      (below, is ∙ ap (λ v. v ∷ below) (first_is b s u below a t r))

  pub first_of : (below : List ℕ) × (k.stack ≡ t ∷ below)
  first_of = by_stack k.stack refl

  -- a step of the running task keeps the relation
  pub steps_keep : (now : State) (own : Task) (symbols : List (List ℕ)) → TaskStep b state now s t own symbols → Stands b now (moved_system s t own symbols)
  steps_keep now own symbols step = task_steps b state now s k fits t first_of.0 first_of.1 own symbols step

  -- a move of it does
  pub moves_keep : (now : State) (own : Task) (symbols : List (List ℕ)) → TaskMove b state now s t own symbols → Stands b now (moved_system s t own symbols)
  moves_keep now own symbols step = task_moves b state now s k t first_of.0 first_of.1 own symbols step

  -- so does a task that leaves the processor
  pub leaves_keep : (now : State) (own : Task) (place : ℕ) → TaskLeave b state now s t own place
      → Stands b now (settled_state (with_task s t own)) × HasPassed b now (settled_state (with_task s t own))
  leaves_keep now own place leave =
      (leave_stands b state now s k fits t first_of.0 first_of.1 own place leave, still_passed b state now s k fits t first_of.0 first_of.1 own place leave)

  -- the running task runs, by the relation
  pub runs_task : RunsTask b state s t first_of.0
  runs_task = subst (RunsFirst b state s) first_of.1 k.running

  -- the context of what runs below it
  pub below_found : (place : ℕ) × IsContextBelow place state.core
  below_found = (runs_task.next, is_below b state s t first_of.0 fits (subst (AreActive b s) first_of.1 k.active) runs_task)
