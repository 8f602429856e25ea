-- TerminateTask is a step, and the relation stands behind it.
use Rattle.std.proofs.Common.{ℕ, List, [], ◌∷◌, refl, sym, subst, arith}
use Rattle.std.specs.Prelude.{Contains}
use Rattle.std.specs.List.{AllByRecursion}
use Rattle.sloth_base.specs.declared.service.Service.TheVariants as service
use Rattle.sloth_base.specs.Machine.{State}
use Rattle.service_gen.specs.TerminateTask.{TerminateTaskEffect}
use Rattle.osek_scheduler.specs.State.{Task, System}
use Rattle.osek_scheduler.proofs.ServiceStates.{ended_state}
use Rattle.sim_relation.specs.Build.{Build, HasFittingPlaces}
use Rattle.sim_routines.specs.Served.{IsServiceAnswer}
use Rattle.sim_routines.specs.ServiceSteps.{MayEnd}
use Rattle.sim_routines.proofs.Ending.{ended_stands, ended_passed, elsewhere}
use Rattle.sim_routines.proofs.GoesOn.{leaves_so}

pub terminate_ends : (b : Build) (state : State) (s : System) (t : ℕ) (own : Task) (place : ℕ) (touched : List ℕ) (end : State) → HasFittingPlaces b
    → MayEnd b state s t own service.TerminateTask place → TerminateTaskEffect t place touched state end → IsServiceAnswer b s t service.TerminateTask touched end
terminate_ends b state s t own place touched end fits may effect =
    leaves_so b state s t own service.TerminateTask may.is_served fits touched end t t
    (subst (AllByRecursion (Contains (t ∷ t ∷ []))) (sym effect.touches) ((0, (omega arith), refl), tt))
    refl (ended_state t s) refl (ended_stands b state s t own service.TerminateTask place touched end fits may effect)
    (ended_passed b state s t own service.TerminateTask place touched end fits may effect)
    (elsewhere b state s t own service.TerminateTask place touched end fits may effect)
