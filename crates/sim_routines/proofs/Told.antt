-- GetTaskID is a step, and the relation stands behind it.
use Rattle.std.proofs.Common.{◌≡◌, ℕ, List, [], ◌∷◌, refl, sym, subst, true}
use Rattle.std.specs.Prelude.{Contains}
use Rattle.std.specs.List.{AllByRecursion}
use Rattle.sloth_base.specs.declared.service.Service.TheVariants as service
use Rattle.sloth_base.specs.Machine.{State}
use Rattle.service_gen.specs.GetTaskID.{GetTaskIDEffect}
use Rattle.osek_scheduler.specs.State.{Task, System}
use Rattle.osek_scheduler.specs.Services.{is_there}
use Rattle.sim_relation.specs.Build.{Build, HasFittingPlaces}
use Rattle.sim_routines.specs.Served.{IsServiceAnswer}
use Rattle.sim_routines.specs.ServiceSteps.{MayGoOn}
use Rattle.sim_routines.proofs.GoesOn.{answers_number}

pub tells : (b : Build) (state : State) (s : System) (t : ℕ) (own : Task) (object : ℕ) (touched : List ℕ) (end : State) → HasFittingPlaces b
    → MayGoOn b state s t own service.GetTaskID object → GetTaskIDEffect t touched state end → IsServiceAnswer b s t service.GetTaskID touched end
tells b state s t own object touched end fits may told =
    let is = may.is_served in
    answers_number b state s t own service.GetTaskID is fits touched end t t
    (subst (AllByRecursion (Contains (t ∷ t ∷ []))) (sym told.touches) tt)
    (subst (λ o. is_there b.config own.held service.GetTaskID o ≡ true) (sym may.object_is) may.names)
    may.followed told.back told.status t told.number refl
