-- What is asked of each service: its law, said without arrivals.
use Rattle.std.specs.Prelude.{ℕ, ◌+◌, ◌≡◌, ◌⊎◌, List, [], ◌∷◌, Contains}
use Rattle.sloth_base.specs.declared.service.Service.{Service}
use Rattle.sloth_base.specs.Machine.{State}
use Rattle.sloth_region.specs.Layout.{cur}
use Rattle.rv32_instr.specs.Ram.{word_at}
use Rattle.osek_scheduler.specs.State.{Task, System, task}
use Rattle.osek_scheduler.specs.Priority.{IsTop}
use Rattle.osek_scheduler.specs.Steps.{OsekStep}
use Rattle.sim_induction.specs.PieceLaws.{served_event}
use Rattle.std.specs.List.{AllByRecursion}
use Rattle.sim_relation.specs.Bounds.{AreBelow}
use Rattle.sim_relation.specs.Build.{Build}
use Rattle.sim_relation.specs.Progress.{HasPassed}
use Rattle.sim_relation.specs.Stands.{Stands}
use Rattle.sim_routines.specs.Opening.{AtOpening}

-- The running task, whose record is `own`, stands at the service's opening mark, and is the top task but for those that arrived
-- since the last event.
pub record IsServed (b : Build) (state : State) (s : System) (t : ℕ) (own : Task) (served : Service) : Type 0 where
  pub stands : Stands b state s
  pub own_is : task s t ≡ own
  pub opening : AtOpening b state t own served
  pub top : IsTop b.config s s.fresh t
  pub bytes : AreBelow 256 state.core.ram

-- The service touches at most two lines, its event is a step of the abstract scheduler, and the states at its end are related. Its caller goes on, or
-- what was preempted where it stood.
pub record IsServiceAnswer (b : Build) (s : System) (t : ℕ) (served : Service) (touched : List ℕ) (end : State) : Type 0 where
  pub one : ℕ
  pub other : ℕ
  pub touches : AllByRecursion (Contains (one ∷ other ∷ [])) touched
  pub after : System
  pub step_is : OsekStep b.config b.app (served_event t served end) s after
  pub stands : Stands b end after
  pub resumes : (word_at end.core.ram cur ≡ t + 1) ⊎ HasPassed b end after
