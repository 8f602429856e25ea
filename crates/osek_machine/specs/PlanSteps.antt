-- The next state by the plan of an event, and what is read for it.
use Rattle.std.specs.Prelude.{ℕ, ◌≤◌, ◌≡◌, not, is_some, length, Option, Some}
use Rattle.sloth_base.specs.Options.{is_number}
use Rattle.sloth_base.specs.declared.config.Config.{Config}
use Rattle.sloth_base.specs.declared.app.App.{App}
use Rattle.sloth_base.specs.declared.app.Op.{Op}
use Rattle.sloth_base.specs.declared.service.Service.{Service}
use Rattle.sloth_base.specs.Limits.{task_limit, body_limit}
use Rattle.osek_scheduler.specs.State.{Task, System, task}
use Rattle.osek_scheduler.specs.Meaning.{on_some, if_true}
use Rattle.osek_scheduler.specs.Steps.{settled_state}
use Rattle.osek_scheduler.specs.declared.change.Plan.{Plan}
use Rattle.osek_machine.specs.Clocked.{IsClocked}
use Rattle.osek_scheduler.specs.Frames.{CanMove}
use Rattle.osek_machine.specs.Plans.{planned_system}
use Rattle.osek_machine.specs.Running.{IsComputed, own_operation, serving_plan}

-- the plan of a service by which its caller goes on with this status
abbrev pub answer_plan : Config → App → ℕ → Service → ℕ → System → Option Plan
answer_plan config app t served status s =
    on_some (serving_plan config app t served s) (λ p. if_true (is_number status p.answer) (Some p))

-- the plan of a service by which its caller leaves
abbrev pub leave_plan : Config → App → ℕ → Service → System → Option Plan
leave_plan config app t served s = on_some (serving_plan config app t served s) (λ p. if_true (not (is_some p.answer)) (Some p))

-- the system after a plan of task t
abbrev pub followed_state : ℕ → System → Option Plan → Option System
followed_state t s o = on_some o (λ p. Some (settled_state (planned_system t p s)))

-- what is read of task code is in range, whatever the state
pub record IsRead (config : Config) (app : App) (s : System) : Type 0 where
  pub count : length s.tasks ≡ length config.tasks
  pub few : length config.tasks ≤ task_limit
  pub functions : length app.funcs ≤ body_limit
  pub computed : (k : Task) (o : Op) → own_operation app k ≡ Some o → IsComputed o
  pub moves : (t : ℕ) → CanMove (task s t).frames
  pub clocked : IsClocked config s
