-- What holds of each plan of a decision.
use Rattle.std.specs.Prelude.{◌≡◌, ◌&&◌, Bool, true, false}
use Rattle.osek_scheduler.specs.declared.change.Plan.{Plan}
use Rattle.osek_scheduler.specs.declared.state.TaskState.TheVariants as mode
use Rattle.osek_scheduler.specs.State.{System, task}
use Rattle.osek_scheduler.specs.Outcomes.{Decision, Does, IfSuspended, If}

-- a fact on each plan that may be taken in a state
abbrev pub OnPlans : System → (Plan → Type 0) → Decision → Type 0
OnPlans s P (Does p) = P p
OnPlans s P (IfSuspended t first second) =
    ((task s t).state ≡ mode.Suspended → OnPlans s P first) × (((task s t).state ≡ mode.Suspended → ⊥) → OnPlans s P second)
OnPlans s P (If test first second) = (test ≡ true → OnPlans s P first) × (test ≡ false → OnPlans s P second)

-- a test of all plans
abbrev pub all_plans : (Plan → Bool) → Decision → Bool
all_plans test (Does p) = test p
all_plans test (IfSuspended t first second) = all_plans test first && all_plans test second
all_plans test (If b first second) = all_plans test first && all_plans test second
