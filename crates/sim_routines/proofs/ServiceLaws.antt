-- The law of one service, with the arrivals before its opening.
use Rattle.std.specs.Prelude.{ℕ, suc, ◌≤◌, List}
use Rattle.sloth_base.specs.declared.service.Service.{Service}
use Rattle.sloth_base.specs.Arrive.{state_arrive}
use Rattle.sloth_base.specs.Machine.{State}
use Rattle.sloth_base.specs.Owners.{owners_in, AreTasks}
use Rattle.sim_induction.specs.Events.{stretch_counts}
use Rattle.osek_scheduler.specs.State.{Task, System}
use Rattle.sim_induction.specs.PieceLaws.{served_event}
use Rattle.sim_relation.specs.Build.{Build}
use Rattle.sim_routines.specs.Served.{IsServed, IsServiceAnswer}

-- code with this effect touches the lines of tasks alone
abbrev pub TouchesTasks : Build → (List ℕ → State → State → Type 0) → Type 0
TouchesTasks b Effect = (touched : List ℕ) (start end : State) → Effect touched start end → AreTasks (owners_in b.config) touched

-- A service's own law: where the task is served from this state on, with any early arrivals, the effect is the answer.
abbrev pub ServiceLaw : Build → State → ℕ → Task → Service → (List ℕ → State → State → Type 0) → Type 0
ServiceLaw b state t own served Effect =
    (lines touched : List ℕ) (s : System) (end : State) → IsServed b (state_arrive lines state) s t own served
    → Effect touched (state_arrive lines state) end → IsServiceAnswer b s t served touched end

-- A service's own weight: the effect of at most so many instructions behind the first one is an event that may take as many.
abbrev pub ServiceWeight : Build → State → ℕ → Task → Service → (most : ℕ) → (List ℕ → State → State → Type 0) → Type 0
ServiceWeight b state t own served most Effect =
    (lines touched : List ℕ) (s : System) (end : State) → IsServed b (state_arrive lines state) s t own served
    → Effect touched (state_arrive lines state) end → IsServiceAnswer b s t served touched end
    → suc most ≤ stretch_counts b.config b.app s (served_event t served end)
