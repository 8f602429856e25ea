-- What a formula by state gives.
use Rattle.std.specs.Prelude.{ℕ, ◌≡◌, ◌<◌}
use Rattle.sloth_base.specs.Limits.{task_limit}
use Rattle.rv32_instr.specs.Memory.{Memory}
use Rattle.osek_scheduler.specs.declared.state.TaskState.{TaskState}
use Rattle.osek_scheduler.specs.declared.state.TaskState.TheVariants as mode
use Rattle.sloth_inspect.specs.States.{state_in}
use Rattle.orti_text.specs.Formulas.{Formula, value}
use Rattle.orti_text.specs.Values.{by_state}

-- the one of four formulas that a task's state says
abbrev pub formula_of_state : TaskState → (active ready suspended waiting : Formula) → Formula
formula_of_state mode.Active a r s w = a
formula_of_state mode.Ready a r s w = r
formula_of_state mode.Suspended a r s w = s
formula_of_state (mode.Waiting mask) a r s w = w

-- its value is that of the one for the state that memory and controller show of the task
abbrev pub ValuesByState : Type 0
ValuesByState =
    (m : Memory) (t : ℕ) (a r s w : Formula) → t < task_limit → value m (by_state t a r s w) ≡ value m (formula_of_state (state_in m t) a r s w)
