-- A task that is the top one when its stretch begins stays so but for those that arrive inside the stretch.
use Rattle.std.specs.Prelude.{ℕ, ◌+◌, ◌≤◌, ◌≡◌, List, [], ◌++◌, map, length, true, false}
use Rattle.sloth_base.specs.declared.config.Config.{Config}
use Rattle.sloth_base.specs.declared.app.App.{App}
use Rattle.sloth_base.specs.declared.service.Stamped.{Stamped}
use Rattle.sloth_base.specs.Owners.{first_counter_line, owners_in, AreTasks}
use Rattle.osek_scheduler.specs.declared.state.TaskState.TheVariants as mode
use Rattle.osek_scheduler.specs.State.{System, task, opening}
use Rattle.osek_scheduler.specs.Priority.{IsTop}
use Rattle.code_rules.specs.Code.{is_in}
use Rattle.osek_scheduler.specs.Runs.{AreStepsTo, PassesOver}
use Rattle.masked_code.specs.Trace.{Trace, early_arrivals}
use Rattle.sim_induction.specs.Admits.{with_admits, admit_event, arrivals_before_event}

-- where lines of tasks arrive it is the top one, those left out that were admitted since the last event of another kind
abbrev pub StaysTop : Type 0
StaysTop =
    (config : Config) (s : System) (t : ℕ) (lines : List ℕ) → length config.tasks ≤ first_counter_line → AreTasks (owners_in config) lines
    → IsTop config s [] t → (task s t).state ≡ mode.Active → is_in t s.fresh ≡ false
    → IsTop config (with_admits lines s) (with_admits lines s).fresh t

-- and each Ready task above it was admitted behind the count at which the stretch began
abbrev pub PassesOverInner : Type 0
PassesOverInner =
    (config : Config) (app : App) (past : List Stamped) (count t : ℕ) (s : System) (trace : Trace) → length config.tasks ≤ first_counter_line
    → AreStepsTo config app past (opening config app) s → s.booted ≡ true
    → AreTasks (owners_in config) (early_arrivals trace) → IsTop config s [] t → (task s t).state ≡ mode.Active
    → PassesOver config app (past ++ map admit_event (arrivals_before_event (count + 1) trace)) (with_admits (early_arrivals trace) s) t count
