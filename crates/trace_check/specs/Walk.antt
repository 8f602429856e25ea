-- Events followed along the abstract scheduler, one after the other.
use Rattle.std.specs.Prelude.{ℕ, ◌-◌, ◌<◌, ◌≤◌, ◌≡◌, ◌&&◌, List, [], Bool, true, cond, length, ltb, set, take, Option, Some, None}
use Rattle.sloth_base.specs.declared.config.Config.{Config}
use Rattle.sloth_base.specs.declared.app.App.{App}
use Rattle.sloth_base.specs.declared.service.Event.{Event}
use Rattle.sloth_base.specs.declared.service.Stamped.{Stamped}
use Rattle.sloth_base.specs.Events.{served_task}
use Rattle.sloth_base.specs.Limits.{task_limit}
use Rattle.osek_scheduler.specs.State.{System, task, opening}
use Rattle.osek_scheduler.specs.Priority.{is_active}
use Rattle.osek_scheduler.specs.Steps.{OsekStep}
use Rattle.osek_scheduler.specs.Runs.{OsekRun, AreStepsBehind}
use Rattle.osek_machine.specs.Above.{is_line_above}
use Rattle.osek_machine.specs.Steps.{Machine}
use Rattle.trace_check.specs.Moments.{KeepsMoments, all_later, noted_moments}

-- the scheduler as it stands, and the moments
pub record Walk : Type 0 where
  pub machine : Machine
  pub moments : List ℕ

-- what stands above task t, if it runs, came behind moment k: the Ready tasks; no counter that is due has a moment
abbrev pub task_passes : Config → System → List ℕ → ℕ → ℕ → Bool
task_passes config s moments t k = cond (ltb t (length config.tasks) && is_active (task s t).state) (all_later (is_line_above config s t) moments k) true

-- those that this task passes over, if there is one
abbrev pub served_passes : Config → System → List ℕ → Option ℕ → ℕ → Bool
served_passes config s moments None k = true
served_passes config s moments (Some t) k = task_passes config s moments t k

-- those that an event passes over which begins at moment k
abbrev pub event_passes : Config → System → List ℕ → Event → ℕ → Bool
event_passes config s moments e k = served_passes config s moments (served_task e) k

-- the moments with one more, that of a task
abbrev pub with_moment : Option (ℕ × ℕ) → List ℕ → List ℕ
with_moment None moments = moments
with_moment (Some note) moments = set moments note.0 note.1

-- an event leads from one walk to another
pub record IsWalkStep (e : Stamped) (old new : Walk) : Type 0 where
  pub config : new.machine.config ≡ old.machine.config
  pub app : new.machine.app ≡ old.machine.app
  pub step : OsekStep old.machine.config old.machine.app e.event old.machine.system new.machine.system
  pub passes : event_passes old.machine.config old.machine.system old.moments e.event e.stamp.from ≡ true
  pub moments : new.moments ≡ noted_moments e.event e.stamp.at old.machine.system old.moments

-- and to none
abbrev pub IsWalkEnd : Stamped → Walk → Type 0
IsWalkEnd e old = event_passes old.machine.config old.machine.system old.moments e.event e.stamp.from ≡ true
    → (next : System) → OsekStep old.machine.config old.machine.app e.event old.machine.system next → ⊥

-- a walk of a configuration behind these events
pub record IsWalked (config : Config) (app : App) (past : List Stamped) (walk : Walk) : Type 0 where
  pub few : length config.tasks ≤ task_limit
  pub config_is : walk.machine.config ≡ config
  pub app_is : walk.machine.app ≡ app
  pub follows : AreStepsBehind config app [] (opening config app) past walk.machine.system
  pub keeps : KeepsMoments config app past walk.machine.system walk.moments

-- of these events the one of line k is the first with which they are no run
pub record HasStrayAt (config : Config) (app : App) (events : List Stamped) (k : ℕ) : Type 0 where
  pub positive : 0 < k
  pub inside : k ≤ length events
  pub before : OsekRun config app (take (k - 1) events)
  pub stray : OsekRun config app (take k events) → ⊥

-- behind these events: the walk, where they are a run, else the line of the first with which they are none
abbrev pub IsWalkOrStray : Config → App → List Stamped → Option ℕ → Walk → Type 0
IsWalkOrStray config app events None walk = IsWalked config app events walk
IsWalkOrStray config app events (Some k) walk = HasStrayAt config app events k
