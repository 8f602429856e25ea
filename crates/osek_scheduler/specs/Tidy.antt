-- What the system says of each task as it stands, for those who lay a task out in memory.
use Rattle.std.specs.Prelude.{ℕ, ◌<◌, ◌≡◌, [], true, false, length, map}
use Rattle.sloth_base.specs.declared.config.Config.{Config}
use Rattle.sloth_base.specs.declared.app.App.{App}
use Rattle.sloth_base.specs.Named.{declaration}
use Rattle.sloth_base.specs.Limits.{ceiling_count}
use Rattle.code_rules.specs.Code.{is_in}
use Rattle.osek_scheduler.specs.declared.state.TaskState.TheVariants as mode
use Rattle.osek_scheduler.specs.State.{Task}
use Rattle.osek_scheduler.specs.Priority.{is_active}
use Rattle.osek_scheduler.specs.Valid.{AreCalls, held_by, AreDistinct, IsAtRest}

-- what is true of task t in each state of a run
pub record IsTidy (config : Config) (app : App) (t : ℕ) (own : Task) : Type 0 where
  pub registers : length own.registers ≡ 25
  pub at_rest : is_active own.state ≡ false → IsAtRest own
  pub asleep : own.state ≡ mode.Suspended → (own.frames ≡ []) × (own.events ≡ 0)
  -- a task whose scheduling is NON that holds a resource has its internal resource too
  pub raised_by : (r : ℕ) → is_in r own.held ≡ true → own.raised ≡ (declaration config t).non
  -- RES_SCHEDULER has the greatest number
  pub few : (r : ℕ) → is_in r own.held ≡ true → r < ceiling_count
  pub events_small : own.events < 0x1_0000_0000
  pub wait_small : (mask : ℕ) → own.state ≡ mode.Waiting mask → mask < 0x1_0000_0000
  pub calls : AreCalls app t own.frames
  -- what it holds is what its functions hold before their items
  pub held : own.held ≡ held_by app own.frames
  -- no function is entered twice, so there are at most as many frames as functions
  pub frames_differ : AreDistinct (map (λ frame. frame.func) own.frames)
