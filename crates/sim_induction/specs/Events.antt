-- How many counts the stretch of an event takes at most, by the event and the state that it finds. No run of a built image has a stretch that takes
-- more. The longest path (`code_lengths`, LongestPaths) is less in three cases: of ChainTask where its caller goes on, 13, or chains itself, 54, and
-- of the prologue of an extended task with less than two frame words.
use Rattle.std.specs.Prelude.{ℕ, Bool, true, false, max, List, [], ◌∷◌}
use Rattle.sloth_base.specs.declared.config.Config.{Config}
use Rattle.sloth_base.specs.declared.app.App.{App}
use Rattle.sloth_base.specs.declared.service.Event.{Event}
use Rattle.sloth_base.specs.declared.service.Event.TheVariants as event
use Rattle.sloth_base.specs.declared.service.Service.{Service}
use Rattle.sloth_base.specs.declared.service.Service.TheVariants as service
use Rattle.osek_scheduler.specs.State.{Frame, System, task}
use Rattle.code_lengths.specs.LongestPaths.{going_path, leaving_path, way_back_path, enter_path, tick_path, boot_path}

-- a task that has frames goes on behind a wait as it is entered
abbrev pub has_frames : List Frame → Bool
has_frames [] = false
has_frames (frame ∷ outer) = true

-- a service with which its caller leaves, of whichever task it is
abbrev pub left_counts : Service → ℕ
left_counts served = leaving_path served false

-- a service behind which its caller goes on; whether it does is told on the way through ChainTask, so of that one the longer way counts
abbrev pub call_counts : Service → ℕ
call_counts service.ChainTask = left_counts service.ChainTask
call_counts served = going_path served

-- an entry; the prologue of an extended task asks which of the two it is
abbrev pub enter_counts : Config → App → (resumed : Bool) → (t : ℕ) → ℕ
enter_counts config app resumed t = max (enter_path config app resumed t) (enter_path config app true t)

-- the most counts of the stretch of an event; an event of one instruction alone, or of none, has no stretch
abbrev pub stretch_counts : Config → App → (found : System) → Event → ℕ
stretch_counts config app found event.Boot = boot_path config
stretch_counts config app found (event.Enter t) = enter_counts config app (has_frames (task found t).frames) t
stretch_counts config app found (event.Call t served status) = call_counts served
stretch_counts config app found (event.Left t served) = left_counts served
stretch_counts config app found (event.Back t) = way_back_path
stretch_counts config app found (event.Tick c) = tick_path config c
stretch_counts config app found _ = 0
