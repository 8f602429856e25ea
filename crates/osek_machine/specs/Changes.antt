-- The room of a task for its changes.
use Rattle.std.specs.Prelude.{◌<◌, ◌≤◌, length}
use Rattle.sloth_base.specs.Limits.{ceiling_count, body_limit, frame_limit}
use Rattle.osek_scheduler.specs.State.{Task}
use Rattle.osek_scheduler.specs.declared.change.TaskChange.{TaskChange}
use Rattle.osek_scheduler.specs.declared.change.TaskChange.TheVariants as change
use Rattle.osek_scheduler.specs.Changes.{outer_frames}
use Rattle.osek_scheduler.specs.Frames.{CanMove, HasWord}

-- the task has room for a change
abbrev pub HasChangeRoom : TaskChange → Task → Type 0
HasChangeRoom change.Activate k = Unit {0}
HasChangeRoom (change.AddEvents mask) k = Unit {0}
HasChangeRoom (change.Answer status) k = CanMove k.frames
HasChangeRoom (change.AnswerWith value) k = CanMove k.frames
HasChangeRoom change.End k = Unit {0}
HasChangeRoom (change.Wait mask) k = CanMove k.frames
HasChangeRoom change.Pause k = CanMove k.frames
HasChangeRoom (change.Take resource) k = CanMove k.frames × (length k.held < ceiling_count)
HasChangeRoom change.Release k = CanMove k.frames
HasChangeRoom (change.ClearEvents mask) k = CanMove k.frames
HasChangeRoom (change.Start func words non) k = words ≤ frame_limit
HasChangeRoom (change.Resume non) k = Unit {0}
HasChangeRoom (change.ComeBack non) k = Unit {0}
HasChangeRoom (change.Write rd value) k = CanMove k.frames
HasChangeRoom (change.GoTo item) k = Unit {0}
HasChangeRoom change.MoveOn k = CanMove k.frames
HasChangeRoom (change.StoreWord word value) k = CanMove k.frames × HasWord word k.frames
HasChangeRoom (change.Invoke func words) k = (length k.frames < body_limit) × (words ≤ frame_limit)
HasChangeRoom change.Return k = CanMove (outer_frames k.frames)
