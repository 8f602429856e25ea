use Rattle.std.proofs.Common.{◌∙◌, ◌++◌, ap, sym, append_assoc, append-nil}
use Rattle.schedule_picture.specs.Drawn.{drawing_of}
use Rattle.schedule_picture.specs.Picture.{task_lanes, task_lane}
use Rattle.schedule_picture.proofs.Drawing.{no_lanes, one_lane_more}
use Rattle.schedule_picture.proofs.text.push_tasks.Goals as goal

pub loop-task-init : goal.loop-task-init
loop-task-init c =
    let front = c.args.text.now.items in
    sym (append-nil front) ∙ ap (λ lanes. front ++ lanes) (sym (no_lanes (drawing_of c.args.drawn.now)))

pub loop-task-preserved : goal.loop-task-preserved
loop-task-preserved c =
    let d = drawing_of c.args.drawn.now in
    let k = c.loop-task.task in
    let front = c.args.text.now.items in
    c.in_ok-push_task.ensures ∙ ap (λ t. t ++ task_lane d k) c.loop-task.invariant ∙ append_assoc front (task_lanes d k) (task_lane d k)
    ∙ ap (λ l. front ++ l) (sym (one_lane_more d k))
