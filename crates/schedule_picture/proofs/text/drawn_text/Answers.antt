use Rattle.std.proofs.Common.{◌∙◌, ◌++◌, ◌+◌, List, ℕ, length, ap}
use Rattle.lane_drawing.specs.Drawing.{head_lines}
use Rattle.schedule_picture.specs.Drawn.{drawing_of}
use Rattle.schedule_picture.proofs.Drawing.{whole_text}
use Rattle.schedule_picture.proofs.text.drawn_text.Goals as goal

pub returns : goal.returns
returns c =
    let d = drawing_of c.args.drawn.now in
    let n = length c.items-tasks.result.now in
    let m = length c.items-counters.result.now in
    let head : List ℕ = head_lines d.scale (n + m + 1) in
    whole_text d n m c.row_middle-middle.result c.lane_bars-bars.result.now _ _ _ _ _ _ _ _ (ap (λ (l : List (List ℕ)). length l) c.items-tasks.ensures)
    (ap (λ (l : List (List ℕ)). length l) c.items-counters.ensures) c.row_middle-middle.ensures c.lane_bars-bars.ensures.bars
    (c.in_ok-push_head.ensures ∙ ap (λ t. t ++ head) c.new-text.ensures.items) c.in_ok-push_axis.ensures c.in_ok-push_tasks.ensures c.in_ok-push_counters.ensures
    c.in_ok-push_lane.ensures c.in_ok-push_marks.ensures c.in_ok-push_legend.ensures c.in_ok-extend_from_slice.ensures.items
