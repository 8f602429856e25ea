use Rattle.std.proofs.Common.{◌≡◌, ◌++◌, ◌-◌}
use Rattle.std.specs.List.{flat_map, range_with_len}
use Rattle.lane_drawing.specs.Drawing.{axis_line, axis_lines}
use Rattle.lane_drawing.proofs.frame.push_axis.Given as goal

abbrev pub invariant-loop-i : goal.invariant-loop-i
invariant-loop-i l =
    l.text.items ++ flat_map (axis_line l.scale l.rows) (range_with_len l.i (l.i-end - l.i)) ≡ l.fn.text.items ++ axis_lines l.scale l.rows
