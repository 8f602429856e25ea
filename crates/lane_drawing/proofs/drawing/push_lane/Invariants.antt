use Rattle.std.proofs.Common.{◌≡◌, ◌++◌, [], take}
use Rattle.std.specs.List.{flat_map}
use Rattle.lane_drawing.specs.Drawing.{bar_line, lane_line}
use Rattle.lane_drawing.proofs.drawing.push_lane.Given as goal

abbrev pub invariant-loop-bar : goal.invariant-loop-bar
invariant-loop-bar l =
    l.to.items ≡ l.fn.to.items ++ (lane_line l.scale l.name l.axis ++ flat_map (bar_line l.scale l.name l.axis []) (take l.bar-index l.bars))
