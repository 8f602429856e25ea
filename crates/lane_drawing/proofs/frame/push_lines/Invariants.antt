use Rattle.std.proofs.Common.{◌≡◌, ◌++◌, map, take}
use Rattle.lane_drawing.specs.Drawing.{all_lines}
use Rattle.lane_drawing.proofs.frame.push_lines.Given as goal

abbrev pub invariant-loop-line : goal.invariant-loop-line
invariant-loop-line l = l.text.items ≡ l.fn.text.items ++ all_lines (map (λ line. line.now) (take l.line-index l.lines))
