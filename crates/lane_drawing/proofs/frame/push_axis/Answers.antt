use Rattle.std.proofs.Common.{◌∙◌, ◌++◌, ap}
use Rattle.lane_drawing.specs.Drawing.{axis_line}
use Rattle.text_pieces.proofs.Ranges.{put_more}
use Rattle.lane_drawing.proofs.frame.push_axis.Goals as goal

pub loop-i-preserved : goal.loop-i-preserved
loop-i-preserved c =
    put_more (axis_line c.args.scale c.args.rows) _ _ _ c.loop-i.i _ c.loop-i-test.true
    (c.in_ok-extend_from_slice.ensures.items ∙ ap (λ l. c.loop-i.text.items ++ l) (c.bytes.ensures ∙ c.axis_line.ensures)) c.loop-i.invariant
