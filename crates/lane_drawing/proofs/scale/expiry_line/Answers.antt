use Rattle.std.proofs.Common.{◌∙◌, ◌++◌, ◌+◌, ap}
use Rattle.std.specs.Prelude.{codes, decimal}
use Rattle.lane_drawing.specs.Marks.{expiry_line}
use Rattle.lane_drawing.specs.Scale.{place, pixels}
use Rattle.lane_drawing.proofs.Pieces.{eight}
use Rattle.lane_drawing.proofs.scale.expiry_line.Goals as goal

pub returns : goal.returns
unfolding expiry_line
returns c =
    let front = codes "<path class=\"a\" d=\"M" in
    c.push-5.ensures.bytes
    ∙ ap (λ t. t ++ codes "</title></path>\n")
    (eight front (pixels (place c.args.scale c.args.at)) (codes " ") (decimal (c.args.middle + 10)) (codes "l4 4l-4 4l-4 -4z\"><title>alarm ")
    (decimal c.args.alarm) (codes " expires at ") (decimal c.args.at) _ _ _ _ _ _ _ _
    (c.push.ensures.bytes ∙ ap (λ t. t ++ front) c.new-line.ensures)
    (c.push_pixels.ensures.is ∙ ap (λ p. c.push.new.self ++ pixels p) c.place-left.ensures.is)
    c.push-2.ensures.bytes c.push_number.ensures.digits c.push-3.ensures.bytes c.push_number-2.ensures.digits c.push-4.ensures.bytes c.push_number-3.ensures.digits)
