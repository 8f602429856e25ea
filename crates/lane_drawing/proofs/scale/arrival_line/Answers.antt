use Rattle.std.proofs.Common.{◌∙◌, ◌++◌, ◌-◌, ap}
use Rattle.std.specs.Prelude.{codes, decimal}
use Rattle.lane_drawing.specs.Arrivals.{arrival_class, arrival_end, arrival_line}
use Rattle.lane_drawing.specs.Scale.{place, pixels}
use Rattle.lane_drawing.proofs.Pieces.{twelve}
use Rattle.lane_drawing.proofs.scale.arrival_line.Goals as goal

pub returns : goal.returns
unfolding arrival_line
returns c =
    twelve (codes "<path class=\"") (arrival_class c.args.lost) (codes "\" d=\"M") (pixels (place c.args.scale c.args.arrival.now.at)) (codes " ")
    (decimal (c.args.axis - 13)) (codes "l-4 -6h8z\"><title>") c.args.name.now (codes " arrives at ") (decimal c.args.arrival.now.at)
    (arrival_end c.args.lost) (codes "</title></path>\n") _ _ _ _ _ _ _ _ _ _ _ _
    (c.push.ensures.bytes ∙ ap (λ t. t ++ codes "<path class=\"") c.new-line.ensures)
    (c.push-2.ensures.bytes ∙ ap (λ x. c.push.new.self ++ x) c.arrival_class.ensures.is)
    c.push-3.ensures.bytes
    (c.push_pixels.ensures.is ∙ ap (λ p. c.push-3.new.self ++ pixels p) c.place-left.ensures.is)
    c.push-4.ensures.bytes c.push_number.ensures.digits c.push-5.ensures.bytes c.push-6.ensures.bytes c.push-7.ensures.bytes c.push_number-2.ensures.digits
    (c.push-8.ensures.bytes ∙ ap (λ x. c.push_number-2.new.self ++ x) c.arrival_end.ensures.is)
    c.push-9.ensures.bytes
