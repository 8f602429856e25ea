use Rattle.std.proofs.Common.{◌∙◌, ◌++◌, ap}
use Rattle.std.specs.Prelude.{ltb, codes, decimal}
use Rattle.lane_drawing.specs.Marks.{arrow_head, arrow_line}
use Rattle.lane_drawing.specs.Scale.{place, pixels}
use Rattle.lane_drawing.proofs.Pieces.{twelve}
use Rattle.lane_drawing.proofs.scale.arrow_line.Goals as goal

pub returns : goal.returns
unfolding arrow_line
returns c =
    let front = codes "<path class=\"m\" d=\"M" in
    let a = c.args in
    c.push-10.ensures.bytes
    ∙ ap (λ t. t ++ codes "</title></path>\n")
    (c.push_number-3.ensures.digits
    ∙ ap (λ t. t ++ decimal a.at)
    (twelve front (pixels (place a.scale a.at)) (codes " ") (decimal a.from) (codes "V") (decimal a.to) (arrow_head (ltb a.from a.to)) (codes "\"><title>") a.by.now
    a.does.now a.task.now (codes " at ") _ _ _ _ _ _ _ _ _ _ _ _
    (c.push.ensures.bytes ∙ ap (λ t. t ++ front) c.new-line.ensures)
    (c.push_pixels.ensures.is ∙ ap (λ p. c.push.new.self ++ pixels p) c.place-left.ensures.is)
    c.push-2.ensures.bytes c.push_number.ensures.digits c.push-3.ensures.bytes c.push_number-2.ensures.digits
    (c.push-4.ensures.bytes ∙ ap (λ x. c.push_number-2.new.self ++ x) c.arrow_head.ensures.is)
    c.push-5.ensures.bytes c.push-6.ensures.bytes c.push-7.ensures.bytes c.push-8.ensures.bytes c.push-9.ensures.bytes))
