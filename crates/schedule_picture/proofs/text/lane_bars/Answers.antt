use Rattle.std.proofs.Common.{◌≡◌, ◌∙◌, List, All, get_or, sym, subst, ap, arith}
use Rattle.std.proofs.lemmas.List.{get_or_default}
use Rattle.lane_drawing.specs.declared.drawing.Bar.{Bar}
use Rattle.lane_drawing.specs.Bars.{IsBarInside}
use Rattle.lane_drawing.specs.Strips.{Lane, empty_lane}
use Rattle.schedule_picture.proofs.text.lane_bars.Goals as goal

pub returns-clause-inside : goal.returns-clause-inside
returns-clause-inside c =
    let drawn = c.args.drawn.now in
    let few = c.requires.lane in
    let lanes = c.requires.drawable.lanes in
    let same = get_or_default drawn.strips.now c.args.lane c.index-drawn-lane.result empty_lane (omega (arith, few, lanes)) in
    let bars : c.bars.result.now ≡ (get_or drawn.strips.now c.args.lane empty_lane).bars =
    c.bars.ensures ∙ ap (λ (l : Lane). l.bars) same in
    let P : List Bar → Type 0 = λ l. All (IsBarInside drawn.scale.from drawn.scale.to) l in
    subst P (sym bars) (c.requires.drawable.inside c.args.lane c.requires.lane)
