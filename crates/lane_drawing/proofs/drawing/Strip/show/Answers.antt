use Rattle.std.proofs.Common.{◌∙◌, sym, refl, ap}
use Rattle.lane_drawing.specs.Strips.{Lane}
use Rattle.lane_drawing.proofs.Growing.{strip_goes_on, strip_turns}
use Rattle.lane_drawing.proofs.drawing.Strip.show.Goals as goal

pub returns-then-is_same : goal.returns-then-is_same
returns-then-is_same c looks from a is here =
    let shown = ap (λ (l : Lane). l.shown) c.self.view_is in
    strip_goes_on looks from c.args.count c.args.self.now a is (here ∙ sym (sym shown ∙ c.is_same.ensures.same c.if-is_same.true))

pub returns : goal.returns
returns c looks from a is here =
    let shown = ap (λ (l : Lane). l.shown) c.self.view_is in
    let bars = ap (λ (l : Lane). l.bars) c.self-2.view_is in
    strip_turns looks from c.args.count c.args.self.now _ a is here (λ e. c.is_same.ensures.not c.if-is_same.false (shown ∙ e))
    (bars ∙ c.in_ok-close.ensures.bars) refl
