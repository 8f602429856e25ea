use Rattle.std.proofs.Common.{sym, subst}
use Rattle.std.specs.Prelude.{Decides}
use Rattle.std.proofs.lemmas.Bool.Decides.{not_from_Decides}
use Rattle.response_reasons.specs.EarlySections.{BeginsEarly}
use Rattle.response_reasons.proofs.EarlyLines.{early_decided, lesser_half, later_half}
use Rattle.response_reasons.proofs.early.halved.Goals as goal

pub returns-then-is_reached-clause-around : goal.returns-then-is_reached-clause-around
returns-then-is_reached-clause-around c =
    let w = c.args.walks.now in
    let weights = c.args.weights.now in
    let decided = subst (λ b. Decides b (BeginsEarly w.config w.app weights c.args.above c.args.task c.args.counts c.middle-line.result)) (sym c.is_reached.ensures)
    (early_decided w.config w.app weights c.args.above c.args.task c.args.counts c.requires.told c.requires.some c.middle-line.result c.in_ok-sum.sum c.in_ok-sum.ensures) in
    lesser_half w.config w.app weights c.args.above c.args.task c.args.counts c.requires.told c.requires.some c.args.range c.middle-line.result c.requires.around
    (decided.0 c.if-is_reached.true)

pub returns-else-is_reached-clause-around : goal.returns-else-is_reached-clause-around
returns-else-is_reached-clause-around c =
    let w = c.args.walks.now in
    let weights = c.args.weights.now in
    let decided = subst (λ b. Decides b (BeginsEarly w.config w.app weights c.args.above c.args.task c.args.counts c.middle-line.result)) (sym c.is_reached.ensures)
    (early_decided w.config w.app weights c.args.above c.args.task c.args.counts c.requires.told c.requires.some c.middle-line.result c.in_ok-sum.sum c.in_ok-sum.ensures) in
    later_half w.config w.app weights c.args.above c.args.task c.args.counts c.requires.told c.requires.some c.args.range c.middle-line.result c.requires.around
    (not_from_Decides _ decided c.if-is_reached.false)
