use Rattle.response_text.proofs.PartLines.{rounds_begun, rounds_longer}
use Rattle.response_text.proofs.parts.push_rounds.Goals as goal

pub loop-t-init : goal.loop-t-init
loop-t-init c = rounds_begun c.args.config.now c.args.costs.now c.args.works.now c.args.start c.args.parts.now c.args.text.now.items

pub loop-t-preserved : goal.loop-t-preserved
loop-t-preserved c =
    rounds_longer c.args.config.now c.args.costs.now c.args.works.now c.args.start c.args.parts.now c.loop-t.t _ _ _ c.loop-t.invariant c.in_ok-push_round.ensures
