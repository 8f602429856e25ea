use Rattle.response_text.proofs.PartLines.{ticks_begun, ticks_longer}
use Rattle.response_text.proofs.parts.push_ticks.Goals as goal

pub loop-c-init : goal.loop-c-init
loop-c-init c = ticks_begun c.args.config.now c.args.costs.now c.args.counts c.args.text.now.items

pub loop-c-preserved : goal.loop-c-preserved
loop-c-preserved c =
    ticks_longer c.args.config.now c.args.costs.now c.args.counts c.loop-c.c _ _ _ c.loop-c.invariant c.in_ok-push_tick.ensures
