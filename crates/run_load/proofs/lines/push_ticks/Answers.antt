use Rattle.run_load.proofs.SeenLines.{ticks-begun, ticks-longer}
use Rattle.run_load.proofs.lines.push_ticks.Goals as goal

pub loop-counter-init : goal.loop-counter-init
loop-counter-init c = let run = c.args.run.now in ticks-begun run.config.now run.load.now run.events.now c.args.tick c.args.text.now.items

pub loop-counter-preserved : goal.loop-counter-preserved
loop-counter-preserved c =
    let run = c.args.run.now in
    ticks-longer run.config.now run.load.now run.events.now c.args.tick c.loop-counter.counter _ _ _ c.loop-counter.invariant c.in_ok-push_tick.ensures
