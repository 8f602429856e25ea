use Rattle.sloth_build.specs.Ticks.{IsTickBlock}
use Rattle.sloth_build.proofs.Each.{grown}
use Rattle.sloth_build.proofs.gathering.ticks.Goals as goal

pub loop-counter-preserved : goal.loop-counter-preserved
loop-counter-preserved c =
    grown (IsTickBlock c.args.config.now c.args.map.now) _ _ c.loop-counter.counter c.in_ok-tick.field-0 c.in_ok-push.ensures c.loop-counter.invariant.0 c.loop-counter.invariant.1
    (let e = c.in_ok-tick.ensures in record { at = e.at; marks = e.marks; is_tick = record { size = e.size; ticks = e.effect } })
