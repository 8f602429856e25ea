use Rattle.orti_text.specs.declared.attributes.Attribute.TheVariants as attribute
use Rattle.orti_text.proofs.Steps.{range_more}
use Rattle.orti_text.proofs.attributes.push_counters.Goals as goal

pub loop-counter-preserved : goal.loop-counter-preserved
loop-counter-preserved c =
    range_more attribute.CounterValue c.loop-counter.counter c.args.counters _ _ _ c.loop-counter-test.true c.in_ok-push.ensures c.loop-counter.invariant
