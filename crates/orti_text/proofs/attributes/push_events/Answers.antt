use Rattle.orti_text.specs.declared.attributes.Attribute.TheVariants as attribute
use Rattle.orti_text.proofs.Steps.{range_more}
use Rattle.orti_text.proofs.attributes.push_events.Goals as goal

pub loop-event-preserved : goal.loop-event-preserved
loop-event-preserved c =
    range_more attribute.EventMask c.loop-event.event c.args.events _ _ _ c.loop-event-test.true c.in_ok-push.ensures c.loop-event.invariant
