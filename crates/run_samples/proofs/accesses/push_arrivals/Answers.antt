use Rattle.std.proofs.Common.{◌∙◌}
use Rattle.run_samples.proofs.DueArrivals.{arrival_more}
use Rattle.run_samples.proofs.accesses.push_arrivals.Goals as goal

pub loop-arrival-preserved : goal.loop-arrival-preserved
loop-arrival-preserved c =
    let l = c.loop-arrival in (
      arrival_more c.args.bus.now l.bus l.raised c.set_raised.new.raised c.args.arrivals.now l.arrival-index c.arrival-item.result c.arrival_access.result _ l.noted.items
          c.push.new.list.items c.loop-arrival-test.true c.arrival-item.is l.invariant.1 c.arrival_access.ensures.is c.in_ok-push.ensures
          c.set_raised.ensures l.invariant.0,
      c.arrival_access.ensures.same ∙ l.invariant.1,
    )
