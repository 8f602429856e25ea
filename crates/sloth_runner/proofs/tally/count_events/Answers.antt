use Rattle.std.proofs.Common.{◌∙◌, ◌+◌, ap, sym, set, get_or, rules}
use Rattle.observe.specs.Progress.{remaining}
use Rattle.sloth_runner.specs.Moments.{counts_with}
use Rattle.sloth_runner.proofs.Handing.{handing-more, next-room}
use Rattle.sloth_runner.proofs.tally.count_events.Goals as goal

pub loop-event-preserved : goal.loop-event-preserved
loop-event-preserved c = record {
  room = next-room c.loop-event.counts c.kind_of.result (remaining c.loop-event.observer) (remaining c.next.new.self) c.in-Some.event (search rules) c.in-Some.ensures.head c.loop-event.invariant.room;
  counts = ap (λ k. counts_with (set c.loop-event.counts k (get_or c.loop-event.counts k 0 + 1)) (remaining c.next.new.self)) c.kind_of.ensures.is
      ∙ sym (ap (counts_with c.loop-event.counts) c.in-Some.ensures.head) ∙ c.loop-event.invariant.counts;
  handing = handing-more _ c.loop-event.observer c.next.new.self c.in-Some.event c.loop-event.invariant.handing c.in-Some.ensures.head c.next.ensures.view c.next.ensures.arrivals c.next.ensures.expected
      c.in-Some.ensures.some;
}
