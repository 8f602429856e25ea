use Rattle.lane_drawing.specs.Strips.{ShowsMore}
use Rattle.schedule_picture.specs.Lanes.{HaveChanged}
use Rattle.schedule_picture.specs.LaneLooks.{lane_look}
use Rattle.schedule_picture.proofs.picture.show.Given as goal

abbrev pub invariant-loop-lane : goal.invariant-loop-lane
invariant-loop-lane l = HaveChanged (λ lane. ShowsMore l.count (lane_look l.tasks l.counters l.sample lane)) l.lane l.fn.strips.items l.strips.items
