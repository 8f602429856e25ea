use Rattle.std.proofs.Common.{List, subst}
use Rattle.walk_sums.specs.declared.standing.Point.{Point}
use Rattle.section_ways.specs.Standings.{IsClosedWay}
use Rattle.section_ways.proofs.Closing.{cycle_of}
use Rattle.section_ways.proofs.pair.Trial.proven_cycle.Goals as goal

pub returns : goal.returns
returns c =
    cycle_of c.args.self.now.config c.args.self.now.app c.args.self.now.above c.args.self.now.task c.args.points.items c.pop.new.self.items c.in-Some._last c.is_closed_way.ensures.lower c.in-Some.ensures.items
    (subst (λ (l : List Point). IsClosedWay c.args.self.now.config c.args.self.now.app c.args.self.now.above c.args.self.now.task l) c.as_slice.ensures.value (c.in_ok-is_closed_way.ensures.closed c.if-not-branch.false))
