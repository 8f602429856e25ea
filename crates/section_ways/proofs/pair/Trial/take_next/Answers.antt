use Rattle.std.proofs.Common.{subst}
use Rattle.section_ways.specs.Standings.{IsStart}
use Rattle.section_ways.proofs.Advances.{taken_as}
use Rattle.section_ways.proofs.pair.Trial.take_next.Goals as goal

pub returns : goal.returns
returns c = λ _.
    let t = c.args.self.now in
    let leads = c.if-not-leads_into.false in
    taken_as t.config t.app t.above t.task c.pop.new.self.items c.push.new.list.items c.push-2.new.list.items c.in-Some.at
    (record { point = c.args.to; raised = c.is_raised-raised.result }) c.in_ok-push.ensures c.in_ok-push-2.ensures
    (subst (IsStart t.config t.app t.above t.task) c.in-Some.ensures.items c.requires)
    (c.leads_into.ensures.call leads) (c.leads_into.ensures.reached leads) c.is_raised-raised.ensures
