use Rattle.std.proofs.Common.{refl}
use Rattle.section_ways.proofs.Advances.{left_as}
use Rattle.section_ways.proofs.pair.Trial.leave.Goals as goal

pub returns : goal.returns
returns c = λ _.
    let caller = c.in-Some.caller in
    let behind = c.is_behind.ensures c.if-not-is_behind.false in
    left_as c.args.self.now.config c.args.self.now.app c.args.self.now.above c.args.self.now.task c.args.stack.now.items c.pop.new.self.items c.push.new.list.items caller c.args.at
    (record { point = c.args.to; raised = caller.raised }) c.in-Some.ensures.items c.in_ok-push.ensures c.requires.item behind.0 behind.1 refl c.requires.told
