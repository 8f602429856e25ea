use Rattle.section_ways.proofs.Advances.{entered_as}
use Rattle.section_ways.proofs.pair.Trial.enter.Goals as goal

pub returns : goal.returns
returns c = λ _.
    let entry = c.is_entry.ensures c.if-not-is_entry.false in
    entered_as c.args.self.now.config c.args.self.now.app c.args.self.now.above c.args.self.now.task c.args.stack.now.items c.push.new.list.items c.push-2.new.list.items c.args.at
    (record { point = c.args.to; raised = c.is_raised-raised.result }) c.args.func c.in_ok-push.ensures c.in_ok-push-2.ensures c.requires.item entry.0 entry.1
    c.requires.told c.requires.raised c.is_raised-raised.ensures
