use Rattle.std.proofs.Common.{◌∙◌, sym}
use Rattle.trace_check.proofs.Walking.{walked_more, walks_here, strays_here}
use Rattle.trace_check.proofs.walk.Walk.follow.Goals as goal

pub returns-in-Ok : goal.returns-in-Ok
returns-in-Ok c config app past line h =
    let walked = walks_here config app past c.args.stray c.args.self.now (sym c.is_some.ensures ∙ c.if-is_some.false) h in
    walked_more config app past c.args.self.now walked c.args.event.now c.step.new.self c.in-Ok.ensures.walks

pub returns-in-Err : goal.returns-in-Err
returns-in-Err c config app past line h =
    let walked = walks_here config app past c.args.stray c.args.self.now (sym c.is_some.ensures ∙ c.if-is_some.false) h in
    strays_here config app past c.args.self.now walked c.args.event.now c.args.line line c.in-Err.ensures.stops
