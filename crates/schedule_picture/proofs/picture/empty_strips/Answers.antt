use Rattle.std.proofs.Common.{rules, ◌≡◌, ◌+◌, ◌++◌, [], ◌∷◌, length, arith}
use Rattle.lane_drawing.specs.Strips.{IsFreshStrip}
use Rattle.schedule_picture.proofs.Every.{each_more}
use Rattle.schedule_picture.proofs.picture.empty_strips.Goals as goal

pub loop-preserved : goal.loop-preserved
loop-preserved c =
    let counted : length c.loop.strips.items ≡ c.loop.counter = c.loop.invariant.0 in
    let is : c.push.new.self.items ≡ c.loop.strips.items ++ c.new.result ∷ [] = search rules in
    let more : length c.push.new.self.items ≡ c.loop.counter + 1 = search rules in
    (more, each_more (IsFreshStrip c.args.from) c.loop.counter c.loop.strips.items c.push.new.self.items c.new.result counted is c.loop.invariant.1 c.new.ensures)

pub returns-clause-fresh : goal.returns-clause-fresh
returns-clause-fresh c lane below = c.loop.invariant.1 lane (let e = c.loop.auto.counter-end in let t = c.loop-test.false in omega (arith, below, e, t))
