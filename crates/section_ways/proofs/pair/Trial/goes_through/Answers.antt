use Rattle.std.proofs.Common.{arith}
use Rattle.section_ways.proofs.Stretches.{under_way_first, under_way_more, under_way_all}
use Rattle.section_ways.proofs.pair.Trial.goes_through.Goals as goal

pub loop-number-init : goal.loop-number-init
loop-number-init c = under_way_first c.args.self.now.config c.args.self.now.app c.args.self.now.above c.args.self.now.task c.args.stack.now.items c.args.points.now c.requires.some c.requires.told c.requires.at

pub goes_further-requires-clause-told : goal.goes_further-requires-clause-told
goes_further-requires-clause-told c = c.loop-number.invariant.stretch.told

pub goes_further-requires-clause-at : goal.goes_further-requires-clause-at
goes_further-requires-clause-at c = c.loop-number.invariant.at

pub loop-number-preserved : goal.loop-number-preserved
loop-number-preserved c =
    under_way_more c.args.self.now.config c.args.self.now.app c.args.self.now.above c.args.self.now.task c.args.stack.now.items c.loop-number.stack.items c.goes_further.new.stack.items c.args.points.now c.loop-number.number c.loop-number-test.true
    c.loop-number.invariant (c.in_ok-goes_further.ensures c.if-not-branch.false)

pub returns : goal.returns
returns c = λ _.
    let past = c.loop-number-test.false in
    under_way_all c.args.self.now.config c.args.self.now.app c.args.self.now.above c.args.self.now.task c.args.stack.now.items c.loop-number.stack.items c.args.points.now c.loop-number.number (omega (arith, past)) c.loop-number.invariant
