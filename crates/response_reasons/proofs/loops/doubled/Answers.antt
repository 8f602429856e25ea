use Rattle.std.proofs.Common.{◌≡◌, length, arith}
use Rattle.response_reasons.proofs.Doubling.{second_more, all_doubled}
use Rattle.response_reasons.proofs.loops.doubled.Goals as goal

pub loop-node-init : goal.loop-node-init
loop-node-init c = record { count = let count = c.in_ok-twice.ensures.count in omega (arith, count); first = c.in_ok-twice.ensures.first; second = λ i lt. absurd (omega (arith, lt)) }

pub loop-node-preserved : goal.loop-node-preserved
loop-node-preserved c =
    second_more c.args.ways.now c.args.steps.now c.loop-node.twice.items c.push.new.list.items c.second_ways.result c.loop-node.node c.loop-node.invariant
    c.in_ok-push.ensures c.second_ways.ensures
