use Rattle.std.proofs.Common.{ℕ}
use Rattle.call_graph.specs.Tables.{bytes_lower}
use Rattle.call_graph.proofs.Growing.{grown}
use Rattle.call_graph.proofs.stack_offsets.offsets_of_tasks.Goals as goal

pub loop-number-preserved : goal.loop-number-preserved
loop-number-preserved c =
    let g = grown ℕ c.loop-number.offsets.items c.push.new.list.items c.bytes_lower.result 0 c.loop-number.number
    (bytes_lower c.args.tasks.now c.args.yielding.now c.args.bytes.now)
    c.loop-number.invariant.count c.loop-number.invariant.each c.in_ok-push.ensures c.bytes_lower.ensures in
    record { count = g.count; each = g.exact }
