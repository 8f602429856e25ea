use Rattle.std.proofs.Common.{arith}
use Rattle.std.proofs.lemmas.Grind.{common_steps}
use Rattle.sloth_io.proofs.Gains.{part-taken}
use Rattle.sloth_io.proofs.mem_sink.MemSinkSink.put.Goals.{in-Some, in-None}
use Rattle.sloth_io.proofs.mem_sink.MemSinkSink.put.Goals.{else-append-via-then-append+else-is_none, else-append-via-else-append}
use Rattle.sloth_io.proofs.mem_sink.MemSinkSink.put.Goals as goal

pub returns-clause-err : goal.returns-clause-err
returns-clause-err c =
    part-taken c.call_limit-limit.result c.append.result c.args.self.now.buffer.bytes.items c.append.new.self.bytes.items c.args.piece.now
    c.args.self.now.buffer.space c.append.new.self.space c.saturating_add-self.result c.args.self.now.faults c.saturating_add-self-2.result
    c.args.self.now.fails.items
    (elim c.match-limit.branch [ in-Some w ↦ grind (arith, common_steps) | in-None w ↦ grind (arith, common_steps) ])
    (elim c.match-limit.branch [ in-Some w ↦ grind (arith, common_steps) | in-None w ↦ grind (arith, common_steps) ])
    c.append.ensures.space
    (rw c.as_slice.ensures.value at c.call_limit-limit.ensures)
    (elim c.else-append.branch [
      | else-append-via-then-append+else-is_none w ↦ grind (arith, common_steps)
      | else-append-via-else-append w ↦ grind (arith, common_steps)
    ])
    c.saturating_add-self-2.ensures
