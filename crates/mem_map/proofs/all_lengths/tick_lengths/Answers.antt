use Rattle.std.proofs.Common.{◌∙◌, ap}
use Rattle.code_lengths.specs.CodeLengths.{tick_length}
use Rattle.mem_map.proofs.SmallLengths.{one_more_tick}
use Rattle.mem_map.proofs.all_lengths.tick_lengths.Goals as goal

pub loop-counter-preserved : goal.loop-counter-preserved
loop-counter-preserved c =
    one_more_tick c.args.config.now c.loop-counter.lengths.items c.push.new.self.items c.loop-counter.counter c.tick_length.result c.in_ok-push.ensures.items
    c.loop-counter.invariant (c.tick_length.ensures.is ∙ ap (tick_length c.loop-counter.counter) c.items-in-loop-counter.ensures)
