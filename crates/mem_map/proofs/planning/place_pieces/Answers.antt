use Rattle.mem_map.proofs.Growing.{one_placed, one_nearer}
use Rattle.mem_map.proofs.Starts.{next_fits}
use Rattle.mem_map.proofs.planning.place_pieces.Goals as goal

pub overflow_add-end : goal.overflow_add-end
overflow_add-end c =
    record { fits = next_fits c.loop-len.end _ c.args.lengths.now c.loop-len.len-index c.loop-len-test.true c.loop-len.invariant.1 c.requires }

pub loop-len-preserved : goal.loop-len-preserved
loop-len-preserved c = (
  one_placed c.args.lengths.now c.loop-len.len-index _ _ c.args.from c.loop-len.end c.loop-len-test.true c.in_ok-push.ensures.items c.loop-len.invariant.0,
  one_nearer c.args.lengths.now c.loop-len.len-index c.args.from c.loop-len.end c.loop-len-test.true c.loop-len.invariant.1,
)
