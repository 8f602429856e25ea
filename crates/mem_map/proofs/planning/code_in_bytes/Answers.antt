use Rattle.std.proofs.Common.{refl}
use Rattle.mem_map.specs.Starts.{code_byte_count}
use Rattle.mem_map.proofs.Growing.{one_mapped}
use Rattle.mem_map.proofs.planning.code_in_bytes.Goals as goal

pub loop-size-preserved : goal.loop-size-preserved
loop-size-preserved c =
    one_mapped code_byte_count c.args.sizes.now c.loop-size.size-index 0 _ _ _ c.loop-size-test.true c.in_ok-push.ensures.items refl c.loop-size.invariant
