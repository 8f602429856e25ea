use Rattle.sloth_io.proofs.Passing.{breaks-short}
use Rattle.sloth_io.proofs.buffered.write_all.Goals as goal

pub returns-else-write_whole-bytes-clause-err : goal.returns-else-write_whole-bytes-clause-err
returns-else-write_whole-bytes-clause-err g c =
    breaks-short _ _ c.args.bytes.now c.write_whole.result c.write_whole.ensures.most c.if-write_whole-bytes.false c.write_whole.ensures.taken
