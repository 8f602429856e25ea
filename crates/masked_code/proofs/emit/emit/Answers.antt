use Rattle.std.proofs.Common.{sym, subst}
use Rattle.rv32_instr.specs.Range.{InRange}
use Rattle.masked_code.proofs.OneMore.{in_range_at}
use Rattle.masked_code.proofs.emit.emit.Goals as goal

pub put-requires : goal.put-requires
put-requires c = subst InRange (sym c.kind-item.is) (in_range_at c.args.kinds.now c.loop-kind.kind-index _ c.loop-kind-test.true c.requires)
