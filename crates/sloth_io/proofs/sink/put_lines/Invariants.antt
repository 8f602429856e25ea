use Rattle.std.proofs.Common.{length}
use Rattle.sloth_io.proofs.LinePuts.{HavePut}
use Rattle.sloth_io.proofs.sink.put_lines.Given as goal

abbrev pub invariant-loop-rest : goal.invariant-loop-rest
invariant-loop-rest g l = HavePut (g.S.Sink.seen l.fn.out) (g.S.Sink.seen l.out) (g.S.Sink.pieces l.fn.out) (g.S.Sink.pieces l.out) l.text l.rest

abbrev pub decreases-loop-rest : goal.decreases-loop-rest
decreases-loop-rest g l = length l.rest
