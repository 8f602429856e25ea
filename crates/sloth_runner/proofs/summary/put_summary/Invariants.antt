use Rattle.std.proofs.Common.{◌≡◌}
use Rattle.sloth_io.specs.Sink.{output_with}
use Rattle.trace_text.specs.Summary.{first_kinds}
use Rattle.sloth_runner.proofs.summary.put_summary.Given as goal

abbrev pub invariant-loop-kind : goal.invariant-loop-kind
invariant-loop-kind g l = g.S.Sink.seen l.out ≡ output_with (g.S.Sink.seen l.fn.out) (first_kinds l.counts l.kind)
