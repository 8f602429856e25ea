use Rattle.std.proofs.Common.{◌≡◌}
use Rattle.sloth_io.specs.Sink.{output_with}
use Rattle.trace_text.specs.Listing.{first_lines}
use Rattle.core_commands.proofs.image_commands.put_listing.Given as goal

abbrev pub invariant-loop-k : goal.invariant-loop-k
invariant-loop-k g l = g.S.Sink.seen l.out ≡ output_with (g.S.Sink.seen l.fn.out) (first_lines l.image l.k)
