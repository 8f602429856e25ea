use Rattle.std.proofs.Common.{◌≡◌, ◌+◌, drop}
use Rattle.sloth_io.specs.Lines.{line_size}
use Rattle.sloth_io.proofs.sink.line_length.Given as goal

abbrev pub invariant-loop-place : goal.invariant-loop-place
invariant-loop-place l = line_size l.text ≡ l.place + line_size (drop l.place l.text)
