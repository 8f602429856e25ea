use Rattle.std.proofs.Common.{◌≡◌, ◌+◌, drop}
use Rattle.std.specs.List.{prefix_len}
use Rattle.oil_parse.specs.Front.{is_passed}
use Rattle.oil_parse.proofs.lexer.run_length.Given as goal

abbrev pub invariant-loop-i : goal.invariant-loop-i
invariant-loop-i l = prefix_len (is_passed l.run) l.bytes ≡ l.i + prefix_len (is_passed l.run) (drop l.i l.bytes)
