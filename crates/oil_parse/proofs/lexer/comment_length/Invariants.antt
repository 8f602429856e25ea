use Rattle.std.proofs.Common.{◌≡◌, ◌+◌, drop}
use Rattle.oil_parse.specs.Front.{comment_length}
use Rattle.oil_parse.proofs.lexer.comment_length.Given as goal

abbrev pub invariant-loop-i : goal.invariant-loop-i
invariant-loop-i l = comment_length l.bytes ≡ l.i + comment_length (drop l.i l.bytes)
