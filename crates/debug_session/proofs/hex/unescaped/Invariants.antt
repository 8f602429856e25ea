use Rattle.std.proofs.Common.{◌≡◌, ◌++◌, drop}
use Rattle.debug_session.specs.Escapes.{unescaped, unescaped_from}
use Rattle.debug_session.proofs.hex.unescaped.Given as goal

abbrev pub invariant-loop-byte : goal.invariant-loop-byte
invariant-loop-byte l = l.content.items ++ unescaped_from l.open_escape (drop l.byte-index l.bytes) ≡ unescaped l.bytes
