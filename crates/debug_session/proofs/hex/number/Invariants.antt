use Rattle.std.proofs.Common.{◌≡◌, drop}
use Rattle.debug_session.specs.Hex.{number_from}
use Rattle.debug_session.proofs.hex.number.Given as goal

abbrev pub invariant-loop-byte : goal.invariant-loop-byte
invariant-loop-byte l = number_from l.value (drop l.byte-index l.text) ≡ number_from 0 l.text
