use Rattle.std.proofs.Common.{◌≡◌, take}
use Rattle.debug_session.specs.Framing.{checksum}
use Rattle.debug_session.proofs.hex.checksum.Given as goal

abbrev pub invariant-loop-byte : goal.invariant-loop-byte
invariant-loop-byte l = l.sum ≡ checksum (take l.byte-index l.bytes)
