use Rattle.std.proofs.Common.{◌≡◌, drop}
use Rattle.debug_session.specs.Words.{count_from}
use Rattle.debug_session.proofs.words.capped_count.Given as goal

abbrev pub invariant-loop-byte : goal.invariant-loop-byte
invariant-loop-byte l = count_from l.value (drop l.byte-index l.text) ≡ count_from 0 l.text
