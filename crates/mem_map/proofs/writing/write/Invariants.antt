use Rattle.std.proofs.Common.{◌≡◌, ◌+◌, drop, length}
use Rattle.mem_map.specs.Sections.{with_bytes}
use Rattle.mem_map.proofs.writing.write.Given as goal

abbrev pub invariant-loop-byte : goal.invariant-loop-byte
invariant-loop-byte l =
    (with_bytes l.memory l.place (drop l.byte-index l.bytes) ≡ with_bytes l.initial.memory l.at l.bytes) × (l.place ≡ l.at + l.byte-index)
    × (length l.memory ≡ length l.initial.memory)
