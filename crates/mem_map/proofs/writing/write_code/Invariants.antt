use Rattle.std.proofs.Common.{◌≡◌, ◌+◌, ◌*◌, drop, length}
use Rattle.mem_map.specs.Sections.{with_bytes, code_bytes}
use Rattle.mem_map.proofs.writing.write_code.Given as goal

abbrev pub invariant-loop-instr : goal.invariant-loop-instr
invariant-loop-instr l =
    (with_bytes l.memory l.place (code_bytes (drop l.instr-index l.code)) ≡ with_bytes l.initial.memory l.at (code_bytes l.code))
    × (l.place ≡ l.at + 4 * l.instr-index) × (length l.memory ≡ length l.initial.memory)
