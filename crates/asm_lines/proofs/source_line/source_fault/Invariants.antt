use Rattle.std.proofs.Common.{◌≡◌, take, false}
use Rattle.std.specs.List.{fold}
use Rattle.sloth_base.proofs.Kept.{Loop}
use Rattle.asm_lines.specs.Faults.{FaultAt, after_line}
use Rattle.asm_lines.proofs.source_line.source_fault.Given as goal

abbrev pub invariant-loop-n : goal.invariant-loop-n
invariant-loop-n l = record { finds : Loop FaultAt l.lines l.n l.least; inside : l.inside ≡ fold after_line false (take l.n l.lines) }
