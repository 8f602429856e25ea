use Rattle.std.proofs.Common.{◌<◌, ℕ, slice_index_or}
use Rattle.rv32_instr.specs.Range.{InRange}
use Rattle.rv32_instr.specs.declared.InstrKind.{InstrKind}
use Rattle.sloth_link.proofs.linking.in_range.Given as goal

abbrev pub invariant-loop-instr : goal.invariant-loop-instr
invariant-loop-instr l = (k : ℕ) (d : InstrKind) → k < l.instr-index → InRange (slice_index_or l.code k d)
