use Rattle.std.proofs.Common.{◌≡◌, ◌++◌, map, drop}
use Rattle.asm_lines.specs.Bytes.{trim}
use Rattle.text_pieces.specs.Names.{referent}
use Rattle.asm_lines.proofs.source_line.trimmed.Given as goal

abbrev pub invariant-loop-part : goal.invariant-loop-part
invariant-loop-part l = map referent l.operands.items ++ map trim (map referent (drop l.part-index l.parts)) ≡ map trim (map referent l.parts)
