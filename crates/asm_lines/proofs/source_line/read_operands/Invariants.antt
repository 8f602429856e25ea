use Rattle.std.proofs.Common.{◌≡◌, ◌++◌, map, drop}
use Rattle.text_pieces.specs.Names.{referent}
use Rattle.asm_lines.specs.SourceLines.{read_operands}
use Rattle.asm_lines.proofs.source_line.read_operands.Given as goal

abbrev pub invariant-loop-place : goal.invariant-loop-place
invariant-loop-place l =
    l.operands.items ++ read_operands l.mnemonic l.place (map referent (drop l.place l.texts)) ≡ read_operands l.mnemonic 0 (map referent l.texts)
