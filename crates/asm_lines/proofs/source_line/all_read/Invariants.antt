use Rattle.std.proofs.Common.{◌≡◌, ◌++◌, map, drop}
use Rattle.text_pieces.specs.Names.{referent}
use Rattle.asm_lines.specs.SourceLines.{source_line}
use Rattle.asm_lines.proofs.source_line.all_read.Given as goal

abbrev pub invariant-loop-line : goal.invariant-loop-line
invariant-loop-line l = l.read.items ++ map source_line (map referent (drop l.line-index l.lines)) ≡ map source_line (map referent l.lines)
