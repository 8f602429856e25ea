use Rattle.std.proofs.Common.{◌≡◌, ◌++◌, map, drop}
use Rattle.text_pieces.specs.Names.{referent}
use Rattle.debug_ways.specs.Around.{lines_text}
use Rattle.debug_ways.proofs.stepping.push_lines.Given as goal

abbrev pub invariant-loop-line : goal.invariant-loop-line
invariant-loop-line l = l.out.items ++ lines_text (map referent (drop l.line-index l.lines)) ≡ l.fn.out.items ++ lines_text (map referent l.lines)
