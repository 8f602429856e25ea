use Rattle.std.proofs.Common.{◌≡◌, ◌++◌, map, drop}
use Rattle.text_pieces.specs.Names.{referent}
use Rattle.text_pieces.specs.Lines.{without_returns}
use Rattle.text_pieces.proofs.cutting.lines_of_parts.Given as goal

abbrev pub invariant-loop-n : goal.invariant-loop-n
invariant-loop-n l = map referent l.read.items ++ without_returns (map referent (drop l.n l.parts)) ≡ without_returns (map referent l.parts)
