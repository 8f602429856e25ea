use Rattle.std.proofs.Common.{◌≡◌, ◌++◌, map, drop}
use Rattle.text_pieces.specs.Names.{referent}
use Rattle.debug_ways.specs.Around.{sided}
use Rattle.debug_ways.proofs.stepping.sided.Given as goal

abbrev pub invariant-loop-line : goal.invariant-loop-line
invariant-loop-line l =
    map referent l.kept.items ++ sided l.past l.count (map referent (drop l.line-index l.lines)) ≡ sided l.past l.count (map referent l.lines)
