use Rattle.std.proofs.Common.{◌≡◌, ◌++◌, map, drop, false}
use Rattle.text_pieces.specs.Names.{referent}
use Rattle.debug_ways.specs.Around.{merged_from}
use Rattle.debug_ways.proofs.stepping.merged_parts.Given as goal

abbrev pub invariant-loop-part : goal.invariant-loop-part
invariant-loop-part l =
    map referent l.lines.items ++ merged_from l.after_idle (map referent (drop l.part-index l.part-items)) ≡ merged_from false (map referent l.part-items)
