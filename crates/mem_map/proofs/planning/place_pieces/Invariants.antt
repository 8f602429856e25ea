use Rattle.std.proofs.Common.{◌≡◌, ◌++◌, drop}
use Rattle.mem_map.specs.Starts.{starts, end_of}
use Rattle.mem_map.proofs.planning.place_pieces.Given as goal

abbrev pub invariant-loop-len : goal.invariant-loop-len
invariant-loop-len l =
    (l.starts.items ++ starts l.end (drop l.len-index l.lengths) ≡ starts l.from l.lengths)
    × (end_of l.end (drop l.len-index l.lengths) ≡ end_of l.from l.lengths)
