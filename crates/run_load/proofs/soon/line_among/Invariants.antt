use Rattle.std.proofs.Common.{◌≡◌, drop, length, map}
use Rattle.text_pieces.specs.Names.{referent}
use Rattle.run_load.specs.Soon.{line_among}
use Rattle.run_load.proofs.soon.line_among.Given as goal

abbrev pub invariant-loop-n : goal.invariant-loop-n
invariant-loop-n l = line_among (length l.lines) l.left (drop l.n (map referent l.lines)) ≡ line_among (length l.lines) l.place (map referent l.lines)
