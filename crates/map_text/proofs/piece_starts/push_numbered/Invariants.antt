use Rattle.std.proofs.Common.{◌≡◌, ◌++◌, drop}
use Rattle.map_text.specs.Rows.{numbered_starts}
use Rattle.map_text.proofs.piece_starts.push_numbered.Given as goal

abbrev pub invariant-loop-number : goal.invariant-loop-number
invariant-loop-number l =
    l.starts.items ++ numbered_starts l.kind l.number (drop l.number l.addresses) ≡ l.fn.starts.items ++ numbered_starts l.kind 0 l.addresses
