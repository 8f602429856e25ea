use Rattle.std.proofs.Common.{◌≡◌, ◌+◌, ℕ, List, ◌++◌, length}
use Rattle.std.specs.Io.KnownBytes.{Consumes}
use Rattle.sloth_io.proofs.replaced_files.read_whole.Given as goal

abbrev pub invariant-loop-count : goal.invariant-loop-count
invariant-loop-count g l = (bytes : List ℕ) × (l.into.items ≡ l.fn.into.items ++ bytes) × (length bytes + l.left ≡ l.limit)
    × Consumes (g.F.Read.remaining l.fn.from) (g.F.Read.remaining l.from) bytes

abbrev pub decreases-loop-count : goal.decreases-loop-count
decreases-loop-count g l = l.left
