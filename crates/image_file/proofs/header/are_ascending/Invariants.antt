use Rattle.std.proofs.Common.{ℕ, ◌<◌, ◌+◌, map, slice_index}
use Rattle.image_file.proofs.header.are_ascending.Given as goal

abbrev pub invariant-loop-i : goal.invariant-loop-i
invariant-loop-i l = (k : ℕ) → k + 1 < l.i → slice_index (map (λ mark. mark.address) l.marks) k < slice_index (map (λ mark. mark.address) l.marks) (k + 1)
