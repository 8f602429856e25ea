use Rattle.std.proofs.Common.{◌≡◌, ◌++◌, drop}
use Rattle.std.specs.Prelude.{map}
use Rattle.mem_map.specs.Starts.{code_byte_count}
use Rattle.mem_map.proofs.planning.code_in_bytes.Given as goal

abbrev pub invariant-loop-size : goal.invariant-loop-size
invariant-loop-size l = l.lengths.items ++ map code_byte_count (drop l.size-index l.sizes) ≡ map code_byte_count l.sizes
