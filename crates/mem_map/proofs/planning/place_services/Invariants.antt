use Rattle.std.proofs.Common.{◌≡◌, ◌++◌, drop, take, length}
use Rattle.std.specs.Prelude.{map}
use Rattle.sloth_base.specs.Blocks.{block_count}
use Rattle.mem_map.specs.Starts.{starts, end_of, code_byte_count}
use Rattle.mem_map.proofs.planning.place_services.Given as goal

abbrev pub invariant-loop-number : goal.invariant-loop-number
invariant-loop-number l =
    (take l.number l.starts ++ starts l.end (map code_byte_count (drop l.number l.sizes)) ≡ starts l.from (map code_byte_count l.sizes))
    × (end_of l.end (map code_byte_count (drop l.number l.sizes)) ≡ end_of l.from (map code_byte_count l.sizes)) × (length l.starts ≡ block_count)
