use Rattle.std.proofs.Common.{ℕ, ◌≡◌, ◌<◌, false, get_or, take}
use Rattle.std.specs.List.{list_any}
use Rattle.mem_map.specs.Wanted.{is_called_by}
use Rattle.mem_map.proofs.all_lengths.marked.Given as goal
use Rattle.sloth_base.specs.Blocks.{block_count}

abbrev pub invariant-loop-func : goal.invariant-loop-func
invariant-loop-func l = (number : ℕ) → number < block_count
    → get_or l.wanted number false ≡ list_any (is_called_by number) (take l.func-index l.func-items)
