use Rattle.std.proofs.Common.{ℕ, ◌≡◌, ◌<◌, ◌||◌, false, get_or, take}
use Rattle.std.specs.List.{list_any}
use Rattle.mem_map.specs.Wanted.{is_call_of}
use Rattle.mem_map.proofs.all_lengths.mark_calls.Given as goal
use Rattle.sloth_base.specs.Blocks.{block_count}

abbrev pub invariant-loop-item : goal.invariant-loop-item
invariant-loop-item l = (number : ℕ) → number < block_count
    → get_or l.wanted number false ≡ (get_or l.initial.wanted number false || list_any (λ item. is_call_of number item.op) (take l.item-index l.item-items))
