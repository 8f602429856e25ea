use Rattle.std.proofs.Common.{false}
use Rattle.std.proofs.lemmas.List.{get_or-replicate}
use Rattle.mem_map.proofs.all_lengths.marked.Goals as goal
use Rattle.sloth_base.specs.Blocks.{block_count}

pub loop-func-init : goal.loop-func-init
loop-func-init c = λ number below. get_or-replicate block_count number false false below
