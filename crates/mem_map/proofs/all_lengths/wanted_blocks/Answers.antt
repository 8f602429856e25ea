use Rattle.std.proofs.Common.{rules, length, ◌≡◌}
use Rattle.sloth_base.specs.Blocks.{block_count}
use Rattle.mem_map.proofs.Wanting.{places_are}
use Rattle.mem_map.proofs.all_lengths.wanted_blocks.Goals as goal

pub returns : goal.returns
returns c =
    let long : length c.marked.result ≡ block_count = search rules in
    places_are c.args.app.now c.marked.result long c.marked.ensures
