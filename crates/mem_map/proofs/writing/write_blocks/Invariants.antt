use Rattle.std.proofs.Common.{◌≡◌, drop, length}
use Rattle.std.specs.Prelude.{map}
use Rattle.mem_map.specs.Sections.{linked_memory, block_section}
use Rattle.mem_map.proofs.writing.write_blocks.Given as goal

abbrev pub invariant-loop-block : goal.invariant-loop-block
invariant-loop-block l =
    (linked_memory l.memory (map block_section (drop l.block-index l.blocks)) ≡ linked_memory l.initial.memory (map block_section l.blocks))
    × (length l.memory ≡ length l.initial.memory)
