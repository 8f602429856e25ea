use Rattle.std.proofs.Common.{◌≡◌, drop, length}
use Rattle.std.specs.Prelude.{map}
use Rattle.mem_map.specs.Sections.{linked_memory}
use Rattle.sloth_link.specs.Linked.{datum_section}
use Rattle.sloth_link.proofs.linking.write_data.Given as goal

abbrev pub invariant-loop-datum : goal.invariant-loop-datum
invariant-loop-datum l =
    (linked_memory l.memory (map datum_section (drop l.datum-index l.symbols)) ≡ linked_memory l.initial.memory (map datum_section l.symbols))
    × (length l.memory ≡ length l.initial.memory)
