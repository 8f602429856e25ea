use Rattle.std.proofs.Common.{◌≤◌, ◌++◌, ap, length, ◌∙◌}
use Rattle.std.specs.Prelude.{map}
use Rattle.sloth_base.specs.MemoryMap.{memory_base}
use Rattle.rv32_instr.specs.declared.block.Block.{Block}
use Rattle.mem_map.specs.Sections.{block_section, linked_memory}
use Rattle.sloth_link.specs.Linked.{datum_section}
use Rattle.sloth_link.proofs.Joined.{front, back, front_inside, back_inside, written_in_turn}
use Rattle.sloth_link.proofs.Written.{length-linked}
use Rattle.sloth_link.proofs.WrittenMemory.{symbols_inside}
use Rattle.sloth_link.proofs.linking.write_all.Goals as goal

pub write_blocks-requires-clause-above : goal.write_blocks-requires-clause-above
write_blocks-requires-clause-above c = front (λ (b : Block). memory_base ≤ b.at) c.args.blocks.now c.args.items.now c.requires.room.blocks_above

pub write_blocks-requires-clause-inside : goal.write_blocks-requires-clause-inside
write_blocks-requires-clause-inside c = front_inside _ c.args.blocks.now c.args.items.now c.args.symbols.now c.requires.room

pub write_blocks-requires-2-clause-above : goal.write_blocks-requires-2-clause-above
write_blocks-requires-2-clause-above c = back (λ (b : Block). memory_base ≤ b.at) c.args.blocks.now c.args.items.now c.requires.room.blocks_above

pub write_blocks-requires-2-clause-inside : goal.write_blocks-requires-2-clause-inside
write_blocks-requires-2-clause-inside c =
    back_inside _ _ c.args.blocks.now c.args.items.now c.args.symbols.now c.requires.room
    (ap length c.write_blocks.ensures ∙ length-linked (map block_section c.args.blocks.now) _)

pub write_data-requires-clause-inside : goal.write_data-requires-clause-inside
write_data-requires-clause-inside c =
    symbols_inside _ _ (c.args.blocks.now ++ c.args.items.now) c.args.symbols.now c.requires.room
    (ap length c.write_blocks-2.ensures ∙ length-linked (map block_section c.args.items.now) _
    ∙ ap length c.write_blocks.ensures ∙ length-linked (map block_section c.args.blocks.now) _)

pub returns : goal.returns
returns c =
    c.write_data.ensures
    ∙ ap (λ m. linked_memory m (map datum_section c.args.symbols.now))
    (c.write_blocks-2.ensures ∙ ap (λ m. linked_memory m (map block_section c.args.items.now)) c.write_blocks.ensures)
    ∙ written_in_turn c.args.blocks.now c.args.items.now c.args.symbols.now _
