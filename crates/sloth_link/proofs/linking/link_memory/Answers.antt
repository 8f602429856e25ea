use Rattle.std.proofs.Common.{◌∙◌, arith, sym, subst, ℕ, List, ◌++◌}
use Rattle.std.specs.Prelude.{All}
use Rattle.std.specs.List.Sorted.{IsPermutation}
use Rattle.rv32_instr.specs.Range.{InRange}
use Rattle.rv32_instr.specs.declared.block.Block.{Block}
use Rattle.sloth_link.specs.declared.linking.Datum.{Datum}
use Rattle.sloth_link.specs.Image.{all_blocks, all_data, symbol_data, memory_size}
use Rattle.sloth_link.specs.Linked.{AreLinked, BlockStands, HaveRoom, HasSectionBytes, datum_section, sections_of}
use Rattle.mem_map.specs.Sections.{HaveOwnAddresses, marks_of}
use Rattle.sloth_link.proofs.InPlace.{stand}
use Rattle.sloth_link.proofs.AlarmRoom.{alarms_have_room}
use Rattle.sloth_link.proofs.linking.link_memory.Goals as goal

pub items-requires-clause-verified : goal.items-requires-clause-verified
items-requires-clause-verified c = (c.args.config.now, c.requires.well_formed)

pub all_data-requires-clause-few : goal.all_data-requires-clause-few
all_data-requires-clause-few c = c.requires.well_formed.in_range.configuration.few_alarms

pub link_all-requires-clause-room : goal.link_all-requires-clause-room
link_all-requires-clause-room c =
    let config = c.args.config.now in
    let app = c.args.app.now in
    let map = c.args.map.now in
    let blocks = c.args.blocks.now in
    let items_are = c.deref.ensures.value ∙ c.in_ok-items.ensures in
    let data_are = c.deref-2.ensures.value ∙ c.in_ok-data.ensures in
    let may = c.requires in
    let above = may.above in
    let room = alarms_have_room (memory_size map) (all_blocks app map blocks) (symbol_data app map) config.alarms
    may.well_formed.in_range.configuration.few_alarms (omega (arith, above)) may.blocks_behind may.symbols_behind may.room in
    subst (λ (bs : List Block). HaveRoom c.memory_size.result (blocks ++ bs) c.deref-2.result.now) (sym items_are)
    (subst (λ (ds : List Datum). HaveRoom c.memory_size.result (all_blocks app map blocks) ds) (sym data_are)
    (subst (λ (n : ℕ). HaveRoom n (all_blocks app map blocks) (all_data config app map)) (sym c.memory_size.ensures) room))

pub link_all-requires-clause-marks : goal.link_all-requires-clause-marks
link_all-requires-clause-marks c =
    subst (λ (bs : List Block). HaveOwnAddresses (marks_of (c.args.blocks.now ++ bs))) (sym (c.deref.ensures.value ∙ c.in_ok-items.ensures)) c.requires.own_addresses

pub returns : goal.returns
returns c =
    let config = c.args.config.now in
    let app = c.args.app.now in
    let map = c.args.map.now in
    let blocks = c.args.blocks.now in
    let memory = c.in_ok-linked.linked.memory in
    let marks = c.in_ok-linked.linked.marks in
    let h = c.in_ok-linked.ensures in
    let items_are = c.deref.ensures.value ∙ c.in_ok-items.ensures in
    let data_are = c.deref-2.ensures.value ∙ c.in_ok-data.ensures in
    let linked =
    subst (λ (n : ℕ). AreLinked n (sections_of (all_blocks app map blocks) (all_data config app map)) memory) c.memory_size.ensures
    (subst (λ (ds : List Datum). AreLinked c.memory_size.result (sections_of (all_blocks app map blocks) ds) memory) data_are
    (subst (λ (bs : List Block). AreLinked c.memory_size.result (sections_of (blocks ++ bs) c.deref-2.result.now) memory) items_are h.linked)) in
    let code = subst (λ (bs : List Block). All (BlockStands memory) (blocks ++ bs)) items_are h.code in
    let moved = subst (λ (bs : List Block). IsPermutation (marks_of (blocks ++ bs)) marks) items_are h.marks in
    record {
      stand = stand config app map blocks c.requires memory marks linked code moved;
      range = subst (λ (bs : List Block). All (λ b. All InRange b.code) (blocks ++ bs)) items_are h.range;
      code = code;
      data_stands = subst (λ (ds : List Datum). All (λ d. HasSectionBytes memory (datum_section d)) ds) data_are h.symbols;
      linked = linked;
      bytes = h.bytes;
      moved = moved;
      ascending = h.ascending;
    }
