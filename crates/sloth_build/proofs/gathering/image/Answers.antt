use Rattle.std.proofs.Common.{◌≡◌, length, rules, sym, subst, List}
use Rattle.std.specs.Prelude.{All}
use Rattle.std.specs.List.Sorted.{IsPermutation}
use Rattle.rv32_instr.specs.Range.{InRange}
use Rattle.rv32_instr.specs.declared.block.Block.{Block}
use Rattle.sloth_link.specs.Image.{MayLink, all_blocks, all_data, memory_size}
use Rattle.sloth_link.specs.Linked.{AreLinked, BlockStands, sections_of}
use Rattle.mem_map.specs.Sections.{marks_of}
use Rattle.sloth_build.specs.Gathered.{MayGenerate}
use Rattle.sloth_build.specs.ImageOf.{IsImageOf}
use Rattle.sloth_build.proofs.Formed.{in_format}
use Rattle.sloth_build.proofs.Linking.{linked_image, sound, weighed, paced, shows}
use Rattle.sloth_base.specs.Limits.{task_limit}
use Rattle.sloth_build.proofs.Planning.{may_generate}
use Rattle.sloth_build.proofs.gathering.image.Goals.{In_ok-image}
use Rattle.sloth_build.proofs.gathering.image.Goals as goal

pub gather-requires : goal.gather-requires
gather-requires c =
    let long : length c.assign-levels.result.task ≡ task_limit = search rules in
    may_generate c.args.config.now c.args.app.now c.args.bounds.now c.requires c.assign-levels.result c.in_ok-map.map c.assign-levels.ensures.levels long
    c.assign-levels.ensures.within c.in_ok-map.ensures

pub link-requires : goal.link-requires
link-requires c =
    subst (MayLink c.args.config.now c.args.app.now c.in_ok-map.map) (sym c.deref.ensures.value) c.in_ok-blocks.ensures.linkable

is_image : (c : In_ok-image) → MayGenerate c.args.config.now c.args.app.now c.assign-levels.result c.in_ok-map.map
    → IsImageOf c.args.config.now c.args.app.now c.assign-levels.result c.in_ok-map.map c.in_ok-image.image.memory c.in_ok-image.image.marks
is_image c may =
    let config = c.args.config.now in
    let app = c.args.app.now in
    let map = c.in_ok-map.map in
    let is = c.deref.ensures.value in
    let h = c.in_ok-image.ensures in
    linked_image c.args.config.now app c.assign-levels.result map may c.in_ok-blocks.blocks.items c.in_ok-blocks.ensures.gathered
    c.in_ok-image.image.memory c.in_ok-image.image.marks
    (subst (λ (bs : List Block). All (λ b. All InRange b.code) (all_blocks app map bs)) is h.range)
    (subst (λ (bs : List Block). AreLinked (memory_size map) (sections_of (all_blocks app map bs) (all_data config app map)) c.in_ok-image.image.memory) is h.linked)
    (subst (λ (bs : List Block). All (BlockStands c.in_ok-image.image.memory) (all_blocks app map bs)) is h.code)
    h.bytes
    (subst (λ (bs : List Block). IsPermutation (marks_of (all_blocks app map bs)) c.in_ok-image.image.marks) is h.marks)
    h.ascending

pub returns : goal.returns
returns c =
    let long : length c.assign-levels.result.task ≡ task_limit = search rules in
    let may =
    may_generate c.args.config.now c.args.app.now c.args.bounds.now c.requires c.assign-levels.result c.in_ok-map.map c.assign-levels.ensures.levels long
    c.assign-levels.ensures.within c.in_ok-map.ensures in
    let config = c.args.config.now in
    let app = c.args.app.now in
    let levels = c.assign-levels.result in
    let map = c.in_ok-map.map in
    let image = c.in_ok-image.image in
    let h = c.in_ok-image.ensures in
    let is = is_image (goal.at.returns c).In_ok-image may in
    record {
      sound = sound config app levels map may image is h.tasks h.functions h.counters;
      weighed = weighed config app levels map may image is h.tasks h.functions h.counters;
      paced = paced config app levels map may image is h.tasks h.functions h.counters;
      shows = shows config app levels map may image is h.tasks h.functions h.counters;
      items = h.items;
      format = in_format config app levels map may image is h.tasks h.functions h.counters;
      bytes = is.bytes;
      tasks = h.tasks;
      functions = h.functions;
      counters = h.counters;
      planned = record { map = map; levels = levels; are_levels = c.assign-levels.ensures.levels; planned = c.in_ok-map.ensures; is = is };
    }
