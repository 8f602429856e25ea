use Rattle.std.proofs.Common.{◌≡◌, length, rules, sym, subst}
use Rattle.sloth_base.specs.Limits.{task_limit}
use Rattle.sloth_build.proofs.Planning.{may_generate}
use Rattle.sloth_link.specs.Image.{MayLink}
use Rattle.top_answers.proofs.sources.list_generated.Goals as goal

pub gather-requires : goal.gather-requires
gather-requires c =
    let long : length c.assign-levels.result.task ≡ task_limit = search rules in
    may_generate c.args.config.now c.args.app.now c.args.bounds.now c.requires c.assign-levels.result c.in_ok-map.map c.assign-levels.ensures.levels long
    c.assign-levels.ensures.within c.in_ok-map.ensures

pub list_parts-requires : goal.list_parts-requires
list_parts-requires c = subst (MayLink c.args.config.now c.args.app.now c.in_ok-map.map) (sym c.as_slice.ensures.value) c.in_ok-blocks.ensures.linkable
