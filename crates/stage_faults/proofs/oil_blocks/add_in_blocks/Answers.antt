use Rattle.std.proofs.Common.{◌∙◌, List, ap, subst}
use Rattle.std.proofs.lemmas.Result.{on_ok_weaker}
use Rattle.sloth_base.specs.declared.refusal.Part.TheVariants.{Oil}
use Rattle.sloth_base.specs.Search.{Somewhere}
use Rattle.oil_parse.specs.declared.tree.OilObject.{OilObject}
use Rattle.oil_table.specs.declared.counter_limits.Limits.{Limits}
use Rattle.oil_rules.specs.Blocks.{BlockText, blocks_of}
use Rattle.oil_table.specs.AlarmCounters.{limits_of}
use Rattle.oil_rules.specs.AlarmFaults.{BlockFault}
use Rattle.stage_faults.specs.Told.{Adds}
use Rattle.stage_faults.proofs.oil_blocks.add_in_blocks.Goals as goal

pub returns : goal.returns
returns c =
    let objects = c.args.tasks.now in
    let a = c.args.notes.now.items in
    let b = c.add_blocks.new.notes.items in
    let attrs = c.items-attrs.ensures in
    let blocks = c.as_slice.ensures.value ∙ c.in_ok-blocks.ensures ∙ ap blocks_of attrs in
    let limits = c.limits_of-limits.ensures ∙ ap (λ (x : List OilObject). limits_of x c.items-attrs.result.now) c.requires ∙ ap (limits_of objects) attrs in
    on_ok_weaker c.add_blocks.result
    (λ told.
    subst (λ (l : Limits). Adds Oil (Somewhere (BlockFault objects l) (blocks_of c.args.alarm.now.attrs)) a b) limits
    (subst (λ (bs : List BlockText). Adds Oil (Somewhere (BlockFault objects c.limits_of-limits.result) bs) a b) blocks told))
    c.add_blocks.ensures
