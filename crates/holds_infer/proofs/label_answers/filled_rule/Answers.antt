use Rattle.holds_infer.proofs.BodyFillings.{have_labels}
use Rattle.holds_infer.proofs.WayResources.{filled_in_range, filled_belongs}
use Rattle.holds_infer.proofs.label_answers.filled_rule.Goals as goal

pub way_filled-requires : goal.way_filled-requires
way_filled-requires c = have_labels c.args.ranked.now.config c.args.ranked.now.app c.requires.in_range

pub broken_rule-requires-clause-in_range : goal.broken_rule-requires-clause-in_range
broken_rule-requires-clause-in_range c =
    filled_in_range c.args.ranked.now.config c.args.ranked.now.app c.in_ok-filled.filled c.in_ok-filled.ensures c.requires.in_range

pub broken_rule-requires-clause-belong : goal.broken_rule-requires-clause-belong
broken_rule-requires-clause-belong c =
    filled_belongs c.args.ranked.now.config c.args.ranked.now.app c.in_ok-filled.filled c.in_ok-filled.ensures c.args.ranked.now.ranks c.requires.belong
