use Rattle.top_answers.proofs.sources.list_parts.Goals as goal

pub list_first_item-requires-clause-in_range : goal.list_first_item-requires-clause-in_range
list_first_item-requires-clause-in_range c = (c.args.config.now, c.requires.well_formed.in_range)

pub list_first_item-requires-clause-verified : goal.list_first_item-requires-clause-verified
list_first_item-requires-clause-verified c = (c.args.config.now, c.requires.well_formed)

pub list_first_item-requires-clause-covers : goal.list_first_item-requires-clause-covers
list_first_item-requires-clause-covers c = c.requires.covers

pub list_first_item-requires-clause-agree : goal.list_first_item-requires-clause-agree
list_first_item-requires-clause-agree c = c.requires.agree
