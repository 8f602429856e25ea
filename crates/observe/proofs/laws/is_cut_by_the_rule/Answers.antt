use Rattle.observe.proofs.Rule.{is-cut}
use Rattle.observe.proofs.laws.is_cut_by_the_rule.Goals as goal

pub returns : goal.returns
returns c steps = is-cut steps
