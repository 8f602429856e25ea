use Rattle.observe.proofs.Masking.{enabled-outside}
use Rattle.observe.proofs.laws.stretches_are_masked.Goals as goal

pub returns-clause-pieces : goal.returns-clause-pieces
returns-clause-pieces c steps enabled zero on = (enabled-outside steps enabled zero on).each

pub returns-clause-left : goal.returns-clause-left
returns-clause-left c steps enabled zero on = (enabled-outside steps enabled zero on).left
