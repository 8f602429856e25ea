use Rattle.sloth_source.proofs.Unique.{never_both}
use Rattle.sloth_source.proofs.FirstRefusal.{not_neither}
use Rattle.sloth_source.proofs.laws.one_verdict.Goals as goal

pub returns-clause-not_both : goal.returns-clause-not_both
returns-clause-not_both c = never_both

pub returns-clause-not_neither : goal.returns-clause-not_neither
returns-clause-not_neither c = not_neither
