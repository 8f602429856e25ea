use Rattle.sloth_source.proofs.Unique.{one_ranked, accepted_ranks}
use Rattle.sloth_source.proofs.RankedTexts.{one_early, never_both_ranked, early_first}
use Rattle.sloth_source.proofs.laws.one_ranked.Goals as goal

pub returns-clause-meaning : goal.returns-clause-meaning
returns-clause-meaning c = one_ranked

pub returns-clause-refusal : goal.returns-clause-refusal
returns-clause-refusal c = one_early

pub returns-clause-not_both : goal.returns-clause-not_both
returns-clause-not_both c = never_both_ranked

pub returns-clause-accepted : goal.returns-clause-accepted
returns-clause-accepted c = accepted_ranks

pub returns-clause-first : goal.returns-clause-first
returns-clause-first c = early_first
