use Rattle.holds_infer.proofs.OneSource.{one_filled_source, filled_or_none, filled_or_refused, none_or_refused}
use Rattle.holds_infer.proofs.laws.one_source.Goals as goal

pub returns-clause-same : goal.returns-clause-same
returns-clause-same c = one_filled_source

pub returns-clause-or_none : goal.returns-clause-or_none
returns-clause-or_none c = filled_or_none

pub returns-clause-or_refused : goal.returns-clause-or_refused
returns-clause-or_refused c = filled_or_refused

pub returns-clause-none_or_refused : goal.returns-clause-none_or_refused
returns-clause-none_or_refused c = none_or_refused
