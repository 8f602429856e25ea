use Rattle.run_counts.proofs.Owned.{own_what_is_charged}
use Rattle.run_counts.proofs.laws.runs_own_what_is_charged.Goals as goal

pub returns : goal.returns
returns c = own_what_is_charged
